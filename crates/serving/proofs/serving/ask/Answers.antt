use Rattle.std.proofs.Common.{◌≡◌, ℕ, ◌-◌, length, Bool, Option, Some, refl, sym, ◌∙◌, subst}
use Rattle.handlers.specs.Calls.{HandlerCall}
use Rattle.yamux_session.specs.State.{State, Stands as SessionStands}
use Rattle.streams.specs.declared.stage.Stage.{Stage}
use Rattle.streams.specs.State.{Answered}
use Rattle.serving.proofs.Going.{not_asked, was_asked}
use Rattle.serving.proofs.Refusals.{no_more, not_both_credits}
use Rattle.serving.proofs.serving.ask.Goals as goal

pub returns-in_default-clause-asks : goal.returns-in_default-clause-asks
returns-in_default-clause-asks g c = λ role past fed sent so_far at stands e.
    not_asked g.H.Handler.steps g.H.Handler.is_closed g.H.Handler.is_finished c.args.stream.now.stage role past fed sent c.args.number so_far c.args.session.now c.args.stream.now at stands e
    (sym (c.in_default.ensures.live role past fed sent at))

pub returns-in_default-clause-left : goal.returns-in_default-clause-left
returns-in_default-clause-left g c = λ yes role past fed sent at none.
    absurd (let both = c.in_default.ensures.live role past fed sent at ∙ none in cc both)

pub returns-in-Ok-true-clause-asks : goal.returns-in-Ok-true-clause-asks
returns-in-Ok-true-clause-asks g c = λ role past fed sent so_far at stands e.
    let is_open = sym (c.in-Some.ensures.live role past fed sent at) in
    was_asked g.H.Handler.steps g.H.Handler.is_closed g.H.Handler.is_finished c.args.stream.now.stage c.acts_tell.ensures.seen c.acts_tell.ensures.windows role past fed sent c.args.number c.in-Some.credit
    so_far c.send.new.session c.args.stream.now c.send.new.stream (c.in-Ok-true.ensures.sends role past fed sent so_far at is_open stands) e is_open c.in-Ok-true.ensures.kind refl

pub returns-in-Ok-true-clause-kept : goal.returns-in-Ok-true-clause-kept
returns-in-Ok-true-clause-kept g c = λ role past fed sent at none. absurd (not_both_credits (c.in-Some.ensures.live role past fed sent at) none)

pub returns-in-Ok-false-clause-asks : goal.returns-in-Ok-false-clause-asks
returns-in-Ok-false-clause-asks g c = λ role past fed sent so_far at stands e.
    let is_open = sym (c.in-Some.ensures.live role past fed sent at) in
    was_asked g.H.Handler.steps g.H.Handler.is_closed g.H.Handler.is_finished c.args.stream.now.stage c.acts_tell.ensures.seen c.acts_tell.ensures.windows role past fed sent c.args.number c.in-Some.credit
    so_far c.send.new.session c.args.stream.now c.send.new.stream (c.in-Ok-false.ensures.sends role past fed sent so_far at is_open stands) e is_open c.in-Ok-false.ensures.kind refl

pub returns-in-Ok-false-clause-left : goal.returns-in-Ok-false-clause-left
returns-in-Ok-false-clause-left g c = λ some role past fed sent at none.
    let same = c.in-Ok-false.ensures.silent c.in-Ok-false.field-0-test in
    let was = subst (λ (s : State). SessionStands role past fed sent s) same at in
    no_more c.in-Some.credit (c.in-Some.ensures.live role past fed sent was ∙ none) some

pub returns-in-Err-clause-kept : goal.returns-in-Err-clause-kept
returns-in-Err-clause-kept g c = λ role past fed sent at none. absurd (not_both_credits (c.in-Some.ensures.live role past fed sent at) none)

pub returns-in-Err-clause-fault : goal.returns-in-Err-clause-fault
returns-in-Err-clause-fault g c = λ other.
    let it = c.in-Err.ensures.fault other in
    (it.0, (it.1.0, λ role past fed sent at. (c.in-Some.credit, sym (c.in-Some.ensures.live role past fed sent at), it.1.1)))

-- what is left is what the session says is left
answered_as : {H : Type 0} (step : H → HandlerCall → H → Type 0) (is_closed : H → Bool) (stage : Stage H) (waits amount credit : ℕ) (there : Option ℕ) → Some amount ≡ there → there ≡ Some credit
    → Answered step is_closed stage (amount - waits) → Answered step is_closed stage (credit - waits)
answered_as step is_closed stage waits amount credit there is some answers =
    subst (λ (k : ℕ). Answered step is_closed stage (k - waits)) (let e : Some amount ≡ Some credit = is ∙ some in cc e) answers

pub returns-in_default-clause-answered : goal.returns-in_default-clause-answered
returns-in_default-clause-answered g c = λ role past fed sent at credit some.
    absurd (let both = c.in_default.ensures.live role past fed sent at ∙ some in cc both)

pub returns-in-Ok-true-clause-answered : goal.returns-in-Ok-true-clause-answered
returns-in-Ok-true-clause-answered g c = λ role past fed sent at credit some.
    answered_as g.H.Handler.steps g.H.Handler.is_closed c.args.stream.now.stage (length c.args.stream.now.waiting) c.in-Some.credit credit _ (c.in-Some.ensures.live role past fed sent at) some c.in-Ok-true.ensures.answered

pub returns-in-Ok-false-clause-answered : goal.returns-in-Ok-false-clause-answered
returns-in-Ok-false-clause-answered g c = λ role past fed sent at credit some.
    answered_as g.H.Handler.steps g.H.Handler.is_closed c.args.stream.now.stage (length c.args.stream.now.waiting) c.in-Some.credit credit _ (c.in-Some.ensures.live role past fed sent at) some c.in-Ok-false.ensures.answered

pub returns-in-Err-clause-memory : goal.returns-in-Err-clause-memory
returns-in-Err-clause-memory g c = λ e role past fed sent at credit some.
    answered_as g.H.Handler.steps g.H.Handler.is_closed c.args.stream.now.stage (length c.args.stream.now.waiting) c.in-Some.credit credit _ (c.in-Some.ensures.live role past fed sent at) some (c.in-Err.ensures.memory e)

pub returns-in-Err-clause-runs_out : goal.returns-in-Err-clause-runs_out
returns-in-Err-clause-runs_out g c = λ role past fed sent so_far at stands e.
    c.in-Err.ensures.runs_out role past fed sent so_far at (sym (c.in-Some.ensures.live role past fed sent at)) stands e
