use Rattle.std.proofs.Common.{◌≡◌, ◌≢◌, ℕ, List, inl, inr, Bool, true, false, Option, Some, None, sym, ap, ◌∙◌, subst}
use Rattle.std.specs.Prelude.{IfSome, IfNone}
use Rattle.std.proofs.lemmas.Result.{err_from_is_err_and}
use Rattle.handlers.specs.Calls.{HandlerCall}
use Rattle.yamux_session.specs.declared.event.Role.{Role}
use Rattle.yamux_session.specs.History.{Item}
use Rattle.yamux_session.specs.Acts.{open_credit}
use Rattle.yamux_session.specs.State.{State, Stands as SessionStands}
use Rattle.streams.specs.Streams.{with_call}
use Rattle.streams.specs.State.{Streaming, is_open, kind_of}
use Rattle.streams.specs.declared.stage.Stage.TheVariants as stages
use Rattle.serving.specs.Served.{IsUnasked}
use Rattle.serving.specs.Wanting.{IsKept}
use Rattle.serving.specs.Steps.{Closes, CloseRunsOut}
use Rattle.serving.proofs.Going.{WasOf, has_finished_on, was_closed, left_on, was_settled, unclosed_then, untaken_then}
use Rattle.serving.proofs.Refusals.{grows_unless}
use Rattle.serving.proofs.serving.serve.Goals as goal

pub returns-in_err-is_left-clause-memory : goal.returns-in_err-is_left-clause-memory
returns-in_err-is_left-clause-memory g c = λ e role past fed sent at.
    grows_unless role past c.args.number (λ none. absurd (let it = (c.in_err-is_left.ensures.kept role past fed sent at none).0 in cc it))

pub returns-in_err-close-clause-memory : goal.returns-in_err-close-clause-memory
returns-in_err-close-clause-memory g c = λ e role past fed sent at.
    grows_unless role past c.args.number (λ none.
    let same = (c.in_ok-is_left.ensures.kept role past fed sent at none).1 in
    let there = subst (λ (s : State). SessionStands role past fed sent s) (sym same) at in
    absurd (let it = (c.in_err-close.ensures.kept role past fed sent there none).0 in cc it))

pub returns-in_err-count_taken-clause-memory : goal.returns-in_err-count_taken-clause-memory
returns-in_err-count_taken-clause-memory g c = λ e role past fed sent at.
    grows_unless role past c.args.number (λ none.
    let same = (c.in_ok-is_left.ensures.kept role past fed sent at none).1 in
    let there = subst (λ (s : State). SessionStands role past fed sent s) (sym same) at in
    let also = (c.in_ok-close.ensures.kept role past fed sent there none).1 in
    c.in_err-count_taken.ensures.memory.1 role past fed sent (subst (λ (s : State). SessionStands role past fed sent s) (sym also) there))

-- with no handler handed out the stream is where it was
was_of : {H : Type 0} (Finished : H → Type 0) (P : Type 0) (handler : Option H) (old mid new : Streaming H) → kind_of mid.stage ≡ kind_of old.stage
    → IfSome handler (λ it. (mid.stage ≡ stages.Serving it) × Finished it × (new ≡ record mid { stage = stages.Done }))
    → IfNone handler (P × (new ≡ mid)) → WasOf old.stage handler new
was_of Finished P None old mid new kind some none = ap (λ (x : Streaming _). kind_of x.stage) none.1 ∙ kind
was_of Finished P (Some it) old mid new kind some none = sym kind ∙ ap kind_of some.0

-- and where it held no handler that isn't closed it holds none
still_shut : {H : Type 0} (closed : H → Bool) (Finished : H → Type 0) (P : Type 0) (handler : Option H) (mid new : Streaming H)
    → IfSome handler (λ it. (mid.stage ≡ stages.Serving it) × Finished it × (new ≡ record mid { stage = stages.Done }))
    → IfNone handler (P × (new ≡ mid)) → is_open closed mid.stage ≡ false → is_open closed new.stage ≡ false
still_shut closed Finished P None mid new some none shut = ap (λ (x : Streaming _). is_open closed x.stage) none.1 ∙ shut
still_shut closed Finished P (Some it) mid new some none shut = ap (λ (x : Streaming _). is_open closed x.stage) some.2

unasked_then : {H : Type 0} (step : H → HandlerCall → H → Type 0) (closed : H → Bool) (role : Role) (past : List Item) (n : ℕ) (gave : Option HandlerCall) (old mid new : Streaming H)
    → (is_open closed mid.stage ≡ false → is_open closed new.stage ≡ false) → IfNone gave (IsUnasked step closed role past n old × IsUnasked step closed role past n mid)
    → IfNone gave (IsUnasked step closed role past n old × IsUnasked step closed role past n new)
unasked_then step closed role past n None old mid new shut unasked = (unasked.0, λ live off. shut (unasked.1 live off))
unasked_then step closed role past n (Some call) old mid new shut unasked = tt

pub returns-clause-serves : goal.returns-clause-serves
returns-clause-serves g c = λ role past fed sent so_far at stands e.
    let n = c.args.number in
    let was_at = c.args.stream.now.stage in
    let seen = c.acts_tell.ensures.seen in
    let windows = c.acts_tell.ensures.windows in
    let asked = c.in_ok-is_left.ensures.asks role past fed sent so_far at stands e in
    let came = with_call so_far asked.0 in
    let h = has_finished_on g.H.Handler.steps g.H.Handler.is_closed g.H.Handler.is_finished was_at seen windows role past fed sent n came c.ask.new.session c.finish-handler.result
    c.ask.new.stream c.finish-handler.new.self asked.2 c.finish-handler.ensures.handed_out c.finish-handler.ensures.none c.finish-handler.ensures.stands in
    let now = h.was_asked.goes.now in
    let was = was_of (λ it. g.H.Handler.is_finished it ≡ true) _ c.finish-handler.result c.args.stream.now c.ask.new.stream c.finish-handler.new.self c.in_ok-is_left.ensures.kind c.finish-handler.ensures.handed_out c.finish-handler.ensures.none in
    let closes = subst (λ (over : Bool). Closes role now fed sent n over c.ask.new.session c.close.new.session) c.closed.ensures
    (c.in_ok-close.ensures.closes role now fed sent h.was_asked.goes.session_stands) in
    let w = was_closed g.H.Handler.steps g.H.Handler.is_closed g.H.Handler.is_finished was_at seen windows role past fed sent n came c.finish-handler.result
    c.ask.new.session c.close.new.session c.finish-handler.new.self h.was_asked h.handed_out was h.asked_last closes in
    let left : c.in_ok-is_left.is_left ≡ true → open_credit role w.goes.now n ≢ Some 0 = λ is_left. left_on g.H.Handler.steps g.H.Handler.is_closed g.H.Handler.is_finished was_at seen windows role past fed sent n came c.finish-handler.result
    c.ask.new.session c.close.new.session now c.finish-handler.new.self closes (c.in_ok-is_left.ensures.left is_left) w in (
      asked.0,
      asked.1,
      was_settled g.H.Handler.steps g.H.Handler.is_closed g.H.Handler.is_finished was_at seen windows role past fed sent n came c.finish-handler.result
          c.close.new.session c.count_taken.new.session c.finish-handler.new.self w was (c.in_ok-count_taken.ensures.counts role w.goes.now fed sent w.goes.session_stands left),
      unasked_then g.H.Handler.steps g.H.Handler.is_closed role past n asked.0 c.args.stream.now c.ask.new.stream c.finish-handler.new.self
          (still_shut g.H.Handler.is_closed (λ it. g.H.Handler.is_finished it ≡ true) _ c.finish-handler.result c.ask.new.stream c.finish-handler.new.self c.finish-handler.ensures.handed_out c.finish-handler.ensures.none)
          asked.3,
    )

-- behind a handler that is handed out the stream isn't given up
kept_by : {H : Type 0} (Finished : H → Type 0) (P : Type 0) (handler : Option H) (old mid new : Streaming H) → kind_of mid.stage ≡ kind_of old.stage
    → IfSome handler (λ it. (mid.stage ≡ stages.Serving it) × Finished it × (new ≡ record mid { stage = stages.Done }))
    → IfNone handler (P × (new ≡ mid)) → IsKept old new
kept_by Finished P None old mid new kind some none = inl (ap (λ (x : Streaming _). kind_of x.stage) none.1 ∙ kind)
kept_by Finished P (Some it) old mid new kind some none = inr (sym kind ∙ ap kind_of some.0, ap (λ (x : Streaming _). kind_of x.stage) some.2)

pub returns-in_err-is_left-clause-runs_out : goal.returns-in_err-is_left-clause-runs_out
returns-in_err-is_left-clause-runs_out g c = λ role past fed sent so_far at stands sent_is e.
    let p = err_from_is_err_and c.from_residual.result c.from_residual.ensures.1 in
    inl (c.in_err-is_left.ensures.runs_out role past fed sent so_far at stands (cc (e, p.1, p.2)))

-- where the direction is due to be closed
pub returns-in_err-close-clause-runs_out : goal.returns-in_err-close-clause-runs_out
returns-in_err-close-clause-runs_out g c = λ role past fed sent so_far at stands e wanting.
    let n = c.args.number in
    let was_at = c.args.stream.now.stage in
    let seen = c.acts_tell.ensures.seen in
    let windows = c.acts_tell.ensures.windows in
    let asked = c.in_ok-is_left.ensures.asks role past fed sent so_far at stands e in
    let came = with_call so_far asked.0 in
    let h = has_finished_on g.H.Handler.steps g.H.Handler.is_closed g.H.Handler.is_finished was_at seen windows role past fed sent n came c.ask.new.session c.finish-handler.result
    c.ask.new.stream c.finish-handler.new.self asked.2 c.finish-handler.ensures.handed_out c.finish-handler.ensures.none c.finish-handler.ensures.stands in
    let now = h.was_asked.goes.now in
    let was = was_of (λ it. g.H.Handler.is_finished it ≡ true) _ c.finish-handler.result c.args.stream.now c.ask.new.stream c.finish-handler.new.self c.in_ok-is_left.ensures.kind c.finish-handler.ensures.handed_out c.finish-handler.ensures.none in
    let short = subst (λ (over : Bool). CloseRunsOut role now n over c.ask.new.session c.close.new.session) c.closed.ensures
    (c.in_err-close.ensures.runs_out role now fed sent h.was_asked.goes.session_stands) in
    inr (
      kept_by (λ it. g.H.Handler.is_finished it ≡ true) _ c.finish-handler.result c.args.stream.now c.ask.new.stream c.finish-handler.new.self c.in_ok-is_left.ensures.kind c.finish-handler.ensures.handed_out c.finish-handler.ensures.none,
      (
        asked.0,
        asked.1,
        unclosed_then g.H.Handler.steps g.H.Handler.is_closed g.H.Handler.is_finished was_at seen windows role past fed sent n came c.finish-handler.result
            c.ask.new.session c.close.new.session c.finish-handler.new.self h.was_asked h.handed_out was h.asked_last short,
        unasked_then g.H.Handler.steps g.H.Handler.is_closed role past n asked.0 c.args.stream.now c.ask.new.stream c.finish-handler.new.self
            (still_shut g.H.Handler.is_closed (λ it. g.H.Handler.is_finished it ≡ true) _ c.finish-handler.result c.ask.new.stream c.finish-handler.new.self c.finish-handler.ensures.handed_out c.finish-handler.ensures.none)
            asked.3,
      ),
    )

-- where what came is due to be taken
pub returns-in_err-count_taken-clause-runs_out : goal.returns-in_err-count_taken-clause-runs_out
returns-in_err-count_taken-clause-runs_out g c = λ role past fed sent so_far at stands e wanting.
    let n = c.args.number in
    let was_at = c.args.stream.now.stage in
    let seen = c.acts_tell.ensures.seen in
    let windows = c.acts_tell.ensures.windows in
    let asked = c.in_ok-is_left.ensures.asks role past fed sent so_far at stands e in
    let came = with_call so_far asked.0 in
    let h = has_finished_on g.H.Handler.steps g.H.Handler.is_closed g.H.Handler.is_finished was_at seen windows role past fed sent n came c.ask.new.session c.finish-handler.result
    c.ask.new.stream c.finish-handler.new.self asked.2 c.finish-handler.ensures.handed_out c.finish-handler.ensures.none c.finish-handler.ensures.stands in
    let now = h.was_asked.goes.now in
    let was = was_of (λ it. g.H.Handler.is_finished it ≡ true) _ c.finish-handler.result c.args.stream.now c.ask.new.stream c.finish-handler.new.self c.in_ok-is_left.ensures.kind c.finish-handler.ensures.handed_out c.finish-handler.ensures.none in
    let closes = subst (λ (over : Bool). Closes role now fed sent n over c.ask.new.session c.close.new.session) c.closed.ensures
    (c.in_ok-close.ensures.closes role now fed sent h.was_asked.goes.session_stands) in
    let w = was_closed g.H.Handler.steps g.H.Handler.is_closed g.H.Handler.is_finished was_at seen windows role past fed sent n came c.finish-handler.result
    c.ask.new.session c.close.new.session c.finish-handler.new.self h.was_asked h.handed_out was h.asked_last closes in
    let left : c.in_ok-is_left.is_left ≡ true → open_credit role w.goes.now n ≢ Some 0 = λ is_left. left_on g.H.Handler.steps g.H.Handler.is_closed g.H.Handler.is_finished was_at seen windows role past fed sent n came c.finish-handler.result
    c.ask.new.session c.close.new.session now c.finish-handler.new.self closes (c.in_ok-is_left.ensures.left is_left) w in
    inr (
      kept_by (λ it. g.H.Handler.is_finished it ≡ true) _ c.finish-handler.result c.args.stream.now c.ask.new.stream c.finish-handler.new.self c.in_ok-is_left.ensures.kind c.finish-handler.ensures.handed_out c.finish-handler.ensures.none,
      (
        asked.0,
        asked.1,
        untaken_then g.H.Handler.steps g.H.Handler.is_closed g.H.Handler.is_finished was_at seen windows role past fed sent n came c.finish-handler.result
            c.close.new.session c.count_taken.new.session c.finish-handler.new.self w was (c.in_err-count_taken.ensures.runs_out role w.goes.now fed sent w.goes.session_stands left),
        unasked_then g.H.Handler.steps g.H.Handler.is_closed role past n asked.0 c.args.stream.now c.ask.new.stream c.finish-handler.new.self
            (still_shut g.H.Handler.is_closed (λ it. g.H.Handler.is_finished it ≡ true) _ c.finish-handler.result c.ask.new.stream c.finish-handler.new.self c.finish-handler.ensures.handed_out c.finish-handler.ensures.none)
            asked.3,
      ),
    )

pub returns-in_err-is_left-clause-answered : goal.returns-in_err-is_left-clause-answered
returns-in_err-is_left-clause-answered g c = λ e.
    let p = err_from_is_err_and c.from_residual.result c.from_residual.ensures.1 in
    c.in_err-is_left.ensures.memory (cc (e, p.1, p.2))
