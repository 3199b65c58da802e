use Rattle.std.proofs.Common.{◌≡◌, ℕ, ◌+◌, ◌-◌, inl, inr, List, [], ◌∷◌, length, take, drop, refl, sym, ap, ◌∙◌, subst, arith}
use Rattle.std.proofs.lemmas.List.{length-drop}
use Rattle.yamux_frames.specs.declared.cutter.Cut.{Cut}
use Rattle.yamux_frames.specs.Frames.{StopsIn, EndsExactly, Uses}
use Rattle.yamux_session.specs.declared.event.Event.{Event}
use Rattle.yamux_session.specs.declared.heads.HeadRefused.{HeadRefused}
use Rattle.yamux_session.specs.Events.{TellsMore}
use Rattle.yamux_session.specs.Events.{Told}
use Rattle.yamux_session.specs.Heads.{IsNotTaken}
use Rattle.yamux_session.specs.Arrives.{Tells, IsFaultOnly, written_header, began}
use Rattle.yamux_session.specs.History.{arrivals, came_bytes}
use Rattle.yamux_session.specs.Table.{table_of}
use Rattle.yamux_session.specs.State.{State, Stands}
use Rattle.yamux_session.proofs.Stepping.{arrives_nothing, went, rest_of, framed, fell_at_head, fell_at_garbled, head_between, frame_went, part_went, last_went, part_arrives, part_within}
use Rattle.yamux_session.proofs.Naming.{nothing_tells_one}
use Rattle.yamux_session.proofs.Growing.{on_err, uses_some, answer_sends, frame_brings, fault_brings, garbled_brings, part_brings, part_tells, last_tells}
use Rattle.yamux_session.proofs.session.Session.step.Goals as goal

pub returns-in-Ok-default-More-clause-led : goal.returns-in-Ok-default-More-clause-led
returns-in-Ok-default-More-clause-led c = λ role past fed sent stands.
    let at = subst (λ (s : State). Stands role past fed sent s) (sym c.self.view_is) stands in
    let rest = rest_of c.deref.result.now c.args.piece.now c.args.at c.deref.ensures in
    let used : ℕ = c.in-Ok-default-More.used in
    went role past past fed (take used (drop c.args.at c.args.piece.now)) sent _ _ _ _ [] tt at refl
    (framed fed _ _ used _ _ (arrivals past) _ c.in-Ok-default-More.field-0-1-is rest (c.in-Ok-default-More.ensures.frames fed (arrivals past) at.frames))
    (arrives_nothing role past (table_of c.self.inside.streams) c.args.told.now.items c.self.inside.output.items at.table)
    at.going (nothing_tells_one role past)

pub returns-in-Err-Fault-clause-led : goal.returns-in-Err-Fault-clause-led
returns-in-Err-Fault-clause-led c = λ role past fed sent stands.
    let at = subst (λ (s : State). Stands role past fed sent s) (sym c.self.view_is) stands in
    let rest = rest_of c.deref.result.now c.args.piece.now c.args.at c.deref.ensures in
    let used : ℕ = c.in-Ok-default-Head.used in
    let frames = framed fed _ _ used _ _ (arrivals past) _ c.in-Ok-default-Head.field-0-1-is rest (c.in-Ok-default-Head.ensures.frames fed (arrivals past) at.frames) in
    let same : c.take_frame.new.told.items ≡ c.args.told.now.items =
    subst (λ (r : HeadRefused). IsFaultOnly r (c.take_frame.new.told.items ≡ c.args.told.now.items)) c.in-Err-Fault.field-0-is c.in-Err-Fault.ensures.told in
    fell_at_head role past fed (take used (drop c.args.at c.args.piece.now)) sent _ _ _ _ c.in-Ok-default-Head.header c.in-Err-Fault.fault _ at
    (subst (IsNotTaken role past c.in-Ok-default-Head.header (began c.in-Ok-default-Head.header past)) c.in-Err-Fault.field-0-is (c.in-Err-Fault.ensures.refused role past at.no_fault at.answered (head_between _ _ c.in-Ok-default-Head.header _ _ frames) at.table))
    frames
    (subst (λ (a : Cut). EndsExactly a c.feed.new.self) c.in-Ok-default-Head.field-0-1-is c.in-Ok-default-Head.ensures.exact)
    (subst (λ (xs : List Event). Tells xs c.fail.new.told.items (Told.Fault c.in-Err-Fault.fault ∷ [])) same
    (subst (λ f. Tells c.take_frame.new.told.items c.fail.new.told.items (Told.Fault f ∷ [])) c.in-Err-Fault.fault-is c.in_ok-fail-in-Err-Fault.ensures.told))
    (ap (λ (s : State). s.failed) c.in_ok-fail-in-Err-Fault.ensures.failed)
    (ap (λ (s : State). s.pending) c.in_ok-fail-in-Err-Fault.ensures.failed)

pub returns-in_ok-fail-in-Err-clause-led : goal.returns-in_ok-fail-in-Err-clause-led
returns-in_ok-fail-in-Err-clause-led c = λ role past fed sent stands.
    let at = subst (λ (s : State). Stands role past fed sent s) (sym c.self.view_is) stands in
    let rest = rest_of c.deref.result.now c.args.piece.now c.args.at c.deref.ensures in
    let all : drop c.args.at c.args.piece.now ≡ take (c.len.result - c.args.at) (drop c.args.at c.args.piece.now) =
    sym (ap (λ n. take (n - c.args.at) (drop c.args.at c.args.piece.now)) c.len.ensures.value ∙ rest_of c.args.piece.now c.args.piece.now c.args.at refl) in
    fell_at_garbled role past fed (take (c.len.result - c.args.at) (drop c.args.at c.args.piece.now)) sent _ _ _ _ c.in-Err.field-0 at
    (subst (λ (t : List ℕ). StopsIn fed (arrivals past) t c.in-Err.field-0) (rest ∙ all) (c.in-Err.ensures.garbled fed (arrivals past) at.frames))
    c.in_ok-fail-in-Err.ensures.told
    (ap (λ (s : State). s.failed) c.in_ok-fail-in-Err.ensures.failed)
    (ap (λ (s : State). s.pending) c.in_ok-fail-in-Err.ensures.failed)

pub returns-else-last-clause-led : goal.returns-else-last-clause-led
returns-else-last-clause-led c = λ role past fed sent stands.
    let at = subst (λ (s : State). Stands role past fed sent s) (sym c.self.view_is) stands in
    let rest = rest_of c.deref.result.now c.args.piece.now c.args.at c.deref.ensures in
    let used : ℕ = c.in-Ok-default-Part.used in
    let frames = framed fed _ _ used _ _ (arrivals past) _ c.in-Ok-default-Part.field-0-1-is rest (c.in-Ok-default-Part.ensures.frames fed (arrivals past) at.frames) in
    part_went role past fed (take used (drop c.args.at c.args.piece.now)) sent _ _ _ _ c.in-Ok-default-Part.last at frames c.if-last.false
    (part_arrives role past fed c.args.piece.now c.args.at used _ _ c.in-Ok-default-Part.last _ c.self.inside.output.items _ frames
    (c.in_ok-take_payload-in-Ok-default-Part.ensures.ok role past c.self.inside.output.items at.table) (part_within c.deref.result.now c.args.piece.now c.args.at used c.deref.ensures (subst (λ (a : Cut). Uses (take (length c.deref.result.now - c.args.at) (drop c.args.at c.deref.result.now)) used a) c.in-Ok-default-Part.field-0-1-is c.in-Ok-default-Part.ensures.uses).1))
    at.going

pub returns-in_ok-append_header-in-Ok-default-Head-clause-led : goal.returns-in_ok-append_header-in-Ok-default-Head-clause-led
returns-in_ok-append_header-in-Ok-default-Head-clause-led c = λ role past fed sent stands.
    let at = subst (λ (s : State). Stands role past fed sent s) (sym c.self.view_is) stands in
    let rest = rest_of c.deref.result.now c.args.piece.now c.args.at c.deref.ensures in
    let used : ℕ = c.in-Ok-default-Head.used in
    let frames = framed fed _ _ used _ _ (arrivals past) _ c.in-Ok-default-Head.field-0-1-is rest (c.in-Ok-default-Head.ensures.frames fed (arrivals past) at.frames) in
    frame_went role past fed (take used (drop c.args.at c.args.piece.now)) sent _ _ _ _ c.in-Ok-default-Head.header (written_header c.in-Ok.answer) _ refl at
    frames
    (c.in-Ok.ensures.done role past c.self.inside.output.items at.answered (head_between _ _ c.in-Ok-default-Head.header _ _ frames) at.table)
    c.in_ok-append_header-in-Ok-default-Head.ensures.ok at.going

pub returns-in_ok-take_tail-in-Ok-default-Part-clause-led : goal.returns-in_ok-take_tail-in-Ok-default-Part-clause-led
returns-in_ok-take_tail-in-Ok-default-Part-clause-led c = λ role past fed sent stands.
    let at = subst (λ (s : State). Stands role past fed sent s) (sym c.self.view_is) stands in
    let rest = rest_of c.deref.result.now c.args.piece.now c.args.at c.deref.ensures in
    let used : ℕ = c.in-Ok-default-Part.used in
    let bytes : List ℕ = take used (drop c.args.at c.args.piece.now) in
    let frames = framed fed _ _ used _ _ (arrivals past) _ c.in-Ok-default-Part.field-0-1-is rest (c.in-Ok-default-Part.ensures.frames fed (arrivals past) at.frames) in
    last_went role past fed bytes sent _ _ _ _ _ _ c.in-Ok-default-Part.last at frames c.if-last.true
    (part_arrives role past fed c.args.piece.now c.args.at used _ _ c.in-Ok-default-Part.last _ c.self.inside.output.items _ frames
    (c.in_ok-take_payload-in-Ok-default-Part.ensures.ok role past c.self.inside.output.items at.table)
    (part_within c.deref.result.now c.args.piece.now c.args.at used c.deref.ensures (subst (λ (a : Cut). Uses (take (length c.deref.result.now - c.args.at) (drop c.args.at c.deref.result.now)) used a) c.in-Ok-default-Part.field-0-1-is c.in-Ok-default-Part.ensures.uses).1))
    (λ answered whole keeps. c.in_ok-take_tail-in-Ok-default-Part.ensures.ok role (came_bytes bytes past) c.self.inside.output.items answered whole keeps)
    refl at.going

pub returns-in_err-fail-in-Err-Fault-clause-memory : goal.returns-in_err-fail-in-Err-Fault-clause-memory
returns-in_err-fail-in-Err-Fault-clause-memory c = on_err c.from_residual.result λ role past fed sent stands.
    let at = subst (λ (s : State). Stands role past fed sent s) (sym c.self.view_is) stands in
    let rest = rest_of c.deref.result.now c.args.piece.now c.args.at c.deref.ensures in
    let used : ℕ = c.in-Ok-default-Head.used in
    let frames = framed fed _ _ used _ _ (arrivals past) _ c.in-Ok-default-Head.field-0-1-is rest (c.in-Ok-default-Head.ensures.frames fed (arrivals past) at.frames) in
    fault_brings role past fed (drop c.args.at c.args.piece.now) used c.in-Ok-default-Head.header c.in-Err-Fault.fault _
    frames
    (uses_some c.deref.result.now c.args.piece.now c.args.at used _ c.deref.ensures c.in-Ok-default-Head.ensures.uses)
    (subst (IsNotTaken role past c.in-Ok-default-Head.header (began c.in-Ok-default-Head.header past)) c.in-Err-Fault.field-0-is (c.in-Err-Fault.ensures.refused role past at.no_fault at.answered (head_between _ _ c.in-Ok-default-Head.header _ _ frames) at.table))

pub returns-in-Err-OutOfMemory-clause-memory : goal.returns-in-Err-OutOfMemory-clause-memory
returns-in-Err-OutOfMemory-clause-memory c = λ role past fed sent stands.
    let at = subst (λ (s : State). Stands role past fed sent s) (sym c.self.view_is) stands in
    let rest = rest_of c.deref.result.now c.args.piece.now c.args.at c.deref.ensures in
    let used : ℕ = c.in-Ok-default-Head.used in
    let frames = framed fed _ _ used _ _ (arrivals past) _ c.in-Ok-default-Head.field-0-1-is rest (c.in-Ok-default-Head.ensures.frames fed (arrivals past) at.frames) in
    frame_brings role past fed (drop c.args.at c.args.piece.now) used c.in-Ok-default-Head.header _ _ refl
    frames
    (uses_some c.deref.result.now c.args.piece.now c.args.at used _ c.deref.ensures c.in-Ok-default-Head.ensures.uses)
    (inl (subst (IsNotTaken role past c.in-Ok-default-Head.header (began c.in-Ok-default-Head.header past)) c.in-Err-OutOfMemory.field-0-is (c.in-Err-OutOfMemory.ensures.refused role past at.no_fault at.answered (head_between _ _ c.in-Ok-default-Head.header _ _ frames) at.table)).1)

pub returns-in_err-append_header-in-Ok-default-Head-clause-memory : goal.returns-in_err-append_header-in-Ok-default-Head-clause-memory
returns-in_err-append_header-in-Ok-default-Head-clause-memory c = on_err c.from_residual-in_err-append_header-in-Ok-default-Head.result λ role past fed sent stands.
    let at = subst (λ (s : State). Stands role past fed sent s) (sym c.self.view_is) stands in
    let rest = rest_of c.deref.result.now c.args.piece.now c.args.at c.deref.ensures in
    let used : ℕ = c.in-Ok-default-Head.used in
    let frames = framed fed _ _ used _ _ (arrivals past) _ c.in-Ok-default-Head.field-0-1-is rest (c.in-Ok-default-Head.ensures.frames fed (arrivals past) at.frames) in
    frame_brings role past fed (drop c.args.at c.args.piece.now) used c.in-Ok-default-Head.header _ _ refl
    frames
    (uses_some c.deref.result.now c.args.piece.now c.args.at used _ c.deref.ensures c.in-Ok-default-Head.ensures.uses)
    (inr (answer_sends role past (began c.in-Ok-default-Head.header past) _ _ _ [] (written_header c.in-Ok.answer) (c.in-Ok.ensures.done role past [] at.answered (head_between _ _ c.in-Ok-default-Head.header _ _ frames) at.table)
    c.in_err-append_header-in-Ok-default-Head.ensures.memory))

pub returns-in_err-take_payload-in-Ok-default-Part-clause-memory : goal.returns-in_err-take_payload-in-Ok-default-Part-clause-memory
returns-in_err-take_payload-in-Ok-default-Part-clause-memory c = on_err c.from_residual-in_err-take_payload-in-Ok-default-Part.result λ role past fed sent stands.
    let at = subst (λ (s : State). Stands role past fed sent s) (sym c.self.view_is) stands in
    let rest = rest_of c.deref.result.now c.args.piece.now c.args.at c.deref.ensures in
    let used : ℕ = c.in-Ok-default-Part.used in
    let piece : List ℕ = drop c.args.at c.args.piece.now in
    let same : c.args.at + used - c.args.at ≡ used = omega arith in
    part_brings role past fed piece used c.in-Ok-default-Part.last _
    (framed fed _ _ used _ _ (arrivals past) _ c.in-Ok-default-Part.field-0-1-is rest (c.in-Ok-default-Part.ensures.frames fed (arrivals past) at.frames))
    (uses_some c.deref.result.now c.args.piece.now c.args.at used _ c.deref.ensures c.in-Ok-default-Part.ensures.uses)
    (part_tells role past (take used piece) c.in-Ok-default-Part.last
    (subst (λ n. TellsMore role past (came_bytes (take n piece) past)) same (c.in_err-take_payload-in-Ok-default-Part.ensures.memory role past at.table)))

pub returns-in_err-take_tail-in-Ok-default-Part-clause-memory : goal.returns-in_err-take_tail-in-Ok-default-Part-clause-memory
returns-in_err-take_tail-in-Ok-default-Part-clause-memory c = on_err c.from_residual-in_err-take_tail-in-Ok-default-Part.result λ role past fed sent stands.
    let at = subst (λ (s : State). Stands role past fed sent s) (sym c.self.view_is) stands in
    let rest = rest_of c.deref.result.now c.args.piece.now c.args.at c.deref.ensures in
    let used : ℕ = c.in-Ok-default-Part.used in
    let piece : List ℕ = drop c.args.at c.args.piece.now in
    let frames = framed fed _ _ used _ _ (arrivals past) _ c.in-Ok-default-Part.field-0-1-is rest (c.in-Ok-default-Part.ensures.frames fed (arrivals past) at.frames) in
    let within = uses_some c.deref.result.now c.args.piece.now c.args.at used _ c.deref.ensures c.in-Ok-default-Part.ensures.uses in
    let arrives = part_arrives role past fed c.args.piece.now c.args.at used _ _ c.in-Ok-default-Part.last _ [] _ frames
    (c.in_ok-take_payload-in-Ok-default-Part.ensures.ok role past [] at.table) (omega (arith, length-drop c.args.at c.args.piece.now)) in
    part_brings role past fed piece used c.in-Ok-default-Part.last _ frames within
    (last_tells role past (take used piece) c.in-Ok-default-Part.last c.if-last.true (c.in_err-take_tail-in-Ok-default-Part.ensures.memory role (came_bytes (take used piece) past) arrives.keeps))

pub returns-in_err-fail-in-Err-clause-memory : goal.returns-in_err-fail-in-Err-clause-memory
returns-in_err-fail-in-Err-clause-memory c = on_err c.from_residual-in_err-fail-in-Err.result λ role past fed sent stands.
    let at = subst (λ (s : State). Stands role past fed sent s) (sym c.self.view_is) stands in
    let rest = rest_of c.deref.result.now c.args.piece.now c.args.at c.deref.ensures in
    garbled_brings role past fed (drop c.args.at c.args.piece.now) c.in-Err.field-0
    (subst (λ (t : List ℕ). StopsIn fed (arrivals past) t c.in-Err.field-0) rest (c.in-Err.ensures.garbled fed (arrivals past) at.frames))
