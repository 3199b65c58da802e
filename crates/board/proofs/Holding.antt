-- Whether a handler was made for a stream since its opening: it is held, but for one that was handed out.
use Rattle.std.proofs.Common.{◌≡◌, ℕ, ◌==◌, Bool, true, false, not, ◌&&◌, ◌||◌, cond, List, [], ◌∷◌, ◌++◌, Option, Some, None, refl, sym, ap, ◌∙◌}
use Rattle.std.specs.Prelude.{is_some}
use Rattle.handlers.specs.Calls.{HandlerCall, Asked}
use Rattle.yamux_frames.specs.Frames.{Arrival}
use Rattle.yamux_session.specs.declared.event.Role.{Role}
use Rattle.yamux_session.specs.History.Item.{Came, Did}
use Rattle.yamux_session.specs.History.{Act}
use Rattle.yamux_session.specs.History.Act.{Start, Write, Taken, Close, Reset}
use Rattle.yamux_session.specs.Events.{Told}
use Rattle.yamux_session.specs.Seen.{Seen}
use Rattle.yamux_session.specs.State.{State}
use Rattle.streams.specs.Streams.{Past}
use Rattle.streams.specs.declared.stage.Stage.{Stage}
use Rattle.streams.specs.declared.stage.Stage.TheVariants as stages
use Rattle.streams.specs.State.{Streaming, Stands, is_talking, awaits_handler, holds_handler, was_handed_out}
use Rattle.routing.specs.declared.delivered.Outcome.{Outcome}
use Rattle.routing.specs.declared.delivered.Outcome.TheVariants as outcomes
use Rattle.conn_log.specs.declared.earlier.Earlier.{Earlier}
use Rattle.conn_log.specs.Entries.{Entry, said, agreement, since, is_last, is_over, made_in, made_of}
use Rattle.conn_log.specs.Entries.Entry.{Of, Says, Made, Asks, Calls}
use Rattle.conn_log.specs.Due.{AllDue}
use Rattle.conn_log.specs.Held.{IsHeld}
use Rattle.conn_log.specs.Making.{MakesNone}
use Rattle.conn_log.specs.Routes.{KeepsTurn, Comes}
use Rattle.conn_log.proofs.Making.{makes_none, mades, none_mades, made_by, arrived_none}
use Rattle.conn_log.proofs.Arriving.{arrived}
use Rattle.conn_log.proofs.Asking.{at_first}
use Rattle.conn_log.proofs.Views.{same}
use Rattle.serving.proofs.StageKinds.{talking_kind}
use Rattle.held_order.specs.Orders.{with_if, without_if, lets_go, newest_held}
use Rattle.held_order.proofs.Growing.{grows_by, stays, stays_behind}
use Rattle.board.specs.Boards.{KeepsOrder, MakesInOrder}

-- ---- of a stream that stands

pub holds_made : {H : Type 0} (step : H → HandlerCall → H → Type 0) (stage : Stage H) (waiting : List ℕ) (so_far : Past H)
    → Stands step (record { waiting = waiting; stage = stage }) so_far → was_handed_out stage ≡ false → awaits_handler stage ≡ false
    → holds_handler stage ≡ is_some so_far.made
holds_made step (stages.Talking talk None) waiting so_far s kept served = sym (ap is_some s.early.0)
holds_made step (stages.Talking talk (Some handler)) waiting so_far s kept served = sym (ap is_some s.early.1.1)
holds_made step (stages.Agreed index) waiting so_far s kept served = absurd (cc served)
holds_made step (stages.Serving handler) waiting so_far s kept served = sym (ap is_some s.made_is)
holds_made step stages.Done waiting so_far s kept served = absurd (cc kept)
holds_made step stages.Over waiting so_far s kept served = absurd s

module _ {H : Type 0} (step : H → HandlerCall → H → Type 0) (is_closed is_finished : H → Bool) (names : List (List ℕ)) (role : Role) where
  pub holds_since : (log : List (Entry H)) (n : ℕ) (got : List ℕ) (ended : Bool) (stream : Streaming H) (held : Bool) → held ≡ holds_handler stream.stage
      → IsHeld step is_closed is_finished names role log n got ended stream → is_over role log n ≡ false → held ≡ is_some (made_of role log n)
  holds_since log n got ended stream held is h going =
      is ∙ holds_made step stream.stage stream.waiting h.so_far h.stands (sym h.over ∙ going) h.served ∙ ap is_some h.made_is

-- ---- as the list grows

-- whether the number stands there
abbrev has : ℕ → List ℕ → Bool
has n [] = false
has n (m ∷ ms) = m == n || has n ms

second : (a b : Bool) → a || b ≡ false → b ≡ false
second true b e = absurd (cc e)
second false b e = e

or_none : (b : Bool) → b || false ≡ b
or_none true = refl
or_none false = refl

made_here : {H : Type 0} (here : Bool) (handler : H) (before : Option H) (more earlier : Bool) → is_some before ≡ more || earlier
    → is_some (cond here (Some handler) before) ≡ (here || more) || earlier
made_here true handler before more earlier e = refl
made_here false handler before more earlier e = e

-- What is told behind nothing but acts, and at most an agreement.
both_ways : {H : Type 0} (n : ℕ) (held : Bool) (agreed : Option ℕ) (made : Option H) (ms : List ℕ) → ms ≡ made_by n (agreement {H = H} n agreed) made
    → held ≡ is_some made → held || is_some agreed ≡ has n ms || is_some made
both_ways n held None made ms is e = or_none held ∙ e ∙ sym (ap (λ t. has n t || is_some made) is)
both_ways n held (Some index) None ms is e = ap (λ b. b || true) e ∙ sym (ap (λ t. has n t || false) is ∙ ap (λ b. (b || false) || false) (same n))
both_ways n held (Some index) (Some handler) ms is e = ap (λ b. b || true) e ∙ sym (ap (λ t. has n t || true) is)

by_talk : {H : Type 0} (n : ℕ) (stage : Stage H) (held : Bool) (agreed : Option ℕ) (made : Option H) → (is_talking stage ≡ false → agreed ≡ None)
    → (was_handed_out stage ≡ false → held ≡ is_some made) → made_by n (agreement {H = H} n agreed) made ≡ cond (is_some agreed && not held) (n ∷ []) []
by_talk n stage held None made only holds = refl
by_talk {H} n stage held (Some index) made only holds = by_stage (is_talking stage) refl where
  by_made : (made : Option H) → held ≡ is_some made → made_by {H = H} n (agreement n (Some index)) made ≡ cond (not held) (n ∷ []) []
  by_made None e = sym (ap (λ b. cond (not b) (n ∷ []) []) e)
  by_made (Some handler) e = sym (ap (λ b. cond (not b) (n ∷ []) []) e)

  by_stage : (b : Bool) → is_talking stage ≡ b → made_by {H = H} n (agreement n (Some index)) made ≡ cond (not held) (n ∷ []) []
  by_stage true e = by_made made (holds (talking_kind stage e))
  by_stage false e = absurd (let is = only e in cc is)

put_front : (b : Bool) (n : ℕ) (order : List ℕ) → cond b (n ∷ []) [] ++ order ≡ with_if b n order
put_front true n order = refl
put_front false n order = refl

module _ {P H : Type 0} (step : H → HandlerCall → H → Type 0) (fails : H → Asked → ℕ → Type 0)
    (is_closed is_finished : H → Bool) (inbound_makes outbound_makes : P → ℕ → List ℕ → H → Type 0)
    (eager : ℕ → Bool) (names : List (List ℕ)) (peer : List ℕ) (role : Role) (log : List (Entry H)) (n : ℕ) where
  still_going : (newer : List (Entry H)) → KeepsTurn newer → AllDue step fails is_closed is_finished inbound_makes outbound_makes eager names peer role (newer ++ log)
      → is_over role (newer ++ log) n ≡ false → is_over role log n ≡ false
  still_going [] keeps due going = going
  still_going (Of (Came x) ∷ newer) keeps due going = absurd keeps
  still_going (Of (Did (Start m)) ∷ newer) keeps due going = absurd due.0
  still_going (Of (Did (Write m pieces)) ∷ newer) keeps due going = still_going newer keeps due.1 going
  still_going (Of (Did (Taken m count)) ∷ newer) keeps due going = still_going newer keeps due.1 going
  still_going (Of (Did (Close m)) ∷ newer) keeps due going = still_going newer keeps due.1 going
  still_going (Of (Did (Reset m)) ∷ newer) keeps due going = still_going newer keeps due.1 going
  still_going (Of (Did (Act.GoAway code)) ∷ newer) keeps due going = absurd due.0
  still_going (Says e ∷ newer) keeps due going = still_going newer keeps due.1 (second (is_last n e) (is_over role (newer ++ log) n) going)
  still_going (Made m handler ∷ newer) keeps due going = still_going newer keeps due.1 going
  still_going (Asks m index ∷ newer) keeps due going = absurd keeps
  still_going (Calls m call ∷ newer) keeps due going = still_going newer keeps due.1 going

  made_now : (newer : List (Entry H)) → KeepsTurn newer → AllDue step fails is_closed is_finished inbound_makes outbound_makes eager names peer role (newer ++ log)
      → is_some (made_of role (newer ++ log) n) ≡ has n (mades newer) || is_some (made_of role log n)
  made_now [] keeps due = refl
  made_now (Of (Came x) ∷ newer) keeps due = absurd keeps
  made_now (Of (Did (Start m)) ∷ newer) keeps due = absurd due.0
  made_now (Of (Did (Write m pieces)) ∷ newer) keeps due = made_now newer keeps due.1
  made_now (Of (Did (Taken m count)) ∷ newer) keeps due = made_now newer keeps due.1
  made_now (Of (Did (Close m)) ∷ newer) keeps due = made_now newer keeps due.1
  made_now (Of (Did (Reset m)) ∷ newer) keeps due = made_now newer keeps due.1
  made_now (Of (Did (Act.GoAway code)) ∷ newer) keeps due = absurd due.0
  made_now (Says e ∷ newer) keeps due = made_now newer keeps due.1
  made_now (Made m handler ∷ newer) keeps due =
      made_here (m == n) handler (made_of role (newer ++ log) n) (has n (mades newer)) (is_some (made_of role log n)) (made_now newer keeps due.1)
  made_now (Asks m index ∷ newer) keeps due = absurd keeps
  made_now (Calls m call ∷ newer) keeps due = made_now newer keeps due.1

  due_of : (now : List (Entry H)) (fed sent : List ℕ) (session : State) (streams : ℕ → Option (Streaming H)) (past : List (Earlier H)) (view : Seen) (rest : List Told) (outcome : Outcome H)
      → Comes step fails is_closed is_finished inbound_makes outbound_makes eager names peer role now fed sent session streams past n view rest outcome
      → AllDue step fails is_closed is_finished inbound_makes outbound_makes eager names peer role now
  due_of now fed sent session streams past view rest outcomes.Going comes = comes.around.due
  due_of now fed sent session streams past view rest (outcomes.Done handler) comes = comes.around.due.1
  due_of now fed sent session streams past view rest outcomes.Refused comes = comes.due.1
  due_of now fed sent session streams past view rest (outcomes.Broken cause) comes = comes.0.due.1

  -- where only acts were done a handler was made since the opening as before, and is held as before
  pub held_still : (newer : List (Entry H)) (fed sent : List ℕ) (session : State) (streams : ℕ → Option (Streaming H)) (past : List (Earlier H)) (view : Seen) (rest : List Told) (outcome : Outcome H)
      → Comes step fails is_closed is_finished inbound_makes outbound_makes eager names peer role (newer ++ log) fed sent session streams past n view rest outcome
      → KeepsTurn newer → MakesNone newer → (held : Bool) → (is_over role log n ≡ false → held ≡ is_some (made_of role log n))
      → is_over role (newer ++ log) n ≡ false → held ≡ is_some (made_of role (newer ++ log) n)
  held_still newer fed sent session streams past view rest outcome comes keeps none held is going =
      let due = due_of (newer ++ log) fed sent session streams past view rest outcome comes in
      is (still_going newer keeps due going) ∙ sym (made_now newer keeps due ∙ ap (λ t. has n t || is_some (made_of role log n)) (none_mades newer none))

  -- and behind an agreement one was made
  pub held_by : (newer : List (Entry H)) (fed sent : List ℕ) (session : State) (streams : ℕ → Option (Streaming H)) (past : List (Earlier H)) (view : Seen) (rest : List Told) (outcome : Outcome H) (agreed : Option ℕ)
      → Comes step fails is_closed is_finished inbound_makes outbound_makes eager names peer role (newer ++ log) fed sent session streams past n view rest outcome
      → KeepsTurn newer → mades newer ≡ made_by n (agreement {H = H} n agreed) (made_of role log n) → (held : Bool) → (is_over role log n ≡ false → held ≡ is_some (made_of role log n))
      → is_over role (newer ++ log) n ≡ false → held || is_some agreed ≡ is_some (made_of role (newer ++ log) n)
  held_by newer fed sent session streams past view rest outcome agreed comes keeps mades_are held is going =
      let due = due_of (newer ++ log) fed sent session streams past view rest outcome comes in
      both_ways n held agreed (made_of role log n) (mades newer) mades_are (is (still_going newer keeps due going)) ∙ sym (made_now newer keeps due)

-- ---- the order that is kept

module _ {H : Type 0} (role : Role) (log : List (Entry H)) (n : ℕ) where
  -- a handler that was made since the opening goes
  pub lets : (was_made : Bool) (old new : List ℕ) → new ≡ without_if was_made n old → was_made ≡ is_some (made_of role log n) → old ≡ newest_held role log
      → new ≡ lets_go role log n (newest_held role log)
  lets was_made old new is made held = is ∙ ap (λ b. without_if b n old) made ∙ ap (λ t. without_if (is_some (made_of role log n)) n t) held

  -- where both ends agree one is made, unless it is there
  pub agrees_on : (newer : List (Entry H)) (stage : Stage H) (held : Bool) (agreed : Option ℕ) (old new : List ℕ) → said newer ≡ agreement n agreed
      → mades newer ≡ made_by n (agreement {H = H} n agreed) (made_of role log n) → (is_talking stage ≡ false → agreed ≡ None)
      → (was_handed_out stage ≡ false → held ≡ is_some (made_of role log n)) → new ≡ with_if (is_some agreed && not held) n old
      → KeepsOrder role old new log (newer ++ log)
  agrees_on newer stage held agreed old new said_is mades_are only is_held is was =
      is ∙ ap (λ t. with_if (is_some agreed && not held) n t) was
      ∙ sym (grows_by role newer log n agreed said_is ∙ ap (λ t. t ++ newest_held role log) (mades_are ∙ by_talk n stage held agreed (made_of role log n) only is_held)
      ∙ put_front (is_some agreed && not held) n (newest_held role log))

-- where this end asks for an eager protocol
module _ {H : Type 0} (role : Role) (log : List (Entry H)) (n index : ℕ) where
  pub made_at_first : (handler : Option H) → is_some handler ≡ is_some (made_of role (at_first n handler ++ Asks n index ∷ log) n)
  made_at_first None = sym (ap (λ b. is_some (made_in n (cond b [] (since role log n)))) (same n))
  made_at_first (Some handler) = sym (ap (λ b. is_some (cond b (Some handler) (made_of role (Asks n index ∷ log) n))) (same n))

  pub asks_first : (handler : Option H) (held : Bool) (old new : List ℕ) → new ≡ with_if held n old → held ≡ is_some handler
      → KeepsOrder role old new log (at_first n handler ++ Asks n index ∷ log)
  asks_first None held old new is made was = is ∙ ap (λ b. with_if b n old) made ∙ was
  asks_first (Some handler) held old new is made was = is ∙ ap (λ b. with_if b n old) made ∙ ap (λ t. n ∷ t) was

module _ {P H : Type 0} (inbound_leads outbound_leads : P → ℕ → List ℕ → H → P → Type 0) (peer : List ℕ) (role : Role) where
  pub in_order : (protocols : P) (order : List ℕ) (log : List (Entry H)) → MakesInOrder inbound_leads outbound_leads peer role protocols protocols order order log log
  in_order protocols order log = ((λ first was. was), (λ is. is))

  -- one after the other
  pub in_order_then : (first middle last : P) (early later latest : List ℕ) (log longer longest : List (Entry H)) → MakesInOrder inbound_leads outbound_leads peer role first middle early later log longer
      → MakesInOrder inbound_leads outbound_leads peer role middle last later latest longer longest → MakesInOrder inbound_leads outbound_leads peer role first last early latest log longest
  in_order_then first middle last early later latest log longer longest a b = ((λ start was. b.0 start (a.0 start was)), (λ is. b.1 (a.1 is)))

  -- where nothing was told or made
  pub by_acts : (protocols : P) (order : List ℕ) (log newer : List (Entry H)) → MakesNone newer → said newer ≡ []
      → MakesInOrder inbound_leads outbound_leads peer role protocols protocols order order log (newer ++ log)
  by_acts protocols order log newer none unsaid = (
    makes_none inbound_leads outbound_leads peer role protocols protocols refl log newer none,
    (λ is. is ∙ sym (stays role newer log unsaid (none_mades newer none))),
  )

  -- where bytes came
  pub by_arrivals : (protocols : P) (order : List ℕ) (log : List (Entry H)) (came : List Arrival)
      → MakesInOrder inbound_leads outbound_leads peer role protocols protocols order order log (arrived came ++ log)
  by_arrivals protocols order log came = (
    makes_none inbound_leads outbound_leads peer role protocols protocols refl log (arrived came) (arrived_none H came),
    (λ is. is ∙ sym (stays_behind role came log)),
  )
