-- Entries about the stream whose turn it is leave the turn, and what stands put aside.
use Rattle.std.proofs.Common.{◌≡◌, ℕ, Bool, List, [], ◌∷◌, ◌++◌, Option, Some, refl, sym, ap, ◌∙◌}
use Rattle.std.specs.List.{AllByRecursion}
use Rattle.handlers.specs.Calls.{HandlerCall, Asked}
use Rattle.yamux_session.specs.declared.event.Role.{Role}
use Rattle.yamux_session.specs.History.{Act}
use Rattle.yamux_session.specs.History.Item.{Came, Did}
use Rattle.yamux_session.specs.History.Act.{Start, Write, Taken, Close, Reset}
use Rattle.conn_log.specs.declared.event.ConnEvent.{ConnEvent}
use Rattle.conn_log.specs.declared.event.ConnEvent.TheVariants as event
use Rattle.conn_log.specs.Entries.{Entry, asks, put_aside}
use Rattle.conn_log.specs.Entries.Entry.{Of, Says, Made, Asks, Calls}
use Rattle.conn_log.specs.Turns.{turn, acted_on, told_about, about, IsTurnOf, AreInTurn}
use Rattle.conn_log.specs.Rests.{AreRested}
use Rattle.conn_log.specs.Routes.{KeepsTurn}
use Rattle.conn_log.proofs.Same.{IsOn, IsOf}

-- an entry about this stream, which gives no turn
abbrev pub IsOnly : {H : Type 0} → ℕ → Entry H → Type 0
IsOnly n (Of (Came x)) = ⊥
IsOnly n (Of (Did act)) = IsOn n act
IsOnly n (Says e) = IsOf n e
IsOnly n (Made m handler) = m ≡ n
IsOnly n (Asks m index) = ⊥
IsOnly n (Calls m call) = m ≡ n

pub turn_on : {H : Type 0} (n : ℕ) (newer log : List (Entry H)) → AllByRecursion (IsOnly n) newer → turn (newer ++ log) ≡ turn log
turn_on n [] log all = refl
turn_on n (Of (Came x) ∷ newer) log all = absurd all.0
turn_on n (Of (Did act) ∷ newer) log all = turn_on n newer log all.1
turn_on n (Says e ∷ newer) log all = turn_on n newer log all.1
turn_on n (Made m handler ∷ newer) log all = turn_on n newer log all.1
turn_on n (Asks m index ∷ newer) log all = absurd all.0
turn_on n (Calls m call ∷ newer) log all = turn_on n newer log all.1

turn_of_act : (n : ℕ) (now : Option ℕ) (act : Act) → IsOn n act → now ≡ Some n → IsTurnOf now (acted_on act)
turn_of_act n now (Write m pieces) on is = is ∙ ap Some (sym on)
turn_of_act n now (Taken m count) on is = is ∙ ap Some (sym on)
turn_of_act n now (Close m) on is = is ∙ ap Some (sym on)
turn_of_act n now (Reset m) on is = is ∙ ap Some (sym on)
turn_of_act n now (Start m) on is = absurd on
turn_of_act n now (Act.GoAway code) on is = absurd on

turn_of_event : {H : Type 0} (n : ℕ) (now : Option ℕ) (e : ConnEvent H) → IsOf n e → now ≡ Some n → IsTurnOf now (told_about e)
turn_of_event n now (event.Agreed m index) of is = is ∙ ap Some (sym of)
turn_of_event n now (event.Refused m) of is = is ∙ ap Some (sym of)
turn_of_event n now (event.Done m handler) of is = is ∙ ap Some (sym of)
turn_of_event n now (event.Broken m cause) of is = is ∙ ap Some (sym of)
turn_of_event n now (event.Upgraded key) of is = absurd of
turn_of_event n now (event.Fault fault) of is = absurd of
turn_of_event n now event.Shut of is = absurd of

turn_of : {H : Type 0} (n : ℕ) (now : Option ℕ) (entry : Entry H) → IsOnly n entry → now ≡ Some n → IsTurnOf now (about entry)
turn_of n now (Of (Came x)) only is = absurd only
turn_of n now (Of (Did act)) only is = turn_of_act n now act only is
turn_of n now (Says e) only is = turn_of_event n now e only is
turn_of n now (Made m handler) only is = is ∙ ap Some (sym only)
turn_of n now (Asks m index) only is = absurd only
turn_of n now (Calls m call) only is = is ∙ ap Some (sym only)

pub in_turn_on : {H : Type 0} (n : ℕ) (newer log : List (Entry H)) → AllByRecursion (IsOnly n) newer → turn log ≡ Some n → AreInTurn log → AreInTurn (newer ++ log)
in_turn_on n [] log all is before = before
in_turn_on n (entry ∷ newer) log all is before =
    (turn_of n (turn (newer ++ log)) entry all.0 (turn_on n newer log all.1 ∙ is), in_turn_on n newer log all.1 is before)

pub aside_on : {H : Type 0} (role : Role) (n : ℕ) (newer log : List (Entry H)) → AllByRecursion (IsOnly n) newer → put_aside role (newer ++ log) ≡ put_aside role log
aside_on role n [] log all = refl
aside_on role n (Of (Came x) ∷ newer) log all = absurd all.0
aside_on role n (Of (Did act) ∷ newer) log all = aside_on role n newer log all.1
aside_on role n (Says e ∷ newer) log all = aside_on role n newer log all.1
aside_on role n (Made m handler ∷ newer) log all = aside_on role n newer log all.1
aside_on role n (Asks m index ∷ newer) log all = absurd all.0
aside_on role n (Calls m call ∷ newer) log all = aside_on role n newer log all.1

-- ---- where no turn was given

pub same_turns : {H : Type 0} (newer log : List (Entry H)) → KeepsTurn newer → KeepsTurn log → KeepsTurn (newer ++ log)
same_turns [] log keeps before = before
same_turns (Of (Came x) ∷ newer) log keeps before = absurd keeps
same_turns (Of (Did act) ∷ newer) log keeps before = same_turns newer log keeps before
same_turns (Says e ∷ newer) log keeps before = same_turns newer log keeps before
same_turns (Made n handler ∷ newer) log keeps before = same_turns newer log keeps before
same_turns (Asks n index ∷ newer) log keeps before = absurd keeps
same_turns (Calls n call ∷ newer) log keeps before = same_turns newer log keeps before

-- no stream was opened
pub turn_unasked : {H : Type 0} (newer : List (Entry H)) → KeepsTurn newer → asks newer ≡ []
turn_unasked [] keeps = refl
turn_unasked (Of (Came x) ∷ newer) keeps = absurd keeps
turn_unasked (Of (Did act) ∷ newer) keeps = turn_unasked newer keeps
turn_unasked (Says e ∷ newer) keeps = turn_unasked newer keeps
turn_unasked (Made n handler ∷ newer) keeps = turn_unasked newer keeps
turn_unasked (Asks n index ∷ newer) keeps = absurd keeps
turn_unasked (Calls n call ∷ newer) keeps = turn_unasked newer keeps

module _ {P H : Type 0} (step : H → HandlerCall → H → Type 0) (fails : H → Asked → ℕ → Type 0)
    (is_closed is_finished : H → Bool) (inbound_makes outbound_makes : P → ℕ → List ℕ → H → Type 0)
    (eager : ℕ → Bool) (names : List (List ℕ)) (peer : List ℕ) (role : Role) where
  pub rested_on : (newer log : List (Entry H)) → KeepsTurn newer → AreRested step fails is_closed is_finished inbound_makes outbound_makes eager names peer role log
      → AreRested step fails is_closed is_finished inbound_makes outbound_makes eager names peer role (newer ++ log)
  rested_on [] log keeps before = before
  rested_on (Of (Came x) ∷ newer) log keeps before = absurd keeps
  rested_on (Of (Did act) ∷ newer) log keeps before = rested_on newer log keeps before
  rested_on (Says e ∷ newer) log keeps before = rested_on newer log keeps before
  rested_on (Made n handler ∷ newer) log keeps before = rested_on newer log keeps before
  rested_on (Asks n index ∷ newer) log keeps before = absurd keeps
  rested_on (Calls n call ∷ newer) log keeps before = rested_on newer log keeps before
