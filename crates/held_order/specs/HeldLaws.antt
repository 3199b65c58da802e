-- What the order in which handlers were made names, said without its steps.
-- Source: this project's profile.
use Rattle.std.specs.Prelude.{◌≡◌, ℕ, ◌+◌, Bool, false, if◌then◌else◌, List, [], ◌∷◌, None}
use Rattle.handlers.specs.Calls.{HandlerCall, Asked}
use Rattle.yamux_session.specs.declared.event.Role.{Role}
use Rattle.yamux_session.specs.Acts.{AreAnswered}
use Rattle.conn_log.specs.declared.event.ConnEvent.{ConnEvent}
use Rattle.conn_log.specs.declared.event.ConnEvent.TheVariants as event
use Rattle.conn_log.specs.Entries.{Entry, items, made_of, is_over, is_kept, left_behind}
use Rattle.conn_log.specs.Entries.Entry.{Of, Says, Made, Asks, Calls}
use Rattle.conn_log.specs.Due.{AllDue}
use Rattle.held_order.specs.Orders.{newest_held}
use Rattle.held_order.specs.Laws.{times}

-- the last event of a stream is told once since its opening
abbrev pub IsFirstEnd : {H : Type 0} → Role → List (Entry H) → ConnEvent H → Type 0
IsFirstEnd role log (event.Refused n) = is_over role log n ≡ false
IsFirstEnd role log (event.Done n handler) = is_over role log n ≡ false
IsFirstEnd role log (event.Broken n cause) = is_over role log n ≡ false
IsFirstEnd role log (event.Upgraded key) = Unit {0}
IsFirstEnd role log (event.Agreed n index) = Unit {0}
IsFirstEnd role log (event.Fault fault) = Unit {0}
IsFirstEnd role log event.Shut = Unit {0}

-- The handler of a stream is made once since its opening, and before its last event. This end opens no number whose
-- handler is held still.
abbrev pub IsOnce : {H : Type 0} → Role → List (Entry H) → Entry H → Type 0
IsOnce role log (Of x) = Unit {0}
IsOnce role log (Says e) = IsFirstEnd role log e
IsOnce role log (Made n handler) = (made_of role log n ≡ None) × (is_over role log n ≡ false)
IsOnce role log (Asks n index) = is_kept role log n ≡ false
IsOnce role log (Calls n call) = Unit {0}

-- each entry is so where it stands
abbrev pub ToldOnce : {H : Type 0} → Role → List (Entry H) → Type 0
ToldOnce role [] = Unit {0}
ToldOnce role (entry ∷ log) = IsOnce role log entry × ToldOnce role log

-- The order names each number as often as handlers of it are held: those that it has left behind, and that of its
-- newest opening.
abbrev pub NamesEachHeld : Type 0 → Type 0
NamesEachHeld H = (role : Role) (log : List (Entry H)) → ToldOnce role log → (n : ℕ)
    → times n (newest_held role log) ≡ left_behind role log n + (if is_kept role log n then 1 else 0)

-- So it is in a connection's list: its entries are due where they stand, and its acts were ones that this end might do.
module _ {P H : Type 0} (step : H → HandlerCall → H → Type 0) (fails : H → Asked → ℕ → Type 0)
    (is_closed is_finished : H → Bool) (inbound_makes outbound_makes : P → ℕ → List ℕ → H → Type 0) where
  abbrev pub DueIsOnce : Type 0
  DueIsOnce = (eager : ℕ → Bool) (names : List (List ℕ)) (peer : List ℕ) (role : Role) (log : List (Entry H))
      → AllDue step fails is_closed is_finished inbound_makes outbound_makes eager names peer role log
      → AreAnswered role (items log) → ToldOnce role log
