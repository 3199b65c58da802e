-- What the owner of an end knows of a stream: from the events that it was told, and from what it did itself (hashicorp
-- yamux, "Flag Field": SYN opens a stream, FIN closes one direction, RST ends both; "Flow Control").
use Rattle.std.specs.Prelude.{◌≡◌, ℕ, ◌==◌, ◌&&◌, ◌-◌, not, Bool, true, false, if◌then◌else◌, List, [], ◌∷◌, ◌++◌, map}
use Rattle.std.specs.Prelude.{length, sum_by}
use Rattle.std.specs.List.{concat, AllByRecursion}
use Rattle.yamux_frames.specs.Frames.{Arrival}
use Rattle.yamux_session.specs.declared.event.Role.{Role}
use Rattle.yamux_session.specs.History.{Item, Act}
use Rattle.yamux_session.specs.History.Item.{Came, Did}
use Rattle.yamux_session.specs.History.Act.{Start, Write, Taken, Close, Reset}
use Rattle.yamux_session.specs.Openings.{is_live, finished, closed}
use Rattle.yamux_session.specs.Windows.{initial_window, credit, untaken}
use Rattle.yamux_session.specs.Faults.{HasNoFault}
use Rattle.yamux_session.specs.Events.{Told, events}
use Rattle.yamux_session.specs.Data.{inbound, written}

-- a stream: whether it is live, whether this end's direction is closed and the other's has ended, and since its
-- opening what came and what was let through
pub record Seen : Type 0 where
  pub live : Bool
  pub closed : Bool
  pub ended : Bool
  pub came : List ℕ
  pub sent : List ℕ

abbrev pub seen : Role → List Item → ℕ → Seen
seen role past n = record {
  live = is_live role past n;
  closed = closed role past n;
  ended = finished role past n;
  came = inbound role past n;
  sent = written role past n;
}

abbrev pub just_opened : Seen
just_opened = record { live = true; closed = false; ended = false; came = []; sent = [] }

-- what an event says of the stream
abbrev pub hears : ℕ → Seen → Told → Seen
hears n s (Told.Opened m) = if m == n then just_opened else s
hears n s (Told.Payload m b) = if m == n then record s { came = s.came ++ b ∷ [] } else s
hears n s (Told.Ended m) = if m == n then record s { ended = true; live = s.live && not s.closed } else s
hears n s (Told.Reset m) = if m == n then record s { live = false } else s
hears n s (Told.Accepted m) = s
hears n s (Told.Credit m) = s
hears n s (Told.GoAway code) = s
hears n s (Told.Fault fault) = s

-- what events say in turn
abbrev pub all_heard : ℕ → Seen → List Told → Seen
all_heard n s [] = s
all_heard n s (t ∷ told) = all_heard n (hears n s t) told

-- What was heard is what is. Of a stream that was reset it isn't told whether its end came with the reset
pub record AgreesOn (is heard : Seen) : Type 0 where
  pub live : is.live ≡ heard.live
  pub closed : is.closed ≡ heard.closed
  pub came : is.came ≡ heard.came
  pub sent : is.sent ≡ heard.sent
  pub ended : heard.ended ≡ true → is.ended ≡ true
  pub live_ended : is.live ≡ true → is.ended ≡ heard.ended

-- from the list past to the list with these arrivals no fault was met, and this was told
pub record TellsFrom (role : Role) (past : List Item) (came : List Arrival) (told : List Told) : Type 0 where
  pub no_fault : HasNoFault role (map Came came ++ past)
  pub told_is : events role (map Came came ++ past) ≡ events role past ++ told

-- the events between two places of a session determine what became of each stream
abbrev pub EventsTell : Type 0
EventsTell = (role : Role) (past : List Item) (came : List Arrival) (told : List Told) (n : ℕ)
    → TellsFrom role past came told
    → AgreesOn (seen role (map Came came ++ past) n) (all_heard n (seen role past n) told)

-- what this end's own act does to the stream
abbrev pub does : ℕ → Seen → Act → Seen
does n s (Start m) = if m == n then just_opened else s
does n s (Write m pieces) = if m == n then record s { sent = s.sent ++ concat pieces } else s
does n s (Taken m count) = s
does n s (Close m) = if m == n then record s { closed = true; live = s.live && not s.ended } else s
does n s (Reset m) = if m == n then record s { live = false } else s
does n s (Act.GoAway code) = s

abbrev pub ActsDo : Type 0
ActsDo = (role : Role) (past : List Item) (act : Act) (n : ℕ)
    → seen role (Did act ∷ past) n ≡ does n (seen role past n) act

-- ---- the windows

-- what may be written on the stream, and what came and wasn't taken
pub record Windows : Type 0 where
  pub credit : ℕ
  pub untaken : ℕ

abbrev pub windows : Role → List Item → ℕ → Windows
windows role past n = record { credit = credit role past n; untaken = untaken role past n }

-- an event that says nothing of the stream's windows
abbrev pub IsQuiet : ℕ → Told → Type 0
IsQuiet n (Told.Opened m) = (m == n) ≡ false
IsQuiet n (Told.Credit m) = (m == n) ≡ false
IsQuiet n (Told.Payload m b) = (m == n) ≡ false
IsQuiet n other = Unit {0}

-- credit, and what wasn't taken, change only where an event tells it
abbrev pub CreditIsTold : Type 0
CreditIsTold = (role : Role) (past : List Item) (came : List Arrival) (told : List Told) (n : ℕ)
    → TellsFrom role past came told → AllByRecursion (IsQuiet n) told
    → windows role (map Came came ++ past) n ≡ windows role past n

-- what this end's own act does to the windows
abbrev pub moves : ℕ → Windows → Act → Windows
moves n w (Start m) = if m == n then record { credit = initial_window; untaken = 0 } else w
moves n w (Write m pieces) = if m == n then record w { credit = w.credit - sum_by length pieces } else w
moves n w (Taken m count) = if m == n then record w { untaken = w.untaken - count } else w
moves n w (Close m) = w
moves n w (Reset m) = w
moves n w (Act.GoAway code) = w

abbrev pub ActsMove : Type 0
ActsMove = (role : Role) (past : List Item) (act : Act) (n : ℕ)
    → windows role (Did act ∷ past) n ≡ moves n (windows role past n) act
