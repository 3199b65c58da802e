-- The events that each item of a session gives.
-- Source: hashicorp yamux, "Framing" and "Flag Field"; the events are this project's profile.
use Rattle.std.specs.Prelude.{ℕ, ◌<◌, Bool, true, false, ◌&&◌, not, nat_lt, if◌then◌else◌, List, [], ◌∷◌, ◌++◌, length}
use Rattle.std.specs.Prelude.{Option, Some, None}
use Rattle.yamux_frames.specs.declared.header.Header.{Header}
use Rattle.yamux_frames.specs.Frames.Arrival.{Head, Byte, Tail}
use Rattle.yamux_session.specs.declared.event.Role.{Role}
use Rattle.yamux_session.specs.declared.event.Fault as fault
use Rattle.yamux_session.specs.History.{Item, ack, fin, rst, is_update, is_go_away, is_own}
use Rattle.yamux_session.specs.History.Item.{Came}
use Rattle.yamux_session.specs.Openings.{is_live, opens, finished, reading, head_belongs, byte_belongs}
use Rattle.yamux_session.specs.Windows.{accepted}
use Rattle.yamux_session.specs.Faults.{fault_at}

-- an event, without where its data lies in memory; of payload one byte
pub data Told : Type 0 where
  Opened : ℕ → Told
  Accepted : ℕ → Told
  Payload : ℕ → ℕ → Told
  Ended : ℕ → Told
  Reset : ℕ → Told
  Credit : ℕ → Told
  GoAway : ℕ → Told
  Fault : fault.Fault → Told

abbrev pub when : {A : Type 0} → Bool → A → List A
when true x = x ∷ []
when false x = []

-- the events of a head that has no fault
abbrev pub head_events : Role → List Item → Header → List Told
head_events role past h =
    when (is_go_away h.kind) (Told.GoAway h.length)
    ++ when (opens role past (Came (Head h)) h.stream) (Told.Opened h.stream)
    ++ when (head_belongs role past h h.stream && ack h && is_own role h.stream
    && not (accepted role past h.stream)) (Told.Accepted h.stream)
    ++ when (head_belongs role past h h.stream && is_update h.kind && nat_lt 0 h.length) (Told.Credit h.stream)

-- the events of a tail for a live stream: RST before FIN, and a second FIN gives none
abbrev pub tail_told : Header → Bool → List Told
tail_told h finished = if rst h then Told.Reset h.stream ∷ [] else when (fin h && not finished) (Told.Ended h.stream)

abbrev pub tail_events : Role → List Item → Option Header → List Told
tail_events role past None = []
tail_events role past (Some h) = if is_live role past h.stream then tail_told h (finished role past h.stream) else []

-- the stream that a byte of a payload belongs to
abbrev pub taker : Role → List Item → Option Header → Option ℕ
taker role past None = None
taker role past (Some h) = if byte_belongs role past h.stream then Some h.stream else None

abbrev pub byte_told : Option ℕ → ℕ → List Told
byte_told None b = []
byte_told (Some n) b = Told.Payload n b ∷ []

abbrev pub events_unless : Option fault.Fault → List Told → List Told
events_unless (Some fault) told = Told.Fault fault ∷ []
events_unless None told = told

abbrev pub item_events : Role → List Item → Item → List Told
item_events role past (Came (Head h)) = head_events role past h
item_events role past (Came (Byte b)) = byte_told (taker role past (reading role past)) b
item_events role past (Came Tail) = tail_events role past (reading role past)
item_events role past x = []

-- the events of an item; of a fault that alone
abbrev pub events_at : Role → List Item → Item → List Told
events_at role past x = events_unless (fault_at role past x) (item_events role past x)

abbrev pub events : Role → List Item → List Told
events role [] = []
events role (x ∷ past) = events role past ++ events_at role past x

-- the second list has more events than the first
abbrev pub TellsMore : Role → List Item → List Item → Type 0
TellsMore role past now = length (events role past) < length (events role now)
