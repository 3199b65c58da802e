-- What an arrival leaves: the table of streams, the events, and the output.
-- Inside, but for what an event tells (`tellings`), `HasData` and `added`.
use Rattle.std.specs.Prelude.{◌≡◌, ◌≢◌, ℕ, nat_lt, if◌then◌else◌, List, [], ◌∷◌, ◌++◌, map, length, drop, Option, Some}
use Rattle.std.specs.Prelude.{None}
use Rattle.std.specs.List.{AllByRecursion, flat_map}
use Rattle.yamux_frames.specs.declared.header.Header.{Header}
use Rattle.yamux_frames.specs.Spelling.{header_bytes, payload_length}
use Rattle.yamux_frames.specs.Frames.Arrival.{Head, Tail}
use Rattle.yamux_session.specs.declared.event.Role.{Role}
use Rattle.yamux_session.specs.declared.event.Event.{Event}
use Rattle.yamux_session.specs.declared.event.Event.TheVariants as event
use Rattle.yamux_session.specs.declared.arrivals.TailEffect.{TailEffect}
use Rattle.yamux_session.specs.declared.arrivals.TailEffect.TheVariants as tail
use Rattle.yamux_session.specs.declared.heads.HeadRefused.{HeadRefused}
use Rattle.yamux_session.specs.declared.heads.HeadRefused.TheVariants as refused
use Rattle.yamux_session.specs.History.{Item}
use Rattle.yamux_session.specs.History.Item.{Came}
use Rattle.yamux_session.specs.Faults.{HasNoFault}
use Rattle.yamux_session.specs.Events.{Told, events}
use Rattle.yamux_session.specs.Naming.{IsNoData}
use Rattle.yamux_session.specs.Output.{output}
use Rattle.yamux_session.specs.Table.{Table}
use Rattle.yamux_session.specs.Keeps.{Keeps}

-- what an event tells, its data byte by byte
abbrev pub telling : Event → List Told
telling (event.Opened n) = Told.Opened n ∷ []
telling (event.Accepted n) = Told.Accepted n ∷ []
telling (event.Payload n bytes) = map (Told.Payload n) bytes
telling (event.Ended n) = Told.Ended n ∷ []
telling (event.Reset n) = Told.Reset n ∷ []
telling (event.Credit n) = Told.Credit n ∷ []
telling (event.GoAway code) = Told.GoAway code ∷ []
telling (event.Fault fault) = Told.Fault fault ∷ []

abbrev pub tellings : List Event → List Told
tellings told = flat_map telling told

-- no event of data is empty
abbrev pub HasData : Event → Type 0
HasData (event.Payload n bytes) = bytes ≢ []
HasData other = Unit {0}

-- the events that were put behind those that were told before
abbrev pub added : List Event → List Event → List Event
added old new = drop (length old) new

-- events were only put behind, and tell no data
abbrev pub AddsNoData : List Event → List Event → Type 0
AddsNoData old new = (more : List Event) × (new ≡ old ++ more) × AllByRecursion IsNoData more

-- events were only put behind, and the first alone may tell data
abbrev pub AddsDataFirst : List Event → List Event → Type 0
AddsDataFirst old new = (more : List Event) × (new ≡ old ++ more) × AllByRecursion IsNoData (drop 1 more)

-- events that tell this were added
pub record Tells (old new : List Event) (told : List Told) : Type 0 where
  pub more : List Event
  pub added : new ≡ old ++ more
  pub telling : tellings more ≡ told
  pub filled : AllByRecursion HasData more

abbrev pub told_of_tail : TailEffect → List Told
told_of_tail tail.Nothing = []
told_of_tail (tail.Ended n) = Told.Ended n ∷ []
told_of_tail (tail.Reset n) = Told.Reset n ∷ []

abbrev pub written_header : Option Header → List ℕ
written_header None = []
written_header (Some h) = header_bytes h

-- the list with this head, and with its tail where the frame has no payload
abbrev pub began : Header → List Item → List Item
began h past = if nat_lt 0 (payload_length h) then Came (Head h) ∷ past else Came Tail ∷ Came (Head h) ∷ past

-- a fact that holds where a head has a fault
abbrev pub IsFaultOnly : HeadRefused → Type 0 → Type 0
IsFaultOnly (refused.Fault fault) fact = fact
IsFaultOnly refused.OutOfMemory fact = Unit {0}

-- from the list past to the list now nothing has a fault; the table is that of now, and events and output have grown by
-- those of the new items
pub record Arrives (role : Role) (past now : List Item) (new : Table)
    (old_told new_told : List Event) (old_output new_output : List ℕ) : Type 0 where
  pub no_fault : HasNoFault role past → HasNoFault role now
  pub keeps : Keeps role now new
  pub told : (more : List Told) × Tells old_told new_told more × (events role now ≡ events role past ++ more)
  pub output : (more : List ℕ) × (new_output ≡ old_output ++ more)
      × (output role now ≡ output role past ++ more)
