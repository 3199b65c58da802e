-- What contracts see of a session, and how it stands to its list.
-- Source: This project's profile of a session.
use Rattle.std.specs.Prelude.{◌≡◌, ℕ, ◌≤◌, ◌-◌, ◌⊎◌, Bool, true, false, List, [], ◌∷◌, ◌++◌, map, length, take, Some}
use Rattle.std.specs.Prelude.{vec_len}
use Rattle.std.specs.Global.{Vec}
use Rattle.std.specs.Vec.{vec_capacity}
use Rattle.std.specs.List.{concat}
use Rattle.yamux_frames.specs.Frames as wire
use Rattle.yamux_frames.specs.Frames.{Arrival, spelled, AreFrames, Reads}
use Rattle.yamux_frames.specs.Frames.Arrival.{Head, Byte, Tail, Garbled}
use Rattle.yamux_frames.specs.Place.{Place}
use Rattle.yamux_session.specs.declared.event.Role.{Role}
use Rattle.yamux_session.specs.declared.event.Fault.{Fault}
use Rattle.yamux_session.specs.declared.event.Event.{Event}
use Rattle.yamux_session.specs.History.{Item, Act, arrivals}
use Rattle.yamux_session.specs.History.Item.{Came, Did}
use Rattle.yamux_session.specs.History.Act.{Write}
use Rattle.yamux_session.specs.Faults.{HasNoFault, fault_at}
use Rattle.yamux_session.specs.Events.{Told, events, TellsMore}
use Rattle.yamux_session.specs.Output.{output, SendsMore}
use Rattle.yamux_session.specs.Arrives.{Tells, tellings}
use Rattle.yamux_session.specs.Naming.{NamesOne}
use Rattle.yamux_session.specs.Table.{Table}
use Rattle.yamux_session.specs.Acts.{AreAnswered}
use Rattle.yamux_session.specs.Keeps.{Keeps}

-- how many bytes more find room without asking for memory
abbrev pub room_of : Vec ℕ → ℕ
room_of bytes = vec_capacity bytes - vec_len bytes

-- pending: the output that wasn't taken yet; room: how many bytes of output more find room
pub record State : Type 0 where
  pub table : Table
  pub place : Place
  pub pending : List ℕ
  pub room : ℕ
  pub failed : Bool

-- the session is where this list leaves it, after these bytes were fed and these taken out
pub record Stands (role : Role) (past : List Item) (fed sent : List ℕ) (s : State) : Type 0 where
  pub going : s.failed ≡ false
  pub no_fault : HasNoFault role past
  pub answered : AreAnswered role past
  pub frames : wire.Stands fed (arrivals past) s.place
  pub table : Keeps role past s.table
  pub output : sent ++ s.pending ≡ output role past

-- a fact of every history at which the session stands
abbrev pub Whenever : State → (Role → List Item → Type 0) → Type 0
Whenever s fact = (role : Role) (past : List Item) (fed sent : List ℕ) → Stands role past fed sent s
    → fact role past

-- the act is added to every history at which the session stands
abbrev pub Adds : State → State → (Role → List Item → Act) → Type 0
Adds old new act = (role : Role) (past : List Item) (fed sent : List ℕ) → Stands role past fed sent old
    → Stands role (Did (act role past) ∷ past) fed sent new

-- the same with a Write of these bytes, in some pieces
abbrev pub AddsWrite : State → State → ℕ → List ℕ → Type 0
AddsWrite old new n bytes =
    (role : Role) (past : List Item) (fed sent : List ℕ) → Stands role past fed sent old
    → (pieces : List (List ℕ)) × (concat pieces ≡ bytes)
    × Stands role (Did (Write n pieces) ∷ past) fed sent new

-- the newest item has the first fault
abbrev pub FirstFaults : Role → List Item → Type 0
FirstFaults role [] = ⊥
FirstFaults role (x ∷ past) = ((fault : Fault) × (fault_at role past x ≡ Some fault)) × HasNoFault role past

-- the bytes are these arrivals, the last of them perhaps the head that ended it
pub record EndsWith (bytes : List ℕ) (frames : List Arrival) : Type 0 where
  pub whole : bytes ≡ spelled frames
  pub frames_are : AreFrames frames

-- These bytes led from the list past to the list now: its events were told, its output waits, and the session goes on
-- behind all the bytes, or has failed at the first fault
pub record Led (role : Role) (past now : List Item) (fed bytes sent : List ℕ) (told : List Told) (s : State) : Type 0
  where
    pub came : (more : List Arrival) × (now ≡ map Came more ++ past)
    pub told_is : events role now ≡ events role past ++ told
    pub goes_on : s.failed ≡ false → Stands role now (fed ++ bytes) sent s
    pub fails : s.failed ≡ true → FirstFaults role now × (sent ++ s.pending ≡ output role now)
        × ((used : ℕ) × (used ≤ length bytes) × EndsWith (fed ++ take used bytes) (arrivals now))

-- a part of a payload
abbrev pub IsPart : List Arrival → Type 0
IsPart [] = Unit {0}
IsPart (Byte b ∷ past) = IsPart past
IsPart (x ∷ past) = ⊥

-- one header came, with the end of a frame that has no payload; or what is no header; or a part of a payload, and
-- perhaps its end
abbrev pub IsOneFrame : List Arrival → Type 0
IsOneFrame [] = Unit {0}
IsOneFrame (Head h ∷ []) = Unit {0}
IsOneFrame (Tail ∷ Head h ∷ []) = Unit {0}
IsOneFrame (Garbled bytes ∷ []) = Unit {0}
IsOneFrame (Tail ∷ past) = IsPart past
IsOneFrame (x ∷ past) = IsPart (x ∷ past)

-- what one answer of the cutter does: it leads on by a part of one frame, and its events name one stream at most
pub record Steps (role : Role) (past : List Item) (fed bytes sent : List ℕ) (before after : List Event) (new : State)
    : Type 0 where
  pub now : List Item
  pub told : List Told
  pub tells : Tells before after told
  pub names_one : NamesOne tells.more
  pub led : Led role past now fed bytes sent told new
  pub one_frame : IsOneFrame led.came.0

-- what a call of feed does
abbrev pub Feeds : State → List ℕ → List Event → State → Type 0
Feeds old bytes told new =
    (role : Role) (past : List Item) (fed sent : List ℕ) → Stands role past fed sent old
    → (now : List Item) × Led role past now fed bytes sent (tellings told) new

-- what a call of feed_frame does: it leads on by a part of one frame
abbrev pub FeedsFrame : State → List ℕ → List Event → State → Type 0
FeedsFrame old bytes told new =
    (role : Role) (past : List Item) (fed sent : List ℕ) → Stands role past fed sent old
    → (now : List Item) × (led : Led role past now fed bytes sent (tellings told) new) × IsOneFrame led.came.0

-- a list that the bytes led to, and the output that it makes
pub record HasCome (role : Role) (past : List Item) (fed bytes sent : List ℕ) (now : List Item) (pending : List ℕ) :
    Type 0 where
  pub came : (more : List Arrival) × (now ≡ map Came more ++ past)
  pub no_fault : HasNoFault role now
  pub read : (rest : List ℕ) × Reads (fed ++ bytes) (arrivals now) rest
  pub output : sent ++ pending ≡ output role now

-- what a call of feed does that runs out of memory: the output is that of the frames of a prefix of the bytes
abbrev pub RunsOut : State → List ℕ → State → Type 0
RunsOut old bytes new =
    (role : Role) (past : List Item) (fed sent : List ℕ) → Stands role past fed sent old
    → (used : ℕ) × (used ≤ length bytes) × (now : List Item)
    × HasCome role past fed (take used bytes) sent now new.pending

-- a prefix of the bytes makes a list with more events, or with more output
pub record Brings (role : Role) (past : List Item) (fed bytes : List ℕ) : Type 0 where
  pub used : ℕ
  pub within : used ≤ length bytes
  pub now : List Item
  pub came : (more : List Arrival) × (now ≡ map Came more ++ past)
  pub read : (rest : List ℕ) × Reads (fed ++ take used bytes) (arrivals now) rest
  pub more : TellsMore role past now ⊎ SendsMore role past now

-- the same of every history at which the session stands
abbrev pub BringsMore : State → List ℕ → Type 0
BringsMore old bytes = (role : Role) (past : List Item) (fed sent : List ℕ) → Stands role past fed sent old
    → Brings role past fed bytes
