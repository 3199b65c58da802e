-- A whole session: each call with its answer, from the empty history on.
-- Source: This project's profile of a session.
use Rattle.std.specs.Prelude.{◌≡◌, ◌≢◌, ℕ, ◌<◌, ◌≤◌, ◌⊎◌, true, min, List, [], ◌∷◌, ◌++◌, map, length, take, Result, Ok}
use Rattle.std.specs.Prelude.{Err}
use Rattle.std.specs.List.{AllByRecursion, concat}
use Rattle.yamux_frames.specs.Frames.{Arrival, Reads}
use Rattle.yamux_session.specs.declared.event.Role.{Role}
use Rattle.yamux_session.specs.declared.event.Event.{Event}
use Rattle.yamux_session.specs.declared.event.ActRefused.{ActRefused}
use Rattle.yamux_session.specs.declared.event.ActRefused.TheVariants as refused
use Rattle.yamux_session.specs.declared.calls.Act.{Act}
use Rattle.yamux_session.specs.declared.calls.Act.TheVariants as act
use Rattle.yamux_session.specs.declared.calls.ActAnswer.{ActAnswer}
use Rattle.yamux_session.specs.declared.calls.ActAnswer.TheVariants.{Events, Stream, Count, Done, Refused}
use Rattle.yamux_session.specs.History.{Item, arrivals}
use Rattle.yamux_session.specs.History as history
use Rattle.yamux_session.specs.History.Item.{Came, Did}
use Rattle.yamux_session.specs.History.Act.{Start, Write, Taken, Close, Reset}
use Rattle.yamux_session.specs.Windows.{credit, given_back, untaken}
use Rattle.yamux_session.specs.Faults.{HasNoFault}
use Rattle.yamux_session.specs.Events.{events}
use Rattle.yamux_session.specs.Output.{output}
use Rattle.yamux_session.specs.Acts.{AreAnswered, IsAnswered, start_refusal, stream_refusal, direction_refusal}
use Rattle.yamux_session.specs.Acts.{IsRefusedFor}
use Rattle.yamux_session.specs.Arrives.{tellings, HasData}
use Rattle.yamux_session.specs.State.{State, FirstFaults, EndsWith}
use Rattle.yamux_session.specs.State as state

-- Where a session is. At: at this history, behind these bytes. Over: it has failed, and this is all of its output
pub data Point : Type 0 where
  At : List Item → List ℕ → Point
  Over : List ℕ → Point

-- the act is one that this end may do there, and is added to the list
abbrev pub IsAdded : Role → List Item → List ℕ → history.Act → Point → Type 0
IsAdded role past fed did next = IsAnswered role past did × (next ≡ At (Did did ∷ past) fed)

-- a feed of these bytes whose events are these
pub record FedOn (role : Role) (past : List Item) (fed bytes : List ℕ) (told : List Event) (now : List Item) : Type 0
  where
    pub came : (more : List Arrival) × (now ≡ map Came more ++ past)
    pub told_is : events role now ≡ events role past ++ tellings told
    pub filled : AllByRecursion HasData told

-- the bytes were read whole, and nothing has a fault
pub record GoesOn (role : Role) (fed bytes : List ℕ) (now : List Item) (next : Point) : Type 0 where
  pub no_fault : HasNoFault role now
  pub read : (rest : List ℕ) × Reads (fed ++ bytes) (arrivals now) rest
  pub next_is : next ≡ At now (fed ++ bytes)

-- the newest arrival has the first fault
pub record Ends (role : Role) (fed bytes : List ℕ) (now : List Item) (next : Point) : Type 0 where
  pub faulty : FirstFaults role now
  pub read : (used : ℕ) × (used ≤ length bytes) × EndsWith (fed ++ take used bytes) (arrivals now)
  pub next_is : next ≡ Over (output role now)

-- memory was wanting behind a first part of the bytes
pub record IsCutOff (role : Role) (past : List Item) (fed bytes : List ℕ) (next : Point) : Type 0 where
  pub used : ℕ
  pub within : used ≤ length bytes
  pub now : List Item
  pub came : (more : List Arrival) × (now ≡ map Came more ++ past)
  pub no_fault : HasNoFault role now
  pub read : (rest : List ℕ) × Reads (fed ++ take used bytes) (arrivals now) rest
  pub next_is : next ≡ Over (output role now)

-- a write that lets so much through, in some pieces
pub record WritesOn (role : Role) (past : List Item) (fed : List ℕ) (n : ℕ) (bytes : List ℕ) (count : ℕ)
    (next : Point) : Type 0 where
  pub pieces : List (List ℕ)
  pub added : IsAdded role past fed (Write n pieces) next
  pub count_is : count ≡ min (length bytes) (credit role past n)
  pub whole : concat pieces ≡ take count bytes

-- the answer of an act without a value
abbrev pub done_or : Result (Unit {0}) ActRefused → ActAnswer
done_or (Ok x) = Done
done_or (Err why) = Refused why

-- the call has this answer there, and leads on to the next point
abbrev pub AnswersAt : Role → List Item → List ℕ → Act → ActAnswer → Point → Type 0
AnswersAt role past fed (act.Feed bytes) (Events told) next =
    (now : List Item) × FedOn role past fed bytes.items told.items now
    × (GoesOn role fed bytes.items now next ⊎ Ends role fed bytes.items now next)
AnswersAt role past fed (act.Feed bytes) (Refused why) next = (why ≡ refused.OutOfMemory) × (0 < length bytes.items)
    × IsCutOff role past fed bytes.items next
AnswersAt role past fed act.Start (Stream n) next = IsAdded role past fed (Start n) next
AnswersAt role past fed act.Start (Refused why) next = IsRefusedFor (start_refusal role past) why
    × (next ≡ At past fed)
AnswersAt role past fed (act.Write n bytes) (Count count) next = WritesOn role past fed n bytes.items count next
AnswersAt role past fed (act.Write n bytes) (Refused why) next = IsRefusedFor (direction_refusal role past n) why
    × (why ≡ refused.OutOfMemory → 0 < min (length bytes.items) (credit role past n)) × (next ≡ At past fed)
AnswersAt role past fed (act.Taken n count) Done next = IsAdded role past fed
    (Taken n (min count (untaken role past n))) next
AnswersAt role past fed (act.Taken n count) (Refused why) next = IsRefusedFor (stream_refusal role past n) why
    × (why ≡ refused.OutOfMemory → 0 < given_back role n past (Did (Taken n (min count (untaken role past n)))))
    × (next ≡ At past fed)
AnswersAt role past fed (act.Close n) Done next = IsAdded role past fed (Close n) next
AnswersAt role past fed (act.Close n) (Refused why) next = IsRefusedFor (direction_refusal role past n) why
    × (next ≡ At past fed)
AnswersAt role past fed (act.Reset n) Done next = IsAdded role past fed (Reset n) next
AnswersAt role past fed (act.Reset n) (Refused why) next = IsRefusedFor (stream_refusal role past n) why
    × (next ≡ At past fed)
AnswersAt role past fed (act.GoAway code) Done next = IsAdded role past fed (history.Act.GoAway code) next
AnswersAt role past fed (act.GoAway code) (Refused why) next = (why ≡ refused.OutOfMemory) × (next ≡ At past fed)
AnswersAt role past fed call answer next = ⊥

abbrev pub Answers : Role → Point → Act → ActAnswer → Point → Type 0
Answers role (At past fed) call answer next = AnswersAt role past fed call answer next
Answers role (Over out) call answer next = (answer ≡ Refused refused.Failed) × (next ≡ Over out)

-- one call after another
abbrev pub AnswersAll : Role → Point → List Act → List ActAnswer → Point → Type 0
AnswersAll role point [] [] last = last ≡ point
AnswersAll role point (call ∷ calls) (answer ∷ answers) last = (next : Point) × Answers role point call answer next
    × AnswersAll role next calls answers last
AnswersAll role point calls answers last = ⊥

-- all output up to a point
abbrev pub output_at_point : Role → Point → List ℕ
output_at_point role (At past fed) = output role past
output_at_point role (Over out) = out

-- the session is at this point, and none of its output was taken
abbrev pub Stands : Role → Point → State → Type 0
Stands role (At past fed) s = state.Stands role past fed [] s
Stands role (Over out) s = (s.failed ≡ true) × (s.pending ≡ out)

-- what a run answers
abbrev pub Runs : Role → List Act → List ActAnswer → List ℕ → Type 0
Runs role calls answers out = (last : Point) × AnswersAll role (At [] []) calls answers last
    × (out ≡ output_at_point role last)

-- what a run that goes on has done: acts that this end might do, each where it was done, and arrivals without a fault,
-- as which the bytes are read
abbrev pub RunIsLegal : Type 0
RunIsLegal = (role : Role) (calls : List Act) (answers : List ActAnswer) (past : List Item) (fed : List ℕ)
    → AnswersAll role (At [] []) calls answers (At past fed)
    → AreAnswered role past × HasNoFault role past × ((rest : List ℕ) × Reads fed (arrivals past) rest)

-- two answers that tell the same, but for how data is cut
abbrev pub AreSame : ActAnswer → ActAnswer → Type 0
AreSame (Events told) (Events said) = tellings told.items ≡ tellings said.items
AreSame answer other = answer ≡ other

-- a call has one answer at a point, but for want of memory
abbrev pub OneCall : Type 0
OneCall = (role : Role) (point : Point) (call : Act) (answer other : ActAnswer) (next point_then : Point)
    → Answers role point call answer next → Answers role point call other point_then
    → answer ≢ Refused refused.OutOfMemory → other ≢ Refused refused.OutOfMemory → AreSame answer other
