-- What a stream makes of data while it talks.
-- Source: multistream-select 1.0, "Protocol Negotiation"; that a stream is told its data in pieces is this project's
-- profile.
use Rattle.std.specs.Prelude.{◌≡◌, ◌≢◌, ◌⊎◌, ℕ, ◌≤◌, true, List, []}
use Rattle.std.specs.Prelude.{◌++◌, length, take, Option, Some, None, Result, Ok, Err}
use Rattle.ms_select.specs.declared.answer.Answer.{Answer}
use Rattle.ms_select.specs.declared.fault.SelectFault.{SelectFault}
use Rattle.ms_select.specs.declared.fault.SelectFault.TheVariants as select_faults
use Rattle.handlers.specs.Calls.{HandlerCall}
use Rattle.talks.specs.Talks.{Side, Talks, IsOpen, Agrees, IsTurnedDown, Faults, RunsOut as TalkRunsOut}
use Rattle.streams.specs.declared.heard.Heard.{Heard}
use Rattle.streams.specs.declared.heard.Heard.TheVariants.{Going, Agreed, Refused}
use Rattle.streams.specs.declared.stop.Cause.TheVariants.{Select, Handler, Reset, Ended}
use Rattle.streams.specs.declared.stop.Stop.{Stop}
use Rattle.streams.specs.declared.stop.Stop.TheVariants.{Broken, OutOfMemory}
use Rattle.streams.specs.declared.stage.Stage.{Stage}
use Rattle.streams.specs.declared.stage.Stage.TheVariants as stages
use Rattle.streams.specs.Streams.{Past, IsEarly}
use Rattle.streams.specs.State.{is_talking, handler_of}

-- the bytes of the piece that are the talk's
abbrev pub used_of : Heard → List ℕ → List ℕ
used_of Going piece = piece
used_of (Agreed index used) piece = take used piece
used_of Refused piece = piece

-- What is answered to this piece, which comes behind this data, and what the talk has written by then. Of want of
-- memory nothing is said here.
abbrev pub Hears : Side → List ℕ → List ℕ → Result Heard Stop → List ℕ → Type 0
Hears side got piece (Ok Going) output = IsOpen side (got ++ piece) output
Hears side got piece (Ok (Agreed index used)) output =
    (used ≤ length piece) × Agrees side (got ++ take used piece) index output
Hears side got piece (Ok Refused) output =
    (first : List ℕ) × (rest : List ℕ) × (piece ≡ first ++ rest) × IsTurnedDown side (got ++ first) output
Hears side got piece (Err (Broken (Select fault))) output =
    (fault ≢ select_faults.OutOfMemory) × Faults side (got ++ piece) fault output
Hears side got piece (Err (Broken (Handler fault))) output = ⊥
Hears side got piece (Err (Broken Reset)) output = ⊥
Hears side got piece (Err (Broken Ended)) output = ⊥
Hears side got piece (Err OutOfMemory) output = ⊥

-- That is what was answered, and all that the talk wrote, and behind it what an eager handler gave, was sent or waits.
pub record HasHeard {H : Type 0} (step : H → HandlerCall → H → Type 0) (past : Past H) (handler : Option H)
    (piece : List ℕ) (result : Result Heard Stop) (waiting : List ℕ) : Type 0 where
  pub output : List ℕ
  pub gave : List ℕ
  pub hears : Hears past.side past.got piece result output
  pub early : IsEarly step past handler gave
  pub sent_is : past.sent ++ waiting ≡ output ++ gave

-- ---- where it is then

-- both ends agree on the protocol of this index: its handler is there, or is awaited
abbrev pub served : {H : Type 0} → ℕ → Option H → Stage H
served index None = stages.Agreed index
served index (Some handler) = stages.Serving handler

abbrev pub Moves : {H : Type 0} → Stage H → Result Heard Stop → Stage H → Type 0
Moves old (Ok Going) new = (is_talking new ≡ true) × (handler_of new ≡ handler_of old)
Moves old (Ok (Agreed index used)) new = new ≡ served index (handler_of old)
Moves old (Ok Refused) new = new ≡ stages.Over
Moves old (Err stop) new = new ≡ stages.Over

-- ---- want of memory

-- There is no room for what the talk wrote by this piece, behind what waits already.
pub record HasNoRoom (side : Side) (got piece waiting : List ℕ) : Type 0 where
  pub front : List ℕ
  pub rest : List ℕ
  pub standing : Result Answer SelectFault
  pub output : List ℕ
  pub more : List ℕ
  pub waits : waiting ≢ []
  pub piece_is : piece ≡ front ++ rest
  pub before : IsOpen side got output
  pub talks : Talks side (got ++ front) standing (output ++ more)
  pub some : more ≢ []

-- Memory is refused to the talk. All that it wrote by then, and behind it what an eager handler gave, was sent or
-- waits.
pub record HasRunOut {H : Type 0} (step : H → HandlerCall → H → Type 0) (past : Past H) (handler : Option H)
    (piece now : List ℕ) : Type 0 where
  pub output : List ℕ
  pub gave : List ℕ
  pub runs_out : TalkRunsOut past.side output past.got piece
  pub early : IsEarly step past handler gave
  pub sent_is : past.sent ++ now ≡ output ++ gave

-- Why memory is refused by this piece, and what waits then: to the talk, or to what it wrote.
abbrev pub RunsOut : {H : Type 0} → (H → HandlerCall → H → Type 0) → Past H → Option H → List ℕ → List ℕ → List ℕ
    → Type 0
RunsOut step past handler piece waiting now =
    HasRunOut step past handler piece now ⊎ (HasNoRoom past.side past.got piece waiting × (now ≡ waiting))
