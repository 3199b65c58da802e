-- What comes of data while a stream of a connection talks, and which handler is made then.
-- Source: multistream-select 1.0, "Protocol Negotiation"; libp2p connections, "Opening new streams over a connection":
-- what follows the negotiation belongs to the protocol; that a handler is made once both ends agree is this project's
-- profile.
use Rattle.std.specs.Prelude.{◌≡◌, ◌≢◌, ◌⊎◌, ℕ, true, List, ◌++◌, take, drop, slice_get}
use Rattle.std.specs.Prelude.{Some, None, Result, Ok, Err}
use Rattle.handlers.specs.Calls.{HandlerCall}
use Rattle.ms_select.specs.declared.fault.SelectFault.TheVariants as select_faults
use Rattle.talks.specs.Talks.{Side, Asks, Answers, Agrees, IsTurnedDown, Faults}
use Rattle.streams.specs.declared.heard.Heard.{Heard}
use Rattle.streams.specs.declared.heard.Heard.TheVariants.{Going, Agreed, Refused}
use Rattle.streams.specs.declared.stage.Stage.TheVariants.{Serving, Over}
use Rattle.streams.specs.declared.stop.Cause.TheVariants.{Select, Handler, Reset, Ended}
use Rattle.streams.specs.declared.stop.Stop.{Stop}
use Rattle.streams.specs.declared.stop.Stop.TheVariants.{Broken, OutOfMemory}
use Rattle.streams.specs.Streams.{Past}
use Rattle.streams.specs.State.{Streaming, Stands, is_talking, handler_of}
use Rattle.streams.specs.Hearing.{RunsOut}
use Rattle.dispatch.specs.declared.direction.Direction.{Direction}
use Rattle.dispatch.specs.declared.direction.Direction.TheVariants.{Inbound, Outbound}

-- The talk is about the names of the connection: this end asks for one of them, or answers with all.
abbrev pub IsKnown : List (List ℕ) → Direction → Side → Type 0
IsKnown names Inbound (Asks name index) = ⊥
IsKnown names Inbound (Answers own) = own ≡ names
IsKnown names Outbound (Asks name index) = slice_get names index ≡ Some name
IsKnown names Outbound (Answers own) = ⊥

-- what makes the handler of a stream that was opened so, for a protocol and a peer
abbrev pub made_by : {H : Type 0} → (ℕ → List ℕ → H → Type 0) → (ℕ → List ℕ → H → Type 0) → Direction → List ℕ → ℕ
    → H → Type 0
made_by inbound outbound Inbound peer index handler = inbound index peer handler
made_by inbound outbound Outbound peer index handler = outbound index peer handler

-- by making it once, for a stream that was opened so, the protocols become these others
abbrev pub led_by : {P H : Type 0} → (P → ℕ → List ℕ → H → P → Type 0) → (P → ℕ → List ℕ → H → P → Type 0) → Direction
    → List ℕ → P → P → ℕ → H → Type 0
led_by inbound outbound Inbound peer before behind index handler = inbound before index peer handler behind
led_by inbound outbound Outbound peer before behind index handler = outbound before index peer handler behind

-- The protocols make it, for a stream that was opened so, and by making it once they become these others.
abbrev pub makes_once : {P H : Type 0} → (P → ℕ → List ℕ → H → Type 0) → (P → ℕ → List ℕ → H → Type 0)
    → (P → ℕ → List ℕ → H → P → Type 0) → (P → ℕ → List ℕ → H → P → Type 0) → Direction → List ℕ → P → P → ℕ → H
    → Type 0
makes_once inbound outbound inbound_leads outbound_leads direction peer before behind index handler =
    made_by (inbound before) (outbound before) direction peer index handler
    × led_by inbound_leads outbound_leads direction peer before behind index handler

-- Both ends agree on the protocol of this index, by the data so far and this front of what comes.
pub record AgreesBy {H : Type 0} (so_far : Past H) (bytes : List ℕ) (index : ℕ) (front rest : List ℕ) : Type 0 where
  pub output : List ℕ
  pub bytes_are : bytes ≡ front ++ rest
  pub agrees : Agrees so_far.side (so_far.got ++ front) index output

-- Its handler is the eager one, and none was made then, or it was made then.
abbrev pub IsMade : {H : Type 0} → (ℕ → H → Type 0) → Type 0 → Past H → ℕ → H → Type 0
IsMade makes none_made so_far index made =
    ((so_far.made ≡ Some made) × none_made) ⊎ ((so_far.made ≡ None) × makes index made)

module _ {H : Type 0} (step : H → HandlerCall → H → Type 0) (makes : ℕ → H → Type 0) (none_made : Type 0) where
  -- What comes of data that the talk takes.
  abbrev pub Negotiates : Past H → List ℕ → Result Heard Stop → Streaming H → Type 0
  -- nothing is decided
  Negotiates so_far bytes (Ok Going) stream =
      Stands step stream (record so_far { got = so_far.got ++ bytes }) × (is_talking stream.stage ≡ true) × none_made
  -- both ends agree by the data so far and this front of what comes, and the handler is there
  Negotiates so_far bytes (Ok (Agreed index used)) stream =
      AgreesBy so_far bytes index (take used bytes) (drop used bytes)
      × ((made : H) × IsMade makes none_made so_far index made
      × Stands step stream (record so_far { got = so_far.got ++ take used bytes; made = Some made }))
      × ((handler : H) × (stream.stage ≡ Serving handler))
  -- the other end doesn't know the protocol: the stream is over
  Negotiates so_far bytes (Ok Refused) stream =
      (front : List ℕ) × (rest : List ℕ) × (output : List ℕ) × (bytes ≡ front ++ rest)
      × IsTurnedDown so_far.side (so_far.got ++ front) output × none_made × (stream.stage ≡ Over)
  Negotiates so_far bytes (Err (Broken (Select fault))) stream =
      (fault ≢ select_faults.OutOfMemory) × ((output : List ℕ) × Faults so_far.side (so_far.got ++ bytes) fault output)
      × none_made × (stream.stage ≡ Over)
  Negotiates so_far bytes (Err (Broken (Handler fault))) stream = ⊥
  Negotiates so_far bytes (Err (Broken Reset)) stream = ⊥
  Negotiates so_far bytes (Err (Broken Ended)) stream = ⊥
  Negotiates so_far bytes (Err OutOfMemory) stream = ⊥

-- Why memory is refused: to the talk, or to what it wrote, or to the handler that is made.
abbrev pub MakingRunsOut : {H : Type 0} → (H → HandlerCall → H → Type 0) → Past H → Streaming H → List ℕ → List ℕ
    → Type 0
MakingRunsOut step so_far old bytes waiting =
    RunsOut step so_far (handler_of old.stage) bytes old.waiting waiting
    ⊎ ((so_far.made ≡ None)
    × ((index : ℕ) × (front : List ℕ) × (rest : List ℕ) × AgreesBy so_far bytes index front rest))
