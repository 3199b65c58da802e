-- What a stream of a session makes of what came for it.
-- Source: multistream-select 1.0, "Protocol Negotiation"; libp2p connections, "Opening new streams over a connection";
-- hashicorp yamux, "Flow Control"; that a stream is served behind each piece is this project's profile.
use Rattle.std.specs.Prelude.{◌≡◌, ◌≢◌, ◌⊎◌, ℕ, Bool, true, false, List, ◌++◌, Option, Some, None}
use Rattle.handlers.specs.Calls.{HandlerCall, Take, End, Asked, ToTake, ToEnd}
use Rattle.handlers.specs.declared.handler.HandlerFault.{HandlerFault}
use Rattle.ms_select.specs.declared.fault.SelectFault.TheVariants as select_faults
use Rattle.talks.specs.Talks.{IsTurnedDown, Faults}
use Rattle.yamux_session.specs.declared.event.Role.{Role}
use Rattle.yamux_session.specs.History.{Item}
use Rattle.yamux_session.specs.Acts.{open_credit}
use Rattle.yamux_session.specs.State.{State}
use Rattle.streams.specs.declared.stop.Cause.TheVariants as causes
use Rattle.streams.specs.declared.stop.Stop.TheVariants as stops
use Rattle.streams.specs.declared.stage.Stage.TheVariants as stages
use Rattle.streams.specs.Streams.{Past, with_call}
use Rattle.streams.specs.State.{Streaming, Stands, is_talking, answering, handler_of, kind_of, Served}
use Rattle.serving.specs.Served.{AnswersCall, Asking, Serves, GivesUp, WasAnswered}
use Rattle.serving.specs.Wanting.{RunsOut}
use Rattle.dispatch.specs.Dispatch.{AgreesBy, IsMade}
use Rattle.routing.specs.declared.delivered.Delivered.{Delivered}
use Rattle.routing.specs.declared.delivered.Outcome.{Outcome}
use Rattle.routing.specs.declared.delivered.Outcome.TheVariants.{Going, Done, Refused, Broken}

-- ---- behind the talk

module _ {H : Type 0} (step : H → HandlerCall → H → Type 0) (makes : ℕ → H → Type 0) (none_made : Type 0) where
  -- By this front both ends agree on the protocol of this index, and its handler is there: so far this came then.
  pub record HasAgreed (so_far : Past H) (bytes : List ℕ) (index : ℕ) (front rest : List ℕ) (middle : Streaming H)
      : Type 0 where
    pub agrees : AgreesBy so_far bytes index front rest
    pub made : H
    pub is_made : IsMade makes none_made so_far index made
    pub stands : Stands step middle (record so_far { got = so_far.got ++ front; made = Some made })
    pub serving : kind_of middle.stage ≡ Served

-- ---- what came of it

module _ {H : Type 0} (step : H → HandlerCall → H → Type 0) (fails : H → Asked → ℕ → Type 0)
    (is_closed is_finished : H → Bool) (role : Role) (past : List Item) (fed sent : List ℕ) (n : ℕ) where
  -- What serving the stream came to, which stood so: it was served, or its handler gave up when it was asked for bytes,
  -- nothing was done, and the stream is over.
  abbrev pub Came : Past H → Streaming H → State → Outcome H → State → Streaming H → Type 0
  Came so_far old before Going session stream =
      Asking step is_closed role past n old stream so_far (λ now. Serves step is_closed is_finished old.stage
      role past fed sent n now None session stream)
      × (kind_of stream.stage ≡ kind_of old.stage)
  Came so_far old before (Done handler) session stream =
      Asking step is_closed role past n old stream so_far (λ now. Serves step is_closed is_finished old.stage
      role past fed sent n now (Some handler) session stream)
      × (kind_of old.stage ≡ Served)
  Came so_far old before Refused session stream = ⊥
  Came so_far old before (Broken cause) session stream =
      (session ≡ before) × ((credit : ℕ) × (open_credit role past n ≡ Some credit)
      × GivesUp fails is_closed old credit (stops.Broken cause)) × (stream ≡ record old { stage = stages.Over })

  -- the handler that serves the stream fails at this, nothing was done, and the stream is over
  abbrev pub Fails : Asked → Streaming H → State → Outcome H → State → Streaming H → Type 0
  Fails asked old before outcome session stream =
      (session ≡ before) × ((handler : H) × (fault : HandlerFault) × (old.stage ≡ stages.Serving handler)
      × fails handler asked fault.number × (outcome ≡ Broken (causes.Handler fault)))
      × (stream.stage ≡ stages.Over) × (stream.waiting ≡ old.waiting)

  -- The handler answered this call, or it was dropped, and the stream was served: so far this came then. Or the handler
  -- failed at what it was asked for.
  abbrev pub Hands : HandlerCall → Asked → Past H → Streaming H → State → Outcome H → State → Streaming H → Type 0
  Hands call asked so_far old before outcome session stream =
      ((middle : Streaming H) × Stands step middle so_far × (kind_of middle.stage ≡ kind_of old.stage)
      × AnswersCall step old.stage call × Came so_far middle before outcome session stream)
      ⊎ Fails asked old before outcome session stream

  -- data behind the talk
  abbrev pub Takes : Past H → List ℕ → Streaming H → State → Outcome H → State → Streaming H → Type 0
  Takes so_far bytes old = Hands (Take bytes) (ToTake bytes)
      (with_call (record so_far { got = so_far.got ++ bytes; left = None }) (answering old.stage (Take bytes))) old

  -- What came of the end: an end within the talk breaks the stream, which is over then, and nothing is done.
  abbrev pub Ends : Past H → Streaming H → State → Outcome H → State → Streaming H → Type 0
  Ends so_far old before outcome session stream =
      (is_talking old.stage ≡ true
      → (outcome ≡ Broken causes.Ended) × (session ≡ before) × (stream.stage ≡ stages.Over)
      × (stream.waiting ≡ old.waiting))
      × (is_talking old.stage ≡ false
      → Hands End ToEnd (with_call (record so_far { ended = true; left = None }) (answering old.stage End)) old before
      outcome session stream)

  module _ (makes : ℕ → H → Type 0) (none_made : Type 0) where
    -- Why the stream is done with before it was served: nothing was done or made then, and it is over.
    abbrev pub Stops : Past H → List ℕ → Outcome H → Streaming H → Type 0
    Stops so_far bytes Refused stream =
        (front : List ℕ) × (rest : List ℕ) × (output : List ℕ) × (bytes ≡ front ++ rest)
        × IsTurnedDown so_far.side (so_far.got ++ front) output × none_made × (stream.stage ≡ stages.Over)
    Stops so_far bytes (Broken (causes.Select fault)) stream =
        (fault ≢ select_faults.OutOfMemory)
        × ((output : List ℕ) × Faults so_far.side (so_far.got ++ bytes) fault output) × none_made
        × (stream.stage ≡ stages.Over)
    Stops so_far bytes (Broken (causes.Handler fault)) stream = ⊥
    Stops so_far bytes (Broken causes.Reset) stream = ⊥
    Stops so_far bytes (Broken causes.Ended) stream = ⊥
    Stops so_far bytes Going stream = ⊥
    Stops so_far bytes (Done handler) stream = ⊥

    -- while it talks: nothing is decided, or both ends agree, or it stops, and what its talk wrote waits
    abbrev pub InTalk : Past H → List ℕ → Streaming H → State → Option ℕ → Outcome H → State → Streaming H → Type 0
    InTalk so_far bytes old before None outcome session stream =
        ((middle : Streaming H) × Stands step middle (record so_far { got = so_far.got ++ bytes })
        × (is_talking middle.stage ≡ true) × none_made
        × Came (record so_far { got = so_far.got ++ bytes }) middle before outcome session stream)
        ⊎ ((session ≡ before) × ((more : List ℕ) × (stream.waiting ≡ old.waiting ++ more))
        × Stops so_far bytes outcome stream)
    InTalk so_far bytes old before (Some index) outcome session stream =
        (front : List ℕ) × (rest : List ℕ) × (middle : Streaming H)
        × ((has : HasAgreed step makes none_made so_far bytes index front rest middle)
        × Takes (record so_far { got = so_far.got ++ front; made = Some has.made }) rest middle before outcome session
        stream)

    -- What came of data.
    abbrev pub Delivers : Past H → List ℕ → Streaming H → State → Delivered H → State → Streaming H → Type 0
    Delivers so_far bytes old before delivered session stream =
        (is_talking old.stage ≡ true
        → InTalk so_far bytes old before delivered.agreed delivered.outcome session stream)
        × (is_talking old.stage ≡ false → (delivered.agreed ≡ None) × none_made
        × Takes so_far bytes old before delivered.outcome session stream)

-- ---- where memory is wanting

module _ {H : Type 0} (step : H → HandlerCall → H → Type 0) (is_closed is_finished : H → Bool) (role : Role)
    (past : List Item) (fed sent : List ℕ) (n : ℕ) (before : State) where
  -- Memory is wanting when a stream is served, whose handler answered when it was asked.
  abbrev pub RunsOutServing : Past H → Streaming H → State → Streaming H → Type 0
  RunsOutServing so_far old session stream = WasAnswered step is_closed role past n old
      × RunsOut step is_closed is_finished old.stage role past fed sent n so_far old before session stream

  -- Memory is wanting behind a call: the handler answered it, or it was dropped, and then the stream was served.
  abbrev pub RunsOutBehind : HandlerCall → Past H → Streaming H → State → Streaming H → Type 0
  RunsOutBehind call so_far old session stream = (middle : Streaming H) × Stands step middle so_far
      × (middle.waiting ≡ old.waiting) × (kind_of middle.stage ≡ kind_of old.stage)
      × ((handler : H) → handler_of old.stage ≡ Some handler
      → (after : H) × (handler_of middle.stage ≡ Some after) × step handler call after)
      × RunsOutServing so_far middle session stream

  -- behind data for the handler
  abbrev pub RunsOutTaking : Past H → List ℕ → Streaming H → State → Streaming H → Type 0
  RunsOutTaking so_far bytes old = RunsOutBehind (Take bytes)
      (with_call (record so_far { got = so_far.got ++ bytes; left = None }) (answering old.stage (Take bytes))) old

  -- behind the end
  abbrev pub RunsOutEnding : Past H → Streaming H → State → Streaming H → Type 0
  RunsOutEnding so_far old = RunsOutBehind End
      (with_call (record so_far { ended = true; left = None }) (answering old.stage End)) old

  module _ (makes : ℕ → H → Type 0) (none_made : Type 0) where
    -- Memory is wanting when the stream is served behind data: while nothing is decided, or once its handler took what
    -- stands behind the talk.
    abbrev pub ServingRunsOut : Past H → List ℕ → Streaming H → State → Streaming H → Type 0
    ServingRunsOut so_far bytes old session stream =
        (is_talking old.stage ≡ true
        → ((middle : Streaming H) × Stands step middle (record so_far { got = so_far.got ++ bytes })
        × (is_talking middle.stage ≡ true) × none_made
        × RunsOutServing (record so_far { got = so_far.got ++ bytes }) middle session stream)
        ⊎ ((index : ℕ) × (front : List ℕ) × (rest : List ℕ) × (middle : Streaming H)
        × ((has : HasAgreed step makes none_made so_far bytes index front rest middle)
        × RunsOutTaking (record so_far { got = so_far.got ++ front; made = Some has.made }) rest middle session
        stream)))
        × (is_talking old.stage ≡ false → none_made × RunsOutTaking so_far bytes old session stream)
