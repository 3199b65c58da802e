-- A stream as its owner sees it, and where it stands.
-- Source: multistream-select 1.0, "Protocol Negotiation"; that a stream is told its data in pieces is this project's
-- profile.
use Rattle.std.specs.Prelude.{◌≡◌, ℕ, Bool, true, false, not, List, Option, Some, None}
use Rattle.handlers.specs.Calls.{HandlerCall, Give}
use Rattle.streams.specs.declared.stage.Stage.{Stage}
use Rattle.streams.specs.declared.stage.Stage.TheVariants.{Talking, Agreed, Serving, Done, Over}
use Rattle.streams.specs.Streams.{Past, IsTalking, AwaitsHandler, IsServed, IsDone}

pub record Streaming (H : Type 0) : Type 0 where
  -- written by its talk, and not yet given out
  pub waiting : List ℕ
  -- where it is
  pub stage : Stage H

module _ {H : Type 0} (step : H → HandlerCall → H → Type 0) where
  -- by where it is; a stream that was refused or given up stands nowhere
  abbrev pub StandsAt : Stage H → Past H → List ℕ → Type 0
  StandsAt (Talking talk handler) past waiting = IsTalking step past talk handler waiting
  StandsAt (Agreed index) past waiting = AwaitsHandler past index waiting
  StandsAt (Serving handler) past waiting = IsServed step past handler waiting
  StandsAt Done past waiting = IsDone step past waiting
  StandsAt Over past waiting = ⊥

  -- The stream stands where this brings it.
  abbrev pub Stands : Streaming H → Past H → Type 0
  Stands x past = StandsAt x.stage past x.waiting

-- ---- questions

-- nothing is decided
abbrev pub is_talking : {H : Type 0} → Stage H → Bool
is_talking (Talking talk handler) = true
is_talking (Agreed index) = false
is_talking (Serving handler) = false
is_talking Done = false
is_talking Over = false

-- both ends agree, and the handler is still to be handed in
abbrev pub awaits_handler : {H : Type 0} → Stage H → Bool
awaits_handler (Talking talk handler) = false
awaits_handler (Agreed index) = true
awaits_handler (Serving handler) = false
awaits_handler Done = false
awaits_handler Over = false

-- the handler that is held
abbrev pub handler_of : {H : Type 0} → Stage H → Option H
handler_of (Talking talk handler) = handler
handler_of (Agreed index) = None
handler_of (Serving handler) = Some handler
handler_of Done = None
handler_of Over = None

-- a handler is held, and has this property
abbrev pub holds : {H : Type 0} → (H → Bool) → Option H → Bool
holds property None = false
holds property (Some handler) = property handler

-- a handler is held
abbrev pub holds_handler : {H : Type 0} → Stage H → Bool
holds_handler stage = holds (λ handler. true) (handler_of stage)

-- a handler is held that isn't closed: it is asked for bytes
abbrev pub is_open : {H : Type 0} → (H → Bool) → Stage H → Bool
is_open closed stage = holds (λ handler. not (closed handler)) (handler_of stage)

-- but for what waits it gives no more
abbrev pub has_closed : {H : Type 0} → (H → Bool) → Stage H → Bool
has_closed closed (Talking talk handler) = holds closed handler
has_closed closed (Agreed index) = false
has_closed closed (Serving handler) = closed handler
has_closed closed Done = true
has_closed closed Over = true

-- its handler serves it, and its work is done; before the talk agrees nobody asks
abbrev pub has_finished : {H : Type 0} → (H → Bool) → Stage H → Bool
has_finished finished (Talking talk handler) = false
has_finished finished (Agreed index) = false
has_finished finished (Serving handler) = finished handler
has_finished finished Done = false
has_finished finished Over = false

-- its handler was finished, and handed out
abbrev pub was_handed_out : {H : Type 0} → Stage H → Bool
was_handed_out (Talking talk handler) = false
was_handed_out (Agreed index) = false
was_handed_out (Serving handler) = false
was_handed_out Done = true
was_handed_out Over = false

-- it was refused, or given up
abbrev pub is_over : {H : Type 0} → Stage H → Bool
is_over (Talking talk handler) = false
is_over (Agreed index) = false
is_over (Serving handler) = false
is_over Done = false
is_over Over = true

-- the handler that serves it answers a call; where it was handed out what comes is dropped
abbrev pub answering : {H : Type 0} → Stage H → HandlerCall → Option HandlerCall
answering (Talking talk handler) call = None
answering (Agreed index) call = None
answering (Serving handler) call = Some call
answering Done call = None
answering Over call = None

-- the handler that is held answers when it is asked for so many bytes, unless it is closed
abbrev pub Answered : {H : Type 0} → (H → HandlerCall → H → Type 0) → (H → Bool) → Stage H → ℕ → Type 0
Answered step closed stage room = (handler : _) → handler_of stage ≡ Some handler → closed handler ≡ false
    → (after : _) × (bytes : List ℕ) × step handler (Give room bytes) after

-- ---- where it is, without what is held there

pub data Kind : Type 0 where
  InTalk : Kind
  Awaiting : Kind
  Served : Kind
  HandedOut : Kind
  Ended : Kind

abbrev pub kind_of : {H : Type 0} → Stage H → Kind
kind_of (Talking talk handler) = InTalk
kind_of (Agreed index) = Awaiting
kind_of (Serving handler) = Served
kind_of Done = HandedOut
kind_of Over = Ended
