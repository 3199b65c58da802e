-- What the owner of a session does on one of its streams when it serves it, and why each act is due.
-- Source: hashicorp yamux, "Flow Control" and "Flag Field"; that a handler is asked for as many bytes as there is
-- credit, and when data counts as taken, is this project's profile.
use Rattle.std.specs.Prelude.{◌≡◌, ◌≢◌, ◌⊎◌, ℕ, ◌<◌, ◌-◌, Bool, true, false, List, [], ◌∷◌, ◌++◌, map, length}
use Rattle.std.specs.Prelude.{Option, Some, IfSome, IfNone}
use Rattle.handlers.specs.Calls.{HandlerCall, Take, Give, End, Asked, ToGive}
use Rattle.yamux_session.specs.declared.event.Role.{Role}
use Rattle.yamux_session.specs.History.{Item, Act}
use Rattle.yamux_session.specs.History.Item.{Did}
use Rattle.yamux_session.specs.History.Act.{Start, Write, Taken, Close, Reset}
use Rattle.yamux_session.specs.Openings.{is_live, closed}
use Rattle.yamux_session.specs.Windows.{credit, untaken, given_back}
use Rattle.yamux_session.specs.Acts.{open_credit}
use Rattle.yamux_session.specs.Data.{written}
use Rattle.yamux_session.specs.State.{State, Stands as SessionStands}
use Rattle.streams.specs.declared.stage.Stage.{Stage}
use Rattle.streams.specs.declared.stage.Stage.TheVariants.{Done}
use Rattle.streams.specs.declared.stop.Stop.{Stop}
use Rattle.streams.specs.Streams.{Past, IsServed, with_call}
use Rattle.streams.specs.State.{Streaming, Stands, Answered, handler_of, kind_of, is_open, has_closed, has_finished}
use Rattle.streams.specs.Stops.{FailsBy}

-- ---- the call by which a stream is served

module _ {H : Type 0} (step : H → HandlerCall → H → Type 0) where
  -- the handler that a stream holds, where it holds one, answers this call
  abbrev pub AnswersCall : Stage H → HandlerCall → Type 0
  AnswersCall stage call = (handler : H) → handler_of stage ≡ Some handler → (after : H) × step handler call after

  -- What may be asked for: while the stream is live, and this direction open, a handler that it holds, and that isn't
  -- closed, is asked for as many bytes as there is credit behind what waits, and answers.
  abbrev pub MayBeAsked : (H → Bool) → Role → List Item → ℕ → Streaming H → HandlerCall → Type 0
  MayBeAsked is_closed role past n stream (Give room bytes) =
      (is_live role past n ≡ true) × (closed role past n ≡ false) × (is_open is_closed stream.stage ≡ true)
      × (room ≡ credit role past n - length stream.waiting) × AnswersCall stream.stage (Give room bytes)
  MayBeAsked is_closed role past n stream (Take bytes) = ⊥
  MayBeAsked is_closed role past n stream End = ⊥

  -- It isn't asked: the stream isn't live, or this direction is closed, or it holds no handler that isn't closed.
  abbrev pub IsUnasked : (H → Bool) → Role → List Item → ℕ → Streaming H → Type 0
  IsUnasked is_closed role past n stream =
      is_live role past n ≡ true → closed role past n ≡ false → is_open is_closed stream.stage ≡ false

  -- The stream's handler was called once, for what it may be asked for, unless it isn't asked, and so far this came
  -- then. Where it isn't asked, a live stream whose direction is open holds no handler that isn't closed, neither
  -- before it was served nor afterwards.
  abbrev pub Asking : (H → Bool) → Role → List Item → ℕ → Streaming H → Streaming H → Past H → (Past H → Type 0)
      → Type 0
  Asking is_closed role past n old new so_far Came = (gave : Option HandlerCall)
      × IfSome gave (MayBeAsked is_closed role past n old) × Came (with_call so_far gave)
      × IfNone gave (IsUnasked is_closed role past n old × IsUnasked is_closed role past n new)

-- ---- what is done then

-- the stream's past where its session's list is this: what was sent on it is what was written
abbrev pub with_sent : {H : Type 0} → Role → List Item → ℕ → Past H → Option ℕ → Past H
with_sent role past n so_far left = record so_far { sent = written role past n; left = left }

module _ {H : Type 0} (step : H → HandlerCall → H → Type 0) (is_closed is_finished : H → Bool) where
  -- What holds of a live stream that was served: a handler that isn't closed was asked last, with all the credit; what
  -- its talk wrote waits only where no credit is left; this direction is closed where it gives no more; and all that
  -- came was taken, unless no credit is left.
  pub record IsSettled (role : Role) (past : List Item) (n : ℕ) (left : Option ℕ) (stream : Streaming H) : Type 0 where
    pub asked : closed role past n ≡ false → is_open is_closed stream.stage ≡ true → left ≡ Some (credit role past n)
    pub none_waits : closed role past n ≡ false → 0 < credit role past n → stream.waiting ≡ []
    pub over : has_closed is_closed stream.stage ≡ true → stream.waiting ≡ [] → closed role past n ≡ true
    pub was_taken : (0 < credit role past n) ⊎ (closed role past n ≡ true) → untaken role past n ≡ 0

  -- A handler that is finished was handed out, and then the stream is done; else none is finished.
  abbrev pub HandsOut : Past H → Option H → Streaming H → Type 0
  HandsOut so_far handler stream =
      IfSome handler (λ it. IsServed step so_far it stream.waiting × (is_finished it ≡ true) × (stream.stage ≡ Done))
      × IfNone handler (has_finished is_finished stream.stage ≡ false)

-- Of a stream that was at this stage before it was served. Each act is due by the stream while it is in its talk, or
-- serves, or was handed out, as it was then.
module _ {H : Type 0} (step : H → HandlerCall → H → Type 0) (is_closed is_finished : H → Bool) (was : Stage H) where
  -- The stream gave what it has: nothing waits, and its handler was asked last with all the credit, unless it is closed
  -- or was handed out before. One that isn't closed wasn't closed before either: so on a live stream, whose direction
  -- is open, it was asked now, and what it was asked earlier doesn't count.
  pub record GaveAll (role : Role) (past : List Item) (n : ℕ) (so_far : Past H) : Type 0 where
    pub stream : Streaming H
    pub left : Option ℕ
    pub stands : Stands step stream (with_sent role past n so_far left)
    pub none_waits : stream.waiting ≡ []
    pub asked : is_open is_closed stream.stage ≡ true
        → (left ≡ Some (credit role past n)) × (is_open is_closed was ≡ true)
    pub kind_is : kind_of stream.stage ≡ kind_of was

  -- It gives no more: its handler is closed, or finished, or was handed out before.
  pub record HasGiven (role : Role) (past : List Item) (n : ℕ) (so_far : Past H) : Type 0 where
    pub all : GaveAll role past n so_far
    pub over : (has_closed is_closed all.stream.stage ≡ true) ⊎ (has_finished is_finished all.stream.stage ≡ true)

  -- The stream stands where this is its session's list: what was written on it is what it gave.
  pub record HasSent (role : Role) (past : List Item) (n : ℕ) (so_far : Past H) : Type 0 where
    pub stream : Streaming H
    pub left : Option ℕ
    pub stands : Stands step stream (with_sent role past n so_far left)
    pub kind_is : kind_of stream.stage ≡ kind_of was

  -- Why an act is due that serves the stream: all that came is taken, once the stream stands by it, where this
  -- direction is closed, or credit is left by a stream that gave what it has; this direction is closed where the stream
  -- gives no more; and what it gives is written.
  abbrev pub IsDue : Role → List Item → ℕ → Past H → Act → Type 0
  IsDue role past n so_far (Write m pieces) = (m ≡ n) × HasSent role (Did (Write m pieces) ∷ past) n so_far
  IsDue role past n so_far (Taken m count) = (m ≡ n) × (count ≡ untaken role past n)
      × (((closed role past n ≡ true) × HasSent role past n so_far)
      ⊎ ((0 < credit role past n) × GaveAll role past n so_far))
  IsDue role past n so_far (Close m) = (m ≡ n) × HasGiven role past n so_far
  IsDue role past n so_far (Start m) = ⊥
  IsDue role past n so_far (Reset m) = ⊥
  IsDue role past n so_far (Act.GoAway code) = ⊥

  -- each act, the newest first, where it was done
  abbrev pub AreDue : Role → List Item → ℕ → Past H → List Act → Type 0
  AreDue role past n so_far [] = Unit {0}
  AreDue role past n so_far (act ∷ acts) =
      IsDue role (map Did acts ++ past) n so_far act × AreDue role past n so_far acts

  -- The session's list has grown by acts that serve the stream, and session and stream stand there.
  pub record Goes (role : Role) (past : List Item) (fed sent : List ℕ) (n : ℕ) (so_far : Past H) (session : State)
      (stream : Streaming H) : Type 0 where
    pub acts : List Act
    pub now : List Item
    pub now_is : now ≡ map Did acts ++ past
    pub due : AreDue role past n so_far acts
    pub session_stands : SessionStands role now fed sent session
    pub left : Option ℕ
    pub stream_stands : Stands step stream (with_sent role now n so_far left)

  -- The stream was served, and this handler was handed out.
  pub record Serves (role : Role) (past : List Item) (fed sent : List ℕ) (n : ℕ) (so_far : Past H)
      (handler : Option H) (session : State) (stream : Streaming H) : Type 0 where
    pub goes : Goes role past fed sent n so_far session stream
    pub handed_out : HandsOut step is_closed is_finished (with_sent role goes.now n so_far goes.left) handler stream
    pub settled : is_live role goes.now n ≡ true
        → IsSettled step is_closed is_finished role goes.now n goes.left stream
    -- Where this direction was open before, a handler that is handed out and isn't closed was asked last, with all the
    -- credit. It wasn't closed before either: so it was asked now.
    pub asked_last : is_live role past n ≡ true → closed role past n ≡ false
        → IfSome handler (λ it. is_closed it ≡ false → (goes.left ≡ Some (credit role goes.now n))
        × (is_open is_closed was ≡ true))
    -- this direction was closed only where it is this stream that gives no more
    pub closed_by : closed role past n ≡ false → closed role goes.now n ≡ true
        → (stream.waiting ≡ []) × (has_closed is_closed stream.stage ≡ true)
    -- what came was taken only where this direction is closed, or credit is left, so that it is this stream that gave
    -- what it has
    pub taken_by : closed role goes.now n ≡ false → untaken role goes.now n ≢ untaken role past n
        → 0 < credit role goes.now n

-- ---- refusals

-- The handler of the stream gives up, when it is asked for as many bytes as there is credit behind what waits.
pub record GivesUp {H : Type 0} (fails : H → Asked → ℕ → Type 0) (is_closed : H → Bool) (stream : Streaming H)
    (credit : ℕ) (stop : Stop) : Type 0 where
  pub handler : H
  pub held : handler_of stream.stage ≡ Some handler
  pub unclosed : is_closed handler ≡ false
  pub fails_by : FailsBy fails handler (ToGive (credit - length stream.waiting)) stop

-- The handler that a stream holds answers when it is asked for as many bytes as there is credit behind what waits,
-- unless it is closed, where this direction is open.
abbrev pub WasAnswered : {H : Type 0} → (H → HandlerCall → H → Type 0) → (H → Bool) → Role → List Item → ℕ → Streaming H
    → Type 0
WasAnswered step is_closed role past n stream = (credit : ℕ) → open_credit role past n ≡ Some credit
    → Answered step is_closed stream.stage (credit - length stream.waiting)

-- Serving may send something on the stream: it is live, and this direction is open, or a window is given back.
abbrev pub MayGrow : Role → List Item → ℕ → Type 0
MayGrow role past n = (is_live role past n ≡ true)
    × ((closed role past n ≡ false) ⊎ (0 < given_back role n past (Did (Taken n (untaken role past n)))))
