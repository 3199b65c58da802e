-- Where memory is wanting when a stream is served: what was done until then, and for what it is wanting.
-- Source: this project's profile.
use Rattle.std.specs.Prelude.{◌≡◌, ◌≢◌, ◌⊎◌, ℕ, ◌<◌, ◌≤◌, Bool, List, [], ◌++◌, length, Option, Some, None}
use Rattle.handlers.specs.Calls.{HandlerCall}
use Rattle.yamux_session.specs.declared.event.Role.{Role}
use Rattle.yamux_session.specs.History.{Item, Act}
use Rattle.yamux_session.specs.History.Item.{Did}
use Rattle.yamux_session.specs.History.Act.{Start, Write, Taken, Close, Reset}
use Rattle.yamux_session.specs.Windows.{given_back}
use Rattle.yamux_session.specs.Acts.{open_credit, frames_length}
use Rattle.yamux_session.specs.State.{State}
use Rattle.streams.specs.declared.stage.Stage.{Stage}
use Rattle.streams.specs.declared.stage.Stage.TheVariants.{Over}
use Rattle.streams.specs.Streams.{Past}
use Rattle.streams.specs.State.{Streaming, Stands, kind_of, Served, HandedOut}
use Rattle.serving.specs.Served.{Asking, Goes, IsDue}

-- The act asks a session for the room of one frame: that by which a direction is closed, or by which a window is given
-- back.
abbrev pub SendsFrame : Role → List Item → Act → Type 0
SendsFrame role past (Close n) = open_credit role past n ≢ None
SendsFrame role past (Taken n count) = 0 < given_back role n past (Did (Taken n count))
SendsFrame role past (Write n pieces) = ⊥
SendsFrame role past (Start n) = ⊥
SendsFrame role past (Reset n) = ⊥
SendsFrame role past (Act.GoAway code) = ⊥

-- The stream is where it was, or its handler was handed out: it isn't given up.
abbrev pub IsKept : {H : Type 0} → Streaming H → Streaming H → Type 0
IsKept old stream = (kind_of stream.stage ≡ kind_of old.stage)
    ⊎ ((kind_of old.stage ≡ Served) × (kind_of stream.stage ≡ HandedOut))

module _ {H : Type 0} (step : H → HandlerCall → H → Type 0) (role : Role) (past : List Item) (n : ℕ) where
  -- The stream gave these bytes, which may be sent, and a session with this room has none for their frames.
  pub record IsUnwritten (so_far : Past H) (room : ℕ) (stream : Streaming H) : Type 0 where
    pub bytes : List ℕ
    pub some : bytes ≢ []
    pub credit : ℕ
    pub is_open : open_credit role past n ≡ Some credit
    pub within : length bytes ≤ credit
    pub no_room : room < frames_length (length bytes)
    pub left : Option ℕ
    pub stands : Stands step stream (record so_far { sent = so_far.sent ++ bytes; left = left })

  -- Memory is wanting when the stream is asked, and nothing was done: for a copy of what waits, some of which may be
  -- sent, and then the stream is over; or to write what it gave.
  abbrev pub AskingRunsOut : (H → Bool) → Past H → Streaming H → State → State → Streaming H → Type 0
  AskingRunsOut is_closed so_far old before session stream = (session ≡ before)
      × (((stream ≡ record old { stage = Over }) × (old.waiting ≢ [])
      × ((credit : ℕ) × (open_credit role past n ≡ Some credit) × (0 < credit)))
      ⊎ ((kind_of stream.stage ≡ kind_of old.stage)
      × Asking step is_closed role past n old stream so_far (λ now. IsUnwritten now before.room stream)))

module _ {H : Type 0} (step : H → HandlerCall → H → Type 0) (is_closed is_finished : H → Bool) (was : Stage H)
    (role : Role) (past : List Item) (fed sent : List ℕ) (n : ℕ) where
  -- Acts were done that serve the stream, and for the next that is due the session has no room.
  pub record IsUndone (so_far : Past H) (session : State) (stream : Streaming H) : Type 0 where
    pub goes : Goes step is_closed is_finished was role past fed sent n so_far session stream
    pub act : Act
    pub due : IsDue step is_closed is_finished was role goes.now n so_far act
    pub sends : SendsFrame role goes.now act
    pub no_room : session.room < 12

  -- Memory is wanting when the stream is asked, or for what is due then.
  abbrev pub RunsOut : Past H → Streaming H → State → State → Streaming H → Type 0
  RunsOut so_far old before session stream = AskingRunsOut step role past n is_closed so_far old before session stream
      ⊎ (IsKept old stream × Asking step is_closed role past n old stream so_far (λ now. IsUndone now session stream))
