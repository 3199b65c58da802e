-- The parts of serving a stream. Inside: no public clause cites it.
use Rattle.std.specs.Prelude.{◌≡◌, ◌≢◌, ◌⊎◌, ℕ, ◌<◌, ◌-◌, Bool, true, false, List, [], ◌∷◌, ◌++◌, length, map}
use Rattle.std.specs.Prelude.{Option, Some, None, IfSome}
use Rattle.std.specs.List.{concat}
use Rattle.handlers.specs.Calls.{HandlerCall}
use Rattle.yamux_session.specs.declared.event.Role.{Role}
use Rattle.yamux_session.specs.History.{Item, Act}
use Rattle.yamux_session.specs.History.Item.{Did}
use Rattle.yamux_session.specs.History.Act.{Write, Taken, Close}
use Rattle.yamux_session.specs.Openings.{is_live, closed}
use Rattle.yamux_session.specs.Windows.{credit, untaken, given_back}
use Rattle.yamux_session.specs.Acts.{open_credit}
use Rattle.yamux_session.specs.State.{State, Stands as SessionStands}
use Rattle.streams.specs.declared.stage.Stage.{Stage}
use Rattle.streams.specs.Streams.{Past}
use Rattle.streams.specs.State.{Streaming, Stands, is_open, has_closed}
use Rattle.serving.specs.Served.{Goes, HandsOut, with_sent}

-- the stream was asked with this much credit, and what it gave was written, where it gave anything
pub record Sends {H : Type 0} (step : H → HandlerCall → H → Type 0) (is_closed : H → Bool) (role : Role)
    (past : List Item) (fed sent : List ℕ) (n amount : ℕ) (so_far : Past H) (session : State) (stream : Streaming H)
    : Type 0 where
  pub pieces : List (List ℕ)
  pub acts : List Act
  pub acts_are : (acts ≡ Write n pieces ∷ []) ⊎ ((acts ≡ []) × (pieces ≡ []))
  pub left : Option ℕ
  pub session_stands : SessionStands role (map Did acts ++ past) fed sent session
  pub stream_stands : Stands step stream (record so_far { sent = so_far.sent ++ concat pieces; left = left })
  pub asked : is_open is_closed stream.stage ≡ true → left ≡ Some (amount - length (concat pieces))
  pub full : stream.waiting ≢ [] → length (concat pieces) ≡ amount

-- this direction was closed, which was open, where the stream gives no more; else nothing was done
abbrev pub Closes : Role → List Item → List ℕ → List ℕ → ℕ → Bool → State → State → Type 0
Closes role past fed sent n over old session =
    ((session ≡ old) × ((over ≡ false) ⊎ (open_credit role past n ≡ None)))
    ⊎ ((over ≡ true) × (is_live role past n ≡ true) × (closed role past n ≡ false)
    × SessionStands role (Did (Close n) ∷ past) fed sent session)

-- or it is open and due to be closed, and the frame finds no room
abbrev pub CloseRunsOut : Role → List Item → ℕ → Bool → State → State → Type 0
CloseRunsOut role past n over old session = (session ≡ old) × (over ≡ true) × (is_live role past n ≡ true)
    × (closed role past n ≡ false) × (old.room < 12)

-- all that came was taken, where credit is left or this direction is closed; else nothing was done
abbrev pub Counts : Role → List Item → List ℕ → List ℕ → ℕ → State → State → Type 0
Counts role past fed sent n old session =
    ((session ≡ old) × ((open_credit role past n ≡ Some 0) ⊎ (is_live role past n ≡ false)))
    ⊎ ((open_credit role past n ≢ Some 0) × (is_live role past n ≡ true)
    × SessionStands role (Did (Taken n (untaken role past n)) ∷ past) fed sent session)

-- or what came is due to be taken, and the frame that gives a window back finds no room
abbrev pub CountRunsOut : Role → List Item → ℕ → State → State → Type 0
CountRunsOut role past n old session = (session ≡ old) × (open_credit role past n ≢ Some 0)
    × (is_live role past n ≡ true) × (0 < given_back role n past (Did (Taken n (untaken role past n))))
    × (old.room < 12)

module _ {H : Type 0} (step : H → HandlerCall → H → Type 0) (is_closed is_finished : H → Bool) (was : Stage H) where
  -- The stream was asked with all the credit, where this direction is open. A handler that isn't closed wasn't closed
  -- before.
  pub record WasAsked (role : Role) (past : List Item) (fed sent : List ℕ) (n : ℕ) (so_far : Past H) (session : State)
      (stream : Streaming H) : Type 0 where
    pub goes : Goes step is_closed is_finished was role past fed sent n so_far session stream
    pub live_is : is_live role goes.now n ≡ is_live role past n
    pub closed_is : closed role goes.now n ≡ closed role past n
    pub asked : is_live role goes.now n ≡ true → closed role goes.now n ≡ false
        → is_open is_closed stream.stage ≡ true
        → (goes.left ≡ Some (credit role goes.now n)) × (is_open is_closed was ≡ true)
    pub none_waits : is_live role goes.now n ≡ true → closed role goes.now n ≡ false → 0 < credit role goes.now n
        → stream.waiting ≡ []
    pub untaken_is : untaken role goes.now n ≡ untaken role past n

  -- A handler that is finished was handed out, and this direction is closed where the stream gives no more. One that
  -- was handed out and isn't closed wasn't closed before.
  pub record WasClosed (role : Role) (past : List Item) (fed sent : List ℕ) (n : ℕ) (so_far : Past H)
      (handler : Option H) (session : State) (stream : Streaming H) : Type 0 where
    pub goes : Goes step is_closed is_finished was role past fed sent n so_far session stream
    pub asked : is_live role goes.now n ≡ true → closed role goes.now n ≡ false
        → is_open is_closed stream.stage ≡ true
        → (goes.left ≡ Some (credit role goes.now n)) × (is_open is_closed was ≡ true)
    pub none_waits : is_live role goes.now n ≡ true → closed role goes.now n ≡ false → 0 < credit role goes.now n
        → stream.waiting ≡ []
    pub handed_out : HandsOut step is_closed is_finished (with_sent role goes.now n so_far goes.left) handler stream
    pub over : is_live role goes.now n ≡ true → has_closed is_closed stream.stage ≡ true → stream.waiting ≡ []
        → closed role goes.now n ≡ true
    pub asked_still : is_live role goes.now n ≡ true → closed role goes.now n ≡ false
        → IfSome handler (λ it. is_closed it ≡ false → (goes.left ≡ Some (credit role goes.now n))
        × (is_open is_closed was ≡ true))
    pub asked_last : is_live role past n ≡ true → closed role past n ≡ false
        → IfSome handler (λ it. is_closed it ≡ false → (goes.left ≡ Some (credit role goes.now n))
        × (is_open is_closed was ≡ true))
    pub closed_by : closed role past n ≡ false → closed role goes.now n ≡ true
        → (stream.waiting ≡ []) × (has_closed is_closed stream.stage ≡ true)
    pub untaken_is : untaken role goes.now n ≡ untaken role past n
