-- Where the streams of a connection stand when a call returns.
-- Source: libp2p connections, "Opening new streams over a connection"; what a connection tells is this project's
-- profile.
use Rattle.std.specs.Prelude.{◌≡◌, ◌≢◌, ◌⊎◌, ℕ, Bool, true, false, List, [], ◌∷◌, ◌++◌, map}
use Rattle.std.specs.Prelude.{Option, None, IfSome, IsSome}
use Rattle.handlers.specs.Calls.{HandlerCall, Asked}
use Rattle.yamux_frames.specs.Frames.{Arrival}
use Rattle.yamux_frames.specs.Frames.Arrival.{Head, Byte, Tail, Garbled}
use Rattle.yamux_session.specs.declared.event.Role.{Role}
use Rattle.yamux_session.specs.History.Item.{Came, Did}
use Rattle.yamux_session.specs.Openings.{is_live}
use Rattle.yamux_session.specs.State.{State, Stands as SessionStands}
use Rattle.streams.specs.State.{Streaming}
use Rattle.conn_log.specs.declared.earlier.Earlier.{Earlier}
use Rattle.conn_log.specs.declared.event.ConnEvent.{ConnEvent}
use Rattle.conn_log.specs.Entries.{Entry, items, said, asks, is_over, made_of, put_aside}
use Rattle.conn_log.specs.Entries.Entry.{Of, Says, Made, Asks, Calls}
use Rattle.conn_log.specs.Turns.{AreInTurn}
use Rattle.conn_log.specs.Due.{AllDue, was_reset}
use Rattle.conn_log.specs.Held.{IsAtRest, AreLeft, earlier_of}

-- What comes next belongs to what came right before it, with nothing done, told or called between: a further byte of a
-- payload, or the end of a frame.
abbrev pub GoesOn : {H : Type 0} → Arrival → List (Entry H) → Type 0
GoesOn (Head h) log = ⊥
GoesOn (Byte b) (Of (Came (Byte older)) ∷ log) = Unit {0}
GoesOn (Byte b) log = ⊥
GoesOn Tail (Of (Came (Byte older)) ∷ log) = Unit {0}
GoesOn Tail (Of (Came (Head h)) ∷ log) = Unit {0}
GoesOn Tail log = ⊥
GoesOn (Garbled bytes) log = ⊥

module _ {P H : Type 0} (step : H → HandlerCall → H → Type 0) (fails : H → Asked → ℕ → Type 0)
    (is_closed is_finished : H → Bool) (inbound_makes outbound_makes : P → ℕ → List ℕ → H → Type 0)
    (eager : ℕ → Bool) (names : List (List ℕ)) (peer : List ℕ) (role : Role) where
  -- The session is where the list leaves it, each entry is due where it stands, and in turn, and each stream that is
  -- held is at rest.
  pub record AreAtRest (log : List (Entry H)) (fed sent : List ℕ) (session : State) (streams : ℕ → Option (Streaming H))
      (past : List (Earlier H)) : Type 0 where
    pub session_stands : SessionStands role (items log) fed sent session
    pub due : AllDue step fails is_closed is_finished inbound_makes outbound_makes eager names peer role log
    pub in_turn : AreInTurn log
    pub each : (n : ℕ) → IfSome (streams n) (λ it. IsAtRest step is_closed is_finished names role log n it)
    -- each live stream is held
    pub live_held : (n : ℕ) → is_live role (items log) n ≡ true → IsSome (streams n)
    -- and each handler that was made, until the last event of its stream
    pub made_held : (n : ℕ) → made_of role log n ≢ None → is_over role log n ≡ false → IsSome (streams n)
    -- of each stream that the other end has reset the last event was told
    pub resets_told : (n : ℕ) → was_reset role (items log) n ≡ true → is_over role log n ≡ true
    -- those of earlier openings whose handlers were never finished are where their ends left them
    pub earlier : (n : ℕ) → AreLeft step is_closed is_finished names role log n 0 (earlier_of n past)
    -- and stand in the order in which their numbers were opened anew
    pub past_is : map (λ (it : Earlier H). it.number) past ≡ put_aside role log

  -- all streams were at rest where this list ended
  pub record IsRested (log : List (Entry H)) : Type 0 where
    pub fed : List ℕ
    pub sent : List ℕ
    pub session : State
    pub streams : ℕ → Option (Streaming H)
    pub past : List (Earlier H)
    pub at_rest : AreAtRest log fed sent session streams past

  -- All streams were at rest before each header, before each part of a payload, and before each stream that this end
  -- opened: what had come before was told, and what it led to was done.
  abbrev pub AreRested : List (Entry H) → Type 0
  AreRested [] = Unit {0}
  AreRested (Of (Came arrival) ∷ log) = (GoesOn arrival log ⊎ IsRested log) × AreRested log
  AreRested (Of (Did act) ∷ log) = AreRested log
  AreRested (Says e ∷ log) = AreRested log
  AreRested (Made n handler ∷ log) = AreRested log
  AreRested (Asks n index ∷ log) = IsRested log × AreRested log
  AreRested (Calls n call ∷ log) = AreRested log

  -- The list has grown by entries that say what was told, its handlers were made so, these bytes came, and all is at
  -- rest again.
  pub record Grows (making : List (Entry H) → List (Entry H) → Type 0) (log : List (Entry H))
      (before after : List (ConnEvent H)) (fed sent : List ℕ) (session : State) (streams : ℕ → Option (Streaming H))
      (past : List (Earlier H)) : Type 0 where
    pub newer : List (Entry H)
    pub told_is : after ≡ before ++ said newer
    -- this end opened no stream
    pub unasked : asks newer ≡ []
    pub makes : making log (newer ++ log)
    -- all streams were at rest before each header and each part of a payload of these bytes
    pub rested : AreRested log → AreRested (newer ++ log)
    pub at_rest : AreAtRest (newer ++ log) fed sent session streams past
