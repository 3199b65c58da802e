-- Where the streams of a connection stand while what a frame told is routed to the one that it names.
-- Inside: no public clause of a connection cites it.
use Rattle.std.specs.Prelude.{◌≡◌, ◌≢◌, ◌⊎◌, ℕ, ◌==◌, ◌||◌, Bool, true, false, if◌then◌else◌, List, [], ◌∷◌, ◌++◌}
use Rattle.std.specs.Prelude.{map, Option, Some, None, IfSome, IsSome}
use Rattle.std.specs.List.{AllByRecursion}
use Rattle.handlers.specs.Calls.{HandlerCall, Asked}
use Rattle.yamux_session.specs.declared.event.Role.{Role}
use Rattle.yamux_session.specs.History.{Item, is_own}
use Rattle.yamux_session.specs.History.Item.{Came, Did}
use Rattle.yamux_session.specs.History.Act.{Reset}
use Rattle.yamux_session.specs.Openings.{is_live}
use Rattle.yamux_session.specs.declared.event.Event.{Event}
use Rattle.yamux_session.specs.declared.event.Event.TheVariants as heard
use Rattle.yamux_session.specs.Events.{Told, events}
use Rattle.yamux_session.specs.Seen.{Seen, seen, all_heard, just_opened, AgreesOn, IsQuiet}
use Rattle.yamux_session.specs.State.{State, Stands as SessionStands}
use Rattle.streams.specs.State.{Streaming, is_open, has_finished, was_handed_out, Served, kind_of}
use Rattle.serving.specs.Served.{IsSettled}
use Rattle.conn_log.specs.declared.earlier.Earlier.{Earlier}
use Rattle.conn_log.specs.declared.event.ConnEvent.{ConnEvent}
use Rattle.streams.specs.declared.stop.Cause.TheVariants as causes
use Rattle.routing.specs.declared.delivered.Outcome.{Outcome}
use Rattle.routing.specs.declared.delivered.Outcome.TheVariants.{Going, Done, Refused, Broken}
use Rattle.conn_log.specs.declared.event.ConnEvent.TheVariants as event
use Rattle.conn_log.specs.Entries.{Entry, items, said, since, is_over, made_of, put_aside, calls_of, has_taken}
use Rattle.conn_log.specs.Entries.Entry.{Of, Says, Made, Asks, Calls}
use Rattle.conn_log.specs.Turns.{turn, AreInTurn}
use Rattle.conn_log.specs.Asking.{is_asked_anew}
use Rattle.conn_log.specs.Due.{AllDue, told_reset, was_reset, told_end, end_was_told}
use Rattle.conn_log.specs.Held.{IsHeld, IsAtRest, WasAskedLast, AreLeft, earlier_of}
use Rattle.conn_log.specs.Rests.{AreAtRest}

-- it asks nothing of the stream
abbrev pub IsStill : Told → Type 0
IsStill (Told.Accepted n) = Unit {0}
IsStill (Told.GoAway code) = Unit {0}
IsStill (Told.Fault fault) = Unit {0}
IsStill other = ⊥

-- it opens no stream of this number
abbrev pub IsNoOpening : ℕ → Told → Type 0
IsNoOpening n (Told.Opened m) = (m == n) ≡ false
IsNoOpening n other = Unit {0}

-- it tells no data
abbrev pub IsNoData : Told → Type 0
IsNoData (Told.Payload m b) = ⊥
IsNoData other = Unit {0}

-- it tells no credit
abbrev pub IsNoCredit : Told → Type 0
IsNoCredit (Told.Credit m) = ⊥
IsNoCredit other = Unit {0}

-- the end is told once, and behind it, or behind a reset, neither data nor the end; credit is told once, before both
abbrev pub EndsLast : Bool → List Told → Type 0
EndsLast ended [] = Unit {0}
EndsLast ended (Told.Credit m ∷ rest) = EndsLast ended rest × AllByRecursion IsNoCredit rest
EndsLast ended (Told.Payload m b ∷ rest) = (ended ≡ false) × EndsLast ended rest × AllByRecursion IsNoCredit rest
EndsLast ended (Told.Ended m ∷ rest) = (ended ≡ false) × EndsLast true rest × AllByRecursion IsNoCredit rest
EndsLast ended (Told.Reset m ∷ rest) = EndsLast true rest
EndsLast ended (other ∷ rest) = EndsLast ended rest

-- what is put aside of a stream whose number is opened anew: it is kept, unless its handler was handed out
abbrev pub set_aside : {H : Type 0} → ℕ → Option (Streaming H) → List (Earlier H)
set_aside n None = []
set_aside n (Some it) = if was_handed_out it.stage then [] else record { number = n; stream = it } ∷ []

-- no frame came, and this end opened no stream
abbrev pub KeepsTurn : {H : Type 0} → List (Entry H) → Type 0
KeepsTurn [] = Unit {0}
KeepsTurn (Of (Came x) ∷ log) = ⊥
KeepsTurn (Of (Did act) ∷ log) = KeepsTurn log
KeepsTurn (Says e ∷ log) = KeepsTurn log
KeepsTurn (Made n handler ∷ log) = KeepsTurn log
KeepsTurn (Asks n index ∷ log) = ⊥
KeepsTurn (Calls n call ∷ log) = KeepsTurn log

-- The stream was reset where it was live; else nothing was done.
abbrev pub Resets : Role → List Item → List ℕ → List ℕ → ℕ → State → State → Type 0
Resets role past fed sent n old session = SessionStands role (Did (Reset n) ∷ past) fed sent session
    ⊎ ((session ≡ old) × (is_live role past n ≡ false))

-- an event of the session's that is about this stream, or about none, and isn't empty
abbrev pub IsFor : ℕ → Event → Type 0
IsFor n (heard.Opened m) = m ≡ n
IsFor n (heard.Accepted m) = m ≡ n
IsFor n (heard.Payload m bytes) = (m ≡ n) × (bytes ≢ [])
IsFor n (heard.Ended m) = m ≡ n
IsFor n (heard.Reset m) = m ≡ n
IsFor n (heard.Credit m) = m ≡ n
IsFor n (heard.GoAway code) = Unit {0}
IsFor n (heard.Fault fault) = Unit {0}

module _ {P H : Type 0} (step : H → HandlerCall → H → Type 0) (fails : H → Asked → ℕ → Type 0)
    (is_closed is_finished : H → Bool) (inbound_makes outbound_makes : P → ℕ → List ℕ → H → Type 0)
    (eager : ℕ → Bool) (names : List (List ℕ)) (peer : List ℕ) (role : Role) where
  -- the stream that is named, of which so much was seen: the rest of what was told is still to be routed to it
  pub record IsMoving (log : List (Entry H)) (n : ℕ) (view : Seen) (rest : List Told) (stream : Streaming H) : Type 0
    where
      pub held : IsHeld step is_closed is_finished names role log n view.came view.ended stream
      pub unfinished : has_finished is_finished stream.stage ≡ false
      pub over_by_end : view.live ≡ false → view.ended ≡ true
      -- by credit or data that is still to be routed its handler is asked anew
      pub anew : AllByRecursion (IsQuiet n) rest ⊎ (is_asked_anew role log n ≡ true)
      -- a handler that serves it was handed what stood behind the talk
      pub handed : kind_of stream.stage ≡ Served → has_taken (calls_of role log n) ≡ true
      -- it was served by all that came but the rest, where that brings neither data nor credit
      pub settled : AllByRecursion (IsQuiet n) rest → is_live role (items log) n ≡ true
          → IsSettled step is_closed is_finished role (items log) n held.so_far.left stream
      pub asked : AllByRecursion (IsQuiet n) rest → WasAskedLast is_closed role log n stream

  -- The stream that is named may be served: a handler that isn't closed is asked anew, and neither data nor credit is
  -- to be routed behind that. Where it holds none, by what is still to be routed one is asked anew.
  pub record MayBeServed (log : List (Entry H)) (n : ℕ) (view : Seen) (rest : List Told) (stream : Streaming H) : Type 0
    where
      pub held : IsHeld step is_closed is_finished names role log n view.came view.ended stream
      pub over_by_end : view.live ≡ false → view.ended ≡ true
      pub last : AllByRecursion (IsQuiet n) rest
          ⊎ ((is_open is_closed stream.stage ≡ false) × (is_asked_anew role log n ≡ true))
      pub anew : is_open is_closed stream.stage ≡ true → is_asked_anew role log n ≡ true
      -- a handler that serves it was handed what stood behind the talk
      pub handed : kind_of stream.stage ≡ Served → has_taken (calls_of role log n) ≡ true

  -- All streams but the one that is named are at rest, and of that one so much was seen.
  pub record Around (log : List (Entry H)) (fed sent : List ℕ) (session : State) (streams : ℕ → Option (Streaming H))
      (past : List (Earlier H)) (n : ℕ) (view : Seen) (rest : List Told) : Type 0 where
    pub session_stands : SessionStands role (items log) fed sent session
    pub due : AllDue step fails is_closed is_finished inbound_makes outbound_makes eager names peer role log
    pub others : (m : ℕ) → (n == m) ≡ false
        → IfSome (streams m) (λ it. IsAtRest step is_closed is_finished names role log m it)
    pub others_held : (m : ℕ) → (n == m) ≡ false → is_live role (items log) m ≡ true → IsSome (streams m)
    -- a handler that was made is held until the last event of its stream
    pub others_kept : (m : ℕ) → (n == m) ≡ false → made_of role log m ≢ None → is_over role log m ≡ false
        → IsSome (streams m)
    -- of each stream that was reset the last event was told, or its reset is still to be routed
    pub resets_told : (m : ℕ) → was_reset role (items log) m ≡ true
        → (is_over role log m ≡ true) ⊎ (told_reset m rest ≡ true)
    pub reset_came : told_reset n rest ≡ true → was_reset role (items log) n ≡ true
    -- an end that is still to be routed was told
    pub end_told : told_end n rest ≡ true → end_was_told role (items log) n ≡ true
    -- before a reset the end was seen, or is still to be routed, where it was told
    pub end_came : told_reset n rest ≡ true → view.ended || told_end n rest ≡ end_was_told role (items log) n
    pub heard : AgreesOn (seen role (items log) n) (all_heard n view rest)
    pub opens_none : AllByRecursion (IsNoOpening n) rest
    pub ends_last : EndsLast view.ended rest
    pub earlier : (m : ℕ) → AreLeft step is_closed is_finished names role log m 0 (earlier_of m past)
    pub past_is : map (λ (it : Earlier H). it.number) past ≡ put_aside role log
    -- it is the turn of the one that is named
    pub in_turn : AreInTurn log
    pub turn_is : turn log ≡ Some n

  -- And that one moves.
  pub record Routes (log : List (Entry H)) (fed sent : List ℕ) (session : State) (streams : ℕ → Option (Streaming H))
      (past : List (Earlier H)) (n : ℕ) (view : Seen) (rest : List Told) : Type 0 where
    pub around : Around log fed sent session streams past n view rest
    pub own : IfSome (streams n) (λ it. IsMoving log n view rest it)
    pub own_held : view.live ≡ true → IsSome (streams n)
    pub own_kept : made_of role log n ≢ None → is_over role log n ≡ false → IsSome (streams n)
    pub own_to_reset : told_reset n rest ≡ true → is_over role log n ≡ false → IsSome (streams n)

  -- Where the streams stand once the one that is named was served, and it came to this.
  abbrev pub Comes : List (Entry H) → List ℕ → List ℕ → State → (ℕ → Option (Streaming H)) → List (Earlier H) → ℕ → Seen
      → List Told → Outcome H → Type 0
  Comes log fed sent session streams past n view rest Going = Routes log fed sent session streams past n view rest
  Comes log fed sent session streams past n view rest (Done handler) =
      Routes (Says (event.Done n handler) ∷ log) fed sent session streams past n view rest
  Comes log fed sent session streams past n view rest Refused =
      Around (Says (event.Refused n) ∷ log) fed sent session streams past n view rest
  Comes log fed sent session streams past n view rest (Broken cause) =
      Around (Says (event.Broken n cause) ∷ log) fed sent session streams past n view rest
      × (cause ≢ causes.Reset)

  -- What routing an event led to: the list has grown, what it says was told, its handlers were made so, and the rest is
  -- still to be routed.
  pub record Routed (making : List (Entry H) → List (Entry H) → Type 0) (log : List (Entry H))
      (before after : List (ConnEvent H)) (fed sent : List ℕ) (session : State) (streams : ℕ → Option (Streaming H))
      (past : List (Earlier H)) (n : ℕ) (rest : List Told) : Type 0 where
    pub newer : List (Entry H)
    pub view : Seen
    pub told_is : after ≡ before ++ said newer
    -- the session told nothing more meanwhile
    pub untold : events role (items (newer ++ log)) ≡ events role (items log)
    -- no frame came, and this end opened no stream
    pub same_turn : KeepsTurn newer
    pub makes : making log (newer ++ log)
    pub routes : Routes (newer ++ log) fed sent session streams past n view rest

  -- The other end's opening of the stream that is named is to be routed, and then the rest: that of an earlier opening
  -- is still to be put aside.
  pub record Opening (log : List (Entry H)) (fed sent : List ℕ) (session : State) (streams : ℕ → Option (Streaming H))
      (past : List (Earlier H)) (n : ℕ) (rest : List Told) : Type 0 where
    pub around : Around log fed sent session streams (past ++ set_aside n (streams n)) n just_opened rest
    pub fresh : since role log n ≡ []
    pub theirs : is_own role n ≡ false
    -- by credit or data that is to be routed its handler is asked anew
    pub anew : AllByRecursion (IsQuiet n) rest ⊎ (is_asked_anew role log n ≡ true)

  -- This is still to be routed of what a frame told: an opening and what follows it, or what came to a stream, or
  -- nothing, where no frame came.
  abbrev pub Awaits : List (Entry H) → List ℕ → List ℕ → State → (ℕ → Option (Streaming H)) → List (Earlier H) → ℕ
      → List Told → Type 0
  Awaits log fed sent session streams past n told =
      ((rest : List Told) × (told ≡ Told.Opened n ∷ rest) × Opening log fed sent session streams past n rest)
      ⊎ (((view : Seen) × Routes log fed sent session streams past n view told)
      ⊎ ((told ≡ []) × AreAtRest step fails is_closed is_finished inbound_makes outbound_makes eager names peer role
      log fed sent session streams past))

  -- A part of what a frame told was routed, and the rest is still to be.
  pub record IsUnderWay (making : List (Entry H) → List (Entry H) → Type 0) (log : List (Entry H))
      (before after : List (ConnEvent H)) (fed sent : List ℕ) (session : State) (streams : ℕ → Option (Streaming H))
      (past : List (Earlier H)) (n : ℕ) (rest : List Told) : Type 0 where
    pub newer : List (Entry H)
    pub told_is : after ≡ before ++ said newer
    pub untold : events role (items (newer ++ log)) ≡ events role (items log)
    -- no frame came, and this end opened no stream
    pub same_turn : KeepsTurn newer
    pub makes : making log (newer ++ log)
    pub awaits : Awaits (newer ++ log) fed sent session streams past n rest
