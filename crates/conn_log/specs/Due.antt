-- Why each entry of a connection's list stands where it does: what came to a stream, and what was told and done then.
-- Source: multistream-select 1.0, "Protocol Negotiation"; libp2p connections, "Opening new streams over a connection";
-- hashicorp yamux, "Flow Control" and "Flag Field"; what a connection tells is this project's profile.
use Rattle.std.specs.Prelude.{◌≡◌, ◌≢◌, ◌⊎◌, ℕ, ◌<◌, ◌-◌, ◌==◌, ◌||◌, Bool, true, false, if◌then◌else◌, None}
use Rattle.std.specs.Prelude.{Some, List, [], ◌∷◌, ◌++◌, length}
use Rattle.handlers.specs.Calls.{HandlerCall, Take, Give, End, Asked, ToTake, ToGive, ToEnd}
use Rattle.ms_select.specs.declared.fault.SelectFault.TheVariants as select_faults
use Rattle.talks.specs.Talks.{Side, IsOpen, Agrees, IsTurnedDown, Faults}
use Rattle.yamux_session.specs.declared.event.Role.{Role}
use Rattle.yamux_session.specs.History.{Item, Act, is_own}
use Rattle.yamux_session.specs.History.Item.{Came, Did}
use Rattle.yamux_session.specs.History.Act.{Start, Write, Taken, Close, Reset}
use Rattle.yamux_session.specs.Openings.{opens, is_live, closed, finished}
use Rattle.yamux_session.specs.Windows.{credit, untaken}
use Rattle.yamux_session.specs.Events.{Told, events_at}
use Rattle.yamux_session.specs.Data.{inbound, written}
use Rattle.streams.specs.declared.stop.Cause.{Cause}
use Rattle.streams.specs.declared.stop.Cause.TheVariants as causes
use Rattle.streams.specs.declared.stage.Stage.{Stage}
use Rattle.streams.specs.declared.stage.Stage.TheVariants.{Serving}
use Rattle.streams.specs.Streams.{Past, IsServed}
use Rattle.streams.specs.State.{Streaming, Stands, is_talking, awaits_handler, handler_of, is_open, has_closed}
use Rattle.streams.specs.State.{has_finished, was_handed_out, Served, kind_of}
use Rattle.serving.specs.Served.{IsSettled}
use Rattle.dispatch.specs.declared.direction.Direction.{Direction}
use Rattle.dispatch.specs.declared.direction.Direction.TheVariants.{Inbound, Outbound}
use Rattle.dispatch.specs.Dispatch.{made_by}
use Rattle.conn_log.specs.declared.event.ConnEvent.TheVariants as event
use Rattle.conn_log.specs.Entries.{Entry, items, agreed, is_over, was_done, made_of, calls_of, has_taken}
use Rattle.conn_log.specs.Entries.Entry.{Of, Says, Made, Asks, Calls}
use Rattle.conn_log.specs.Asking.{is_asked_anew}
use Rattle.conn_log.specs.Held.{IsSide, IsHeld, WasAskedLast}

-- this end opened the streams that have its numbers
abbrev pub direction_of : Role → ℕ → Direction
direction_of role n = if is_own role n then Outbound else Inbound

-- whether one of these events tells that the other end has reset the stream
abbrev pub told_reset : ℕ → List Told → Bool
told_reset n [] = false
told_reset n (Told.Reset m ∷ told) = m == n || told_reset n told
told_reset n (other ∷ told) = told_reset n told

-- the other end has reset the stream since its opening
abbrev pub was_reset : Role → List Item → ℕ → Bool
was_reset role [] n = false
was_reset role (x ∷ past) n =
    if opens role past x n then false else told_reset n (events_at role past x) || was_reset role past n

-- whether one of these events tells that the other end has ended its direction of the stream
abbrev pub told_end : ℕ → List Told → Bool
told_end n [] = false
told_end n (Told.Ended m ∷ told) = m == n || told_end n told
told_end n (other ∷ told) = told_end n told

-- that was told since its opening. It isn't told where the end came with a reset, in one frame
abbrev pub end_was_told : Role → List Item → ℕ → Bool
end_was_told role [] n = false
end_was_told role (x ∷ past) n =
    if opens role past x n then false else told_end n (events_at role past x) || end_was_told role past n

-- what a handler that answered so was asked for
abbrev pub asks_for : HandlerCall → Asked
asks_for (Take bytes) = ToTake bytes
asks_for (Give room bytes) = ToGive room
asks_for End = ToEnd

-- the newest entry agrees on a protocol for the stream, or makes its handler behind that
abbrev pub HasJustAgreed : {H : Type 0} → ℕ → List (Entry H) → Type 0
HasJustAgreed n (Says (event.Agreed m index) ∷ log) = m ≡ n
HasJustAgreed n (Made k handler ∷ Says (event.Agreed m index) ∷ log) = (k ≡ n) × (m ≡ n)
HasJustAgreed n log = ⊥

-- the newest entry gives the stream up, and the other end didn't reset it
abbrev pub IsGivenUp : {H : Type 0} → ℕ → List (Entry H) → Type 0
IsGivenUp n (Says (event.Refused m) ∷ log) = m ≡ n
IsGivenUp n (Says (event.Broken m cause) ∷ log) = (m ≡ n) × (cause ≢ causes.Reset)
IsGivenUp n log = ⊥

module _ {P H : Type 0} (step : H → HandlerCall → H → Type 0) (fails : H → Asked → ℕ → Type 0)
    (is_closed is_finished : H → Bool) (inbound_makes outbound_makes : P → ℕ → List ℕ → H → Type 0)
    (eager : ℕ → Bool) (names : List (List ℕ)) (peer : List ℕ) (role : Role) where
  -- What came to a stream, and what was sent and made for it and asked of its handler, is what the list says, or of its
  -- data a beginning.
  pub record HasCome (log : List (Entry H)) (n : ℕ) (so_far : Past H) : Type 0 where
    pub side_is : IsSide role names log n so_far.side
    pub rest : List ℕ
    pub got_is : inbound role (items log) n ≡ so_far.got ++ rest
    pub ended_by : so_far.ended ≡ true → (finished role (items log) n ≡ true) × (rest ≡ [])
    pub sent_is : so_far.sent ≡ written role (items log) n
    pub made_is : so_far.made ≡ made_of role log n
    pub calls_is : so_far.calls ≡ calls_of role log n

  -- the talk of the stream comes to this by a beginning of its data
  pub record ComesTo (log : List (Entry H)) (n : ℕ) (fact : Side → List ℕ → List ℕ → Type 0) : Type 0 where
    pub side : Side
    pub first : List ℕ
    pub rest : List ℕ
    pub output : List ℕ
    pub side_is : IsSide role names log n side
    pub data_is : inbound role (items log) n ≡ first ++ rest
    pub comes_to : fact side first output

  -- a stream that stands where the list brings it
  pub record IsThere (log : List (Entry H)) (n : ℕ) : Type 0 where
    pub so_far : Past H
    pub stream : Streaming H
    pub come : HasCome log n so_far
    pub stands : Stands step stream so_far

  -- ---- handlers

  -- the protocols make it for this stream, and for the protocol of this index
  abbrev pub Makes : ℕ → ℕ → H → Type 0
  Makes n index handler = (protocols : P)
      × made_by (inbound_makes protocols) (outbound_makes protocols) (direction_of role n) peer index handler

  -- the handler is asked for this where the stream stands: for what came last, or behind all that came for the end, or
  -- for as much as there is credit behind what waits
  abbrev pub IsAskedFor : List (Entry H) → ℕ → Past H → List ℕ → Asked → Type 0
  IsAskedFor log n so_far waiting (ToTake bytes) = inbound role (items log) n ≡ so_far.got ++ bytes
  IsAskedFor log n so_far waiting ToEnd =
      (inbound role (items log) n ≡ so_far.got) × (end_was_told role (items log) n ≡ true)
  IsAskedFor log n so_far waiting (ToGive room) =
      (inbound role (items log) n ≡ so_far.got) × (room ≡ credit role (items log) n - length waiting)

  -- While this direction of a live stream is open its handler was asked last, with all the credit and behind all that
  -- came, unless it is closed.
  abbrev pub WasAsked : List (Entry H) → ℕ → Past H → H → Type 0
  WasAsked log n so_far handler = is_live role (items log) n ≡ true → closed role (items log) n ≡ false
      → is_closed handler ≡ false → (so_far.left ≡ Some (credit role (items log) n))
      × (is_asked_anew role log n ≡ false)

  -- its handler was handed what stood behind the talk
  abbrev pub HasBegun : List (Entry H) → ℕ → Type 0
  HasBegun log n = has_taken (calls_of role log n) ≡ true

  -- It may be asked for that in its turn: what came, and its end, is told to a handler that serves the stream, wasn't
  -- told of the end before, and isn't finished: one that is finished was handed out, unless its talk has just agreed.
  -- It is handed some bytes, unless the talk took all of them. The end is told to one that gave what it has by all that
  -- came before. While a stream is live, and this direction open, one that isn't closed is asked to give, where it is
  -- asked anew. Behind the talk what stood there is handed over first.
  abbrev pub IsInTurn : List (Entry H) → ℕ → Stage H → Past H → H → Asked → Type 0
  IsInTurn log n stage so_far handler (ToTake bytes) = (stage ≡ Serving handler) × (so_far.ended ≡ false)
      × (((is_finished handler ≡ false) × (bytes ≢ []) × HasBegun log n) ⊎ HasJustAgreed n log)
  IsInTurn log n stage so_far handler ToEnd = (stage ≡ Serving handler) × (so_far.ended ≡ false)
      × (is_finished handler ≡ false) × HasBegun log n
  IsInTurn log n stage so_far handler (ToGive room) = (is_live role (items log) n ≡ true)
      × (closed role (items log) n ≡ false) × (is_closed handler ≡ false)
      × (is_asked_anew role log n ≡ true) × ((is_talking stage ≡ true) ⊎ HasBegun log n)

  -- Its handler may be asked for this, while its last event wasn't told. By then Agreed was told of it, where its talk
  -- is over, and only there.
  pub record MayBeAsked (log : List (Entry H)) (n : ℕ) (request : Asked) : Type 0 where
    pub there : IsThere log n
    pub handler : H
    pub held : handler_of there.stream.stage ≡ Some handler
    pub asked_for : IsAskedFor log n there.so_far there.stream.waiting request
    pub in_turn : IsInTurn log n there.stream.stage there.so_far handler request
    pub talking : is_talking there.stream.stage ≡ true → agreed role log n ≡ None
    pub agreed_on : is_talking there.stream.stage ≡ false → agreed role log n ≢ None
    pub going : is_over role log n ≡ false
    -- where it is told the end the stream was served by all that came before
    pub settled : request ≡ ToEnd → is_live role (items log) n ≡ true
        → IsSettled step is_closed is_finished role (items log) n there.so_far.left there.stream
    -- and it was asked behind all that
    pub asked : request ≡ ToEnd → WasAskedLast is_closed role log n there.stream

  -- its handler was asked for something, and failed with this number
  pub record HandlerFails (log : List (Entry H)) (n : ℕ) (number : ℕ) : Type 0 where
    pub request : Asked
    pub asked : MayBeAsked log n request
    pub fails_by : fails asked.handler request number

  -- its handler was asked for what it answers by this call
  pub record HandlerAnswers (log : List (Entry H)) (n : ℕ) (call : HandlerCall) : Type 0 where
    pub asked : MayBeAsked log n (asks_for call)
    pub after : H
    pub answers : step asked.handler call after

  -- A stream stands by all of its data, and by its end where that was told: its talk and its handler were handed what
  -- came, and what they led to was told.
  pub record HasHeard (log : List (Entry H)) (n : ℕ) : Type 0 where
    pub stream : Streaming H
    pub held : IsHeld step is_closed is_finished names role log n (inbound role (items log) n)
        (end_was_told role (items log) n) stream
    pub unfinished : has_finished is_finished stream.stage ≡ false
    -- a handler that serves it was handed what stood behind the talk
    pub handed : kind_of stream.stage ≡ Served → has_taken (calls_of role log n) ≡ true

  -- The talk of a stream goes on behind all of its data, and a live one was served by them: what was written waits only
  -- where no credit is left, an eager handler was asked behind them, with all the credit, unless it is closed, and what
  -- came was taken.
  pub record IsCutOff (log : List (Entry H)) (n : ℕ) : Type 0 where
    pub there : IsThere log n
    pub all_came : inbound role (items log) n ≡ there.so_far.got
    pub talks : is_talking there.stream.stage ≡ true
    pub settled : is_live role (items log) n ≡ true
        → IsSettled step is_closed is_finished role (items log) n there.so_far.left there.stream
    pub asked : WasAskedLast is_closed role log n there.stream

  -- why a stream is given up; one that was reset stood by all that came before, and one that ended within its talk, too
  abbrev pub IsBroken : List (Entry H) → ℕ → Cause → Type 0
  IsBroken log n (causes.Select fault) = (fault ≢ select_faults.OutOfMemory) × (agreed role log n ≡ None)
      × ComesTo log n (λ side first output. Faults side first fault output)
  IsBroken log n (causes.Handler fault) = HandlerFails log n fault.number
  IsBroken log n causes.Reset = (was_reset role (items log) n ≡ true) × HasHeard log n
  IsBroken log n causes.Ended = (end_was_told role (items log) n ≡ true) × (agreed role log n ≡ None)
      × ComesTo log n (λ side first output. (first ≡ inbound role (items log) n) × IsOpen side first output)
      × IsCutOff log n

  -- ---- each entry where it stands

  -- The handler was handed all data that came on its stream, was asked last, and is finished. While this direction of a
  -- live stream is open, what it gave waits only where no credit is left.
  pub record IsDone (log : List (Entry H)) (n : ℕ) (handler : H) : Type 0 where
    pub so_far : Past H
    pub waiting : List ℕ
    pub come : HasCome log n so_far
    pub all_came : inbound role (items log) n ≡ so_far.got
    pub served : IsServed step so_far handler waiting
    pub finished : is_finished handler ≡ true
    pub asked : WasAsked log n so_far handler
    pub none_waits : is_live role (items log) n ≡ true → closed role (items log) n ≡ false
        → 0 < credit role (items log) n → waiting ≡ []
    -- it was handed what stood behind the talk
    pub handed : has_taken (calls_of role log n) ≡ true

  -- The stream stands by all data that came: its handler was made, and one that serves it was handed what stood behind
  -- the talk; where it was handed out, that was told.
  pub record StandsByAll (log : List (Entry H)) (n : ℕ) : Type 0 where
    pub there : IsThere log n
    pub all_came : inbound role (items log) n ≡ there.so_far.got
    pub was_made : awaits_handler there.stream.stage ≡ false
    pub handed : kind_of there.stream.stage ≡ Served → has_taken (calls_of role log n) ≡ true
    pub was_told : was_handed_out there.stream.stage ≡ true → was_done role log n ≡ true

  -- The stream gave what it has by all data that came: nothing waits, and its handler was asked last, with all the
  -- credit, unless it is closed, or was handed out and that was told. On a live stream, whose direction is open, it was
  -- asked behind all that came: else it can't be asked.
  pub record GaveAll (log : List (Entry H)) (n : ℕ) : Type 0 where
    pub by_all : StandsByAll log n
    pub none_waits : by_all.there.stream.waiting ≡ []
    pub asked : is_open is_closed by_all.there.stream.stage ≡ true
        → by_all.there.so_far.left ≡ Some (credit role (items log) n)
    pub asked_last : WasAskedLast is_closed role log n by_all.there.stream
    -- neither Refused nor Broken was told of it
    pub not_given_up : is_over role log n ≡ was_done role log n

  -- It gives no more: its handler is closed, or finished, or was handed out.
  pub record HasGiven (log : List (Entry H)) (n : ℕ) : Type 0 where
    pub all : GaveAll log n
    pub over : (has_closed is_closed all.by_all.there.stream.stage ≡ true)
        ⊎ (has_finished is_finished all.by_all.there.stream.stage ≡ true)

  -- why a handler is made: the newest entry agrees on its protocol, or opens the stream for an eager one
  abbrev pub MayBeMade : List (Entry H) → ℕ → H → Type 0
  MayBeMade (Says (event.Agreed m index) ∷ log) n handler =
      (m ≡ n) × (made_of role log n ≡ None) × Makes n index handler
  MayBeMade (Asks m index ∷ log) n handler = (m ≡ n) × (eager index ≡ true) × Makes n index handler
  MayBeMade log n handler = ⊥

  abbrev pub IsDue : List (Entry H) → Entry H → Type 0
  -- a number is opened anew only where its stream's reset, if there was one, was told
  IsDue log (Of (Came arrival)) = (n : ℕ) → opens role (items log) (Came arrival) n ≡ true
      → was_reset role (items log) n ≡ true → is_over role log n ≡ true
  -- a stream is opened only where one was asked for
  IsDue log (Of (Did (Start n))) = ⊥
  -- what is written is what the stream gave by all data that came
  IsDue log (Of (Did (Write n pieces))) = StandsByAll (Of (Did (Write n pieces)) ∷ log) n
  -- all that came is taken, once the stream stands by it, where this direction is closed, or credit is left by a stream
  -- that gave what it has
  IsDue log (Of (Did (Taken n count))) = (count ≡ untaken role (items log) n)
      × (((closed role (items log) n ≡ true) × StandsByAll log n)
      ⊎ ((0 < credit role (items log) n) × GaveAll log n))
  IsDue log (Of (Did (Close n))) = HasGiven log n
  IsDue log (Of (Did (Reset n))) = IsGivenUp n log
  IsDue log (Of (Did (Act.GoAway code))) = ⊥
  IsDue log (Says (event.Agreed n index)) = (agreed role log n ≡ None) × (is_over role log n ≡ false)
      × ComesTo log n (λ side first output. Agrees side first index output)
  IsDue log (Says (event.Refused n)) = (agreed role log n ≡ None) × (is_over role log n ≡ false)
      × ComesTo log n (λ side first output. IsTurnedDown side first output)
  IsDue log (Says (event.Done n handler)) = (agreed role log n ≢ None) × (is_over role log n ≡ false)
      × IsDone log n handler
  IsDue log (Says (event.Broken n cause)) = (is_over role log n ≡ false) × IsBroken log n cause
  IsDue log (Says (event.Upgraded key)) = ⊥
  IsDue log (Says (event.Fault fault)) = ⊥
  IsDue log (Says event.Shut) = ⊥
  IsDue log (Made n handler) = MayBeMade log n handler
  IsDue log (Asks n index) = index < length names
  IsDue log (Calls n call) = HandlerAnswers log n call

  abbrev pub AllDue : List (Entry H) → Type 0
  AllDue [] = Unit {0}
  AllDue (entry ∷ log) = IsDue log entry × AllDue log
