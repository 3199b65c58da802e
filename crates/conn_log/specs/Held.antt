-- What holds of a stream that a connection holds.
-- Source: libp2p connections, "Opening new streams over a connection"; what a connection tells is this project's
-- profile.
use Rattle.std.specs.Prelude.{◌≡◌, ◌≢◌, ℕ, suc, ◌==◌, Bool, true, false, if◌then◌else◌, List, [], ◌∷◌, ◌++◌, Some, None}
use Rattle.std.specs.Prelude.{slice_get}
use Rattle.handlers.specs.Calls.{HandlerCall}
use Rattle.talks.specs.Talks.{Side, Asks, Answers}
use Rattle.yamux_session.specs.declared.event.Role.{Role}
use Rattle.yamux_session.specs.History.{is_own}
use Rattle.yamux_session.specs.Openings.{is_live, closed, finished}
use Rattle.yamux_session.specs.Data.{inbound, written}
use Rattle.streams.specs.Streams.{Past}
use Rattle.streams.specs.State.{Streaming, Stands, is_talking, awaits_handler, is_open, has_finished, was_handed_out}
use Rattle.streams.specs.State.{Served, kind_of}
use Rattle.serving.specs.Served.{IsSettled}
use Rattle.conn_log.specs.Entries.{Entry, items, agreed, is_over, was_done, made_of, calls_of, asked, is_kept}
use Rattle.conn_log.specs.Entries.{left_behind, has_taken}
use Rattle.conn_log.specs.Asking.{is_asked_anew}
use Rattle.conn_log.specs.declared.earlier.Earlier.{Earlier}

-- who opens a stream asks for the one name that was asked for; the other end answers with all of its names
abbrev pub IsSide : {H : Type 0} → Role → List (List ℕ) → List (Entry H) → ℕ → Side → Type 0
IsSide role names log n (Asks name index) =
    (is_own role n ≡ true) × (asked log n ≡ Some index) × (slice_get names index ≡ Some name)
IsSide role names log n (Answers known) = (is_own role n ≡ false) × (known ≡ names)

-- while it is live, and this direction open, a handler that isn't closed was asked behind all that came and all that it
-- answered
abbrev pub WasAskedLast : {H : Type 0} → (H → Bool) → Role → List (Entry H) → ℕ → Streaming H → Type 0
WasAskedLast is_closed role log n stream = is_live role (items log) n ≡ true → closed role (items log) n ≡ false
    → is_open is_closed stream.stage ≡ true → is_asked_anew role log n ≡ false

-- those of a number, among streams of earlier openings
abbrev pub earlier_of : {H : Type 0} → ℕ → List (Earlier H) → List (Streaming H)
earlier_of n [] = []
earlier_of n (it ∷ past) = if it.number == n then it.stream ∷ earlier_of n past else earlier_of n past

module _ {H : Type 0} (step : H → HandlerCall → H → Type 0) (is_closed is_finished : H → Bool) (names : List (List ℕ))
    (role : Role) where
  -- A stream of which this came, by which it stands: what was sent on it, made for it and asked of its handler is what
  -- the list says. Agreed was told of it where its talk is over, and Done where its handler was handed out.
  pub record IsHeld (log : List (Entry H)) (n : ℕ) (got : List ℕ) (ended : Bool) (stream : Streaming H) : Type 0 where
    pub so_far : Past H
    pub side_is : IsSide role names log n so_far.side
    pub got_is : so_far.got ≡ got
    pub ended_is : so_far.ended ≡ ended
    pub sent_is : so_far.sent ≡ written role (items log) n
    pub made_is : so_far.made ≡ made_of role log n
    pub calls_is : so_far.calls ≡ calls_of role log n
    pub stands : Stands step stream so_far
    pub talking : is_talking stream.stage ≡ true → agreed role log n ≡ None
    pub agreed_on : is_talking stream.stage ≡ false → agreed role log n ≢ None
    pub over : is_over role log n ≡ was_handed_out stream.stage
    pub done : was_done role log n ≡ was_handed_out stream.stage
    pub served : awaits_handler stream.stage ≡ false

  -- A stream where a call returns: all that came was handed to it, the end too, and it was served.
  pub record IsAtRest (log : List (Entry H)) (n : ℕ) (stream : Streaming H) : Type 0 where
    pub held : IsHeld log n (inbound role (items log) n) (finished role (items log) n) stream
    pub settled : is_live role (items log) n ≡ true
        → IsSettled step is_closed is_finished role (items log) n held.so_far.left stream
    pub asked : WasAskedLast is_closed role log n stream
    pub unfinished : has_finished is_finished stream.stage ≡ false
    -- a handler that serves it was handed what stood behind the talk
    pub handed : kind_of stream.stage ≡ Served → has_taken (calls_of role log n) ≡ true
    -- it is live no more where both ends have ended their direction
    pub over_by_end : is_live role (items log) n ≡ false → finished role (items log) n ≡ true

  -- A stream of an earlier opening of its number, whose handler is held still: it is where its end left it, behind so
  -- many others that the number has left.
  pub record IsPast (log : List (Entry H)) (n place : ℕ) (stream : Streaming H) : Type 0 where
    pub newer : List (Entry H)
    pub older : List (Entry H)
    pub log_is : log ≡ newer ++ older
    pub over : is_live role (items older) n ≡ false
    pub kept : is_kept role older n ≡ true
    pub place_is : left_behind role older n ≡ place
    pub at_rest : IsAtRest older n stream

  -- All streams that a number has left from this place on, in the order in which it was opened anew.
  abbrev pub AreLeft : List (Entry H) → ℕ → ℕ → List (Streaming H) → Type 0
  AreLeft log n place [] = left_behind role log n ≡ place
  AreLeft log n place (stream ∷ streams) = IsPast log n place stream × AreLeft log n (suc place) streams
