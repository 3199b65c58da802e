-- What becomes of a stream that this end is asked to open, and why it is refused.
-- Source: libp2p connections, "Opening new streams over a connection"; hashicorp yamux, "Stream ID"; that the end that
-- opens a stream may send before the other has answered is this project's profile.
use Rattle.std.specs.Prelude.{◌≡◌, ◌≢◌, ℕ, Bool, true, false, List, [], ◌∷◌, ◌++◌, Option, Some, None}
use Rattle.std.specs.List.{AllByRecursion}
use Rattle.handlers.specs.Calls as calls
use Rattle.handlers.specs.Calls.{HandlerCall}
use Rattle.yamux_session.specs.declared.event.Role.{Role}
use Rattle.yamux_session.specs.declared.event.ActRefused.{ActRefused}
use Rattle.yamux_session.specs.declared.event.ActRefused.TheVariants as why
use Rattle.yamux_session.specs.Acts.{next_own}
use Rattle.yamux_session.specs.State.{State}
use Rattle.streams.specs.State.{Streaming}
use Rattle.conn_log.specs.declared.earlier.Earlier.{Earlier}
use Rattle.routing.specs.declared.delivered.Outcome.{Outcome}
use Rattle.routing.specs.declared.delivered.Outcome.TheVariants.{Going, Done, Refused, Broken}
use Rattle.conn_log.specs.declared.event.ConnEvent.{ConnEvent}
use Rattle.conn_log.specs.declared.event.ConnEvent.TheVariants as event
use Rattle.conn_log.specs.declared.event.ConnRefused.{ConnRefused}
use Rattle.conn_log.specs.declared.event.ConnRefused.TheVariants as refusals
use Rattle.conn_log.specs.Entries.{Entry, items, said, asks, asked, made_in}
use Rattle.conn_log.specs.Entries.Entry.{Made, Asks}
use Rattle.conn_log.specs.Rests.{AreAtRest, AreRested}

-- a stream is refused for the reason for which the session opens none, or where memory is wanting
abbrev pub IsRefusedAs : Option ActRefused → ConnRefused → Type 0
IsRefusedAs reason refusals.GoneAway = reason ≡ Some why.GoneAway
IsRefusedAs reason refusals.StreamsExhausted = reason ≡ Some why.StreamsExhausted
IsRefusedAs reason refusals.StreamsFull = reason ≡ Some why.StreamsFull
IsRefusedAs reason refusals.OutOfMemory = reason ≡ None
IsRefusedAs reason refusals.Failed = ⊥
IsRefusedAs reason refusals.NotUp = ⊥
IsRefusedAs reason refusals.BadIndex = ⊥

-- the handler that the stream begins with: that of an eager protocol, and of no other one is made
abbrev pub IsEarly : {H : Type 0} → Bool → (H → Type 0) → Type 0 → Option H → Type 0
IsEarly eager makes none_made None = (eager ≡ false) × none_made
IsEarly eager makes none_made (Some handler) = (eager ≡ true) × makes handler

-- what is told of what a stream came to
abbrev pub told_of : {H : Type 0} → ℕ → Outcome H → List (ConnEvent H)
told_of n Going = []
told_of n (Done handler) = event.Done n handler ∷ []
told_of n Refused = event.Refused n ∷ []
told_of n (Broken cause) = event.Broken n cause ∷ []

-- the handler of each eager protocol that was asked for was made
abbrev pub AreMadeEarly : {H : Type 0} → (ℕ → Bool) → List (Entry H) → Type 0
AreMadeEarly eager log = (n index : ℕ) → asked log n ≡ Some index → eager index ≡ true → made_in n log ≢ None

-- it tells that this stream is given up
abbrev pub IsBrokenOf : {H : Type 0} → ℕ → ConnEvent H → Type 0
IsBrokenOf n (event.Broken m cause) = m ≡ n
IsBrokenOf n other = ⊥

module _ {P H : Type 0} (step : H → HandlerCall → H → Type 0) (fails : H → calls.Asked → ℕ → Type 0)
    (is_closed is_finished : H → Bool) (inbound_makes outbound_makes : P → ℕ → List ℕ → H → Type 0)
    (eager : ℕ → Bool) (names : List (List ℕ)) (peer : List ℕ) (role : Role) where
  -- The stream of this number was opened for the protocol of this index, the list has grown by what was done and told
  -- then, its handlers were made so, and all is at rest again.
  pub record Asked (making : List (Entry H) → List (Entry H) → Type 0) (number index : ℕ) (log : List (Entry H))
      (before after : List (ConnEvent H)) (fed sent : List ℕ) (session : State) (streams : ℕ → Option (Streaming H))
      (past : List (Earlier H)) : Type 0 where
    pub later : List (Entry H)
    pub number_is : number ≡ next_own role (items log)
    pub told_is : after ≡ before ++ said later
    -- no other stream was opened
    pub alone : asks later ≡ []
    -- of a stream that was just opened nothing is told but that its eager handler gave up
    pub only_broken : AllByRecursion (IsBrokenOf number) (said later)
    -- the handler of an eager protocol is made at once
    pub at_once : eager index ≡ true
        → (handler : H) × (newer : List (Entry H)) × (later ≡ newer ++ Made number handler ∷ [])
    pub makes : making log (later ++ Asks number index ∷ log)
    -- all streams were at rest before it was opened
    pub rested : AreRested step fails is_closed is_finished inbound_makes outbound_makes eager names peer role log
        → AreRested step fails is_closed is_finished inbound_makes outbound_makes eager names peer role
        (later ++ Asks number index ∷ log)
    pub at_rest : AreAtRest step fails is_closed is_finished inbound_makes outbound_makes eager names peer role
        (later ++ Asks number index ∷ log) fed sent session streams past
