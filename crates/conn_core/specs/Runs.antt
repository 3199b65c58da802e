-- A whole connection: each call with its answer, from the first on, and what an end has at its last.
-- Source: libp2p connections, "Establishing connections" and "Opening new streams over a connection"; what a connection
-- tells is this project's profile.
use Rattle.std.specs.Prelude.{◌≡◌, ◌≢◌, ℕ, ◌<◌, ◌≤◌, ◌⊎◌, Bool, true, false, ◌||◌, List, [], ◌∷◌, ◌++◌, length, reverse}
use Rattle.std.specs.Prelude.{Option, None, Result, Ok, Err}
use Rattle.std.specs.Global.{Vec}
use Rattle.std.specs.Ordering.{nat_cmp}
use Rattle.std.specs.List.{AllByRecursion}
use Rattle.std.specs.List.Sorted.{IsStrictlySortedBy}
use Rattle.std.specs.Map.{keys_of, lookup}
use Rattle.std.specs.BTreeMap as tree
use Rattle.handlers.specs.Calls.{HandlerCall, Asked}
use Rattle.peer_ids.specs.Key.{Key}
use Rattle.upgrade.specs.declared.role.ConnRole.{ConnRole}
use Rattle.upgrade.specs.Upgrades.{Upgrades, Grows}
use Rattle.yamux_session.specs.Acts.{start_refusal}
use Rattle.yamux_session.specs.State.{State}
use Rattle.streams.specs.State.{Streaming}
use Rattle.conn_log.specs.declared.earlier.Earlier.{Earlier}
use Rattle.conn_log.specs.declared.event.ConnEvent.{ConnEvent}
use Rattle.conn_log.specs.declared.event.ConnEvent.TheVariants as event
use Rattle.conn_log.specs.declared.event.ConnRefused.{ConnRefused}
use Rattle.conn_log.specs.declared.event.ConnRefused.TheVariants as refusals
use Rattle.conn_log.specs.Entries.{Entry, items}
use Rattle.conn_log.specs.Asked.{IsRefusedAs, IsBrokenOf}
use Rattle.board.specs.Handlers.{handlers_of, handlers_past}
use Rattle.conn_core.specs.declared.connection.ConnCore.{ConnCore}
use Rattle.conn_core.specs.declared.calls.ConnAct.{ConnAct}
use Rattle.conn_core.specs.declared.calls.ConnAct.TheVariants.{Feed, Ask, Ended}
use Rattle.conn_core.specs.declared.calls.ConnAnswer.{ConnAnswer}
use Rattle.conn_core.specs.declared.calls.ConnAnswer.TheVariants.{Events, Stream, Refused}
use Rattle.held_order.specs.Orders.{newest_held, arranged}
use Rattle.conn_core.specs.Wanting.{Wrote}
use Rattle.conn_core.specs.Connects.{IsUp, Ends, Stands, IsGrown, IsOpened, session_role, is_spent, waiting_in}
use Rattle.conn_core.specs.Connects.{TellsFirst}

-- Where an end is. At: this came, whether the input has ended, by this list of what came, was asked for, done and told,
-- these events were told, and these are owed: they are told by the next call. Spent: memory was refused, and this was
-- written until then.
pub data Point (H : Type 0) : Type 0 where
  At : List ℕ → Bool → List (Entry H) → List (ConnEvent H) → List (ConnEvent H) → Point H
  Spent : List ℕ → Point H

-- a connection tells nothing behind it
abbrev pub is_end : {H : Type 0} → ConnEvent H → Bool
is_end (event.Fault fault) = true
is_end event.Shut = true
is_end (event.Upgraded key) = false
is_end (event.Agreed n index) = false
is_end (event.Refused n) = false
is_end (event.Done n handler) = false
is_end (event.Broken n cause) = false

-- a Fault or Shut was told: the connection is over
abbrev pub has_ended : {H : Type 0} → List (ConnEvent H) → Bool
has_ended [] = false
has_ended (e ∷ told) = is_end e || has_ended told

-- the answer of a call that tells events
abbrev pub events_or : {H : Type 0} → Result (Vec (ConnEvent H)) ConnRefused → ConnAnswer H
events_or (Ok told) = Events told
events_or (Err why) = Refused why

-- the answer of a call that opens a stream
abbrev pub stream_or : {H : Type 0} → Result ℕ ConnRefused → ConnAnswer H
stream_or (Ok n) = Stream n
stream_or (Err why) = Refused why

-- memory was refused
abbrev pub IsSpent : {H : Type 0} → Point H → Type 0
IsSpent next = (written : List ℕ) × (next ≡ Spent written)

-- a feed, or the end of the input, is refused where the connection is over, and where memory is
abbrev pub IsTurnedAway : {H : Type 0} → List (ConnEvent H) → ConnRefused → Point H → Point H → Type 0
IsTurnedAway told why here next =
    ((has_ended told ≡ true) × (why ≡ refusals.Failed) × (next ≡ here))
    ⊎ ((has_ended told ≡ false) × (why ≡ refusals.OutOfMemory) × IsSpent next)

-- behind a refusal all is as before, but where memory was refused
abbrev pub StaysBehind : {H : Type 0} → ConnRefused → Point H → Point H → Type 0
StaysBehind why here next = ((why ≢ refusals.OutOfMemory) × (next ≡ here))
    ⊎ ((why ≡ refusals.OutOfMemory) × IsSpent next)

-- The handlers of the streams that are held, each with its stream's number: those of earlier openings in the order in
-- which their numbers were opened anew, then the others by their numbers.
pub record AreHeld {H : Type 0} (streams : ℕ → Option (Streaming H)) (past : List (Earlier H))
    (handlers : List (ℕ × H)) : Type 0 where
  pub table : List (ℕ × Streaming H)
  pub ascend : IsStrictlySortedBy nat_cmp (keys_of table)
  pub found : (n : ℕ) → streams n ≡ lookup (tree.is_at (nat_cmp n)) table
  pub handlers_are : handlers ≡ handlers_past past ++ handlers_of table

module _ {P H : Type 0} (step : H → HandlerCall → H → Type 0) (fails : H → Asked → ℕ → Type 0)
    (is_closed is_finished : H → Bool) (inbound_makes outbound_makes : P → ℕ → List ℕ → H → Type 0)
    (listed : P → List (List ℕ)) (is_eager : P → ℕ → Bool)
    (inbound_leads outbound_leads : P → ℕ → List ℕ → H → P → Type 0) (start : P) (role : ConnRole) (own : Key) where
  -- ---- why an end is where it is

  -- what came, by which list, what was told and is owed, and what was written until then: of an end that comes up, is
  -- up, or is over
  pub data Explains (input : List ℕ) (ended : Bool) (log : List (Entry H)) (told owed : List (ConnEvent H))
      (written : List ℕ) : Type 0 where
    Coming : ended ≡ false → log ≡ [] → told ≡ [] → owed ≡ [] → Upgrades role own input (Ok None) written
        → Explains input ended log told owed written
    Up : (session : State) (streams : ℕ → Option (Streaming H)) (past : List (Earlier H)) → ended ≡ false
        → IsUp step fails is_closed is_finished inbound_makes outbound_makes listed is_eager inbound_leads
        outbound_leads start role own input log (told ++ owed) written session streams past → Explains input ended
        log told owed written
    Over : owed ≡ [] → Ends step fails is_closed is_finished inbound_makes outbound_makes listed is_eager inbound_leads
        outbound_leads start role own input ended log told written → Explains input ended log told owed written

  abbrev pub IsExplained : Point H → Type 0
  IsExplained (At input ended log told owed) = (written : List ℕ) × Explains input ended log told owed written
  IsExplained (Spent written) = Unit {0}

  -- Where memory is refused to a call, what had been written until then is kept. Behind it stands what a feed has
  -- written before it met that, and nothing else.
  abbrev pub IsKept : List ℕ → Bool → List (Entry H) → List (ConnEvent H) → List (ConnEvent H) → ConnAct → List ℕ
      → Type 0
  IsKept input ended log told owed (Feed bytes) written =
      (before : List ℕ) × Explains input ended log told owed before × Grows before written
      × Wrote step fails is_closed is_finished inbound_makes outbound_makes listed is_eager inbound_leads outbound_leads
      start role own input bytes.items log told written
  IsKept input ended log told owed (Ask index) written = Explains input ended log told owed written
  IsKept input ended log told owed Ended written = Explains input ended log told owed written

  abbrev pub KeepsWritten : List ℕ → Bool → List (Entry H) → List (ConnEvent H) → List (ConnEvent H) → ConnAct → Point H
      → Type 0
  KeepsWritten input ended log told owed call (Spent written) = IsKept input ended log told owed call written
  KeepsWritten input ended log told owed call (At now over opened said owes) = Unit {0}

  -- a stream may be opened for the protocol of this index
  abbrev pub MayBeAsked : (input : List ℕ) (ended : Bool) (log : List (Entry H)) (told owed : List (ConnEvent H))
      (written : List ℕ) → Explains input ended log told owed written → ℕ → Type 0
  MayBeAsked input ended log told owed written (Coming unended none_listed none_told none_owed upgrades) index = ⊥
  MayBeAsked input ended log told owed written (Up session streams past unended up) index =
      (index < length (listed start))
      × (start_refusal (session_role role) (items log) ≡ None)
  MayBeAsked input ended log told owed written (Over none_owed ends) index = ⊥

  -- why none is opened: where several reasons hold, the lowest is answered
  abbrev pub IsNotOpened : (input : List ℕ) (ended : Bool) (log : List (Entry H)) (told owed : List (ConnEvent H))
      (written : List ℕ) → Explains input ended log told owed written → ℕ → ConnRefused → Type 0
  IsNotOpened input ended log told owed written (Coming unended none_listed none_told none_owed upgrades) index why =
      why ≡ refusals.NotUp
  IsNotOpened input ended log told owed written (Up session streams past unended up) index why =
      ((length (listed start) ≤ index) × (why ≡ refusals.BadIndex))
      ⊎ ((index < length (listed start)) × IsRefusedAs (start_refusal (session_role role) (items log)) why)
  IsNotOpened input ended log told owed written (Over none_owed ends) index why = why ≡ refusals.Failed

  -- ---- each call

  -- The call has this answer there, and leads on to the next point; what is owed is told first. The list grows by what
  -- the call led to: no call changes what stood in it before, and only an answered ask opens a stream, that one, and
  -- that first.
  abbrev pub AnswersAt : List ℕ → Bool → List (Entry H) → List (ConnEvent H) → List (ConnEvent H) → ConnAct
      → ConnAnswer H → Point H → Type 0
  AnswersAt input ended log told owed (Feed bytes) (Events more) next =
      (has_ended told ≡ false) × ((now : List (Entry H)) × IsGrown [] log now
      × (next ≡ At (input ++ bytes.items) false now (told ++ more.items) [])) × TellsFirst owed more.items
  AnswersAt input ended log told owed (Feed bytes) (Refused why) next =
      IsTurnedAway told why (At input ended log told owed) next
  -- of a stream that was just opened nothing is owed but that its eager handler gave up
  AnswersAt input ended log told owed (Ask index) (Stream n) next =
      ((written : List ℕ) × (there : Explains input ended log told owed written)
      × MayBeAsked input ended log told owed written there index)
      × ((more : List (ConnEvent H)) × AllByRecursion (IsBrokenOf n) more
      × (now : List (Entry H)) × IsOpened n index log now × (next ≡ At input false now told (owed ++ more)))
  AnswersAt input ended log told owed (Ask index) (Refused why) next =
      ((written : List ℕ) × (there : Explains input ended log told owed written)
      × IsNotOpened input ended log told owed written there index why)
      × StaysBehind why (At input ended log told owed) next
  AnswersAt input ended log told owed Ended (Events more) next =
      (has_ended told ≡ false) × (next ≡ At input true log (told ++ more.items) []) × TellsFirst owed more.items
  AnswersAt input ended log told owed Ended (Refused why) next =
      IsTurnedAway told why (At input ended log told owed) next
  AnswersAt input ended log told owed call answer next = ⊥

  -- wherever a call leads to is explained, and what was written is not lost
  abbrev pub Answers : Point H → ConnAct → ConnAnswer H → Point H → Type 0
  Answers (At input ended log told owed) call answer next =
      AnswersAt input ended log told owed call answer next × IsExplained next
      × KeepsWritten input ended log told owed call next
  Answers (Spent written) call answer next = (answer ≡ Refused refusals.Failed) × (next ≡ Spent written)

  -- one call after another
  abbrev pub AnswersAll : Point H → List ConnAct → List (ConnAnswer H) → Point H → Type 0
  AnswersAll point [] [] last = last ≡ point
  AnswersAll point (call ∷ calls) (answer ∷ answers) last =
      (next : Point H) × Answers point call answer next × AnswersAll next calls answers last
  AnswersAll point calls answers last = ⊥

  -- all that was written until there is this
  abbrev pub HasWritten : Point H → List ℕ → Type 0
  HasWritten (At input ended log told owed) written = Explains input ended log told owed written
  HasWritten (Spent before) written = written ≡ before

  -- ---- a whole run

  -- the handlers that are held there, in the order in which they were made
  abbrev pub Holds : (input : List ℕ) (ended : Bool) (log : List (Entry H)) (told owed : List (ConnEvent H))
      (written : List ℕ) → Explains input ended log told owed written → List (ℕ × H) → Type 0
  Holds input ended log told owed written (Coming unended none_listed none_told none_owed upgrades) handlers =
      handlers ≡ []
  Holds input ended log told owed written (Up session streams past unended up) handlers =
      (held : List (ℕ × H)) × AreHeld streams past held
      × (handlers ≡ arranged (reverse (newest_held (session_role role) log)) held)
  Holds input ended log told owed written (Over none_owed ends) handlers = handlers ≡ []

  -- all that was written until the last call is this, and these handlers are held still
  abbrev pub Leaves : Point H → List ℕ → List (ℕ × H) → Type 0
  Leaves (At input ended log told owed) output handlers = (there : Explains input ended log told owed output)
      × Holds input ended log told owed output there handlers
  Leaves (Spent written) output handlers = (output ≡ written) × (handlers ≡ [])

  -- what a run answers, and what it leaves
  abbrev pub Runs : List ConnAct → List (ConnAnswer H) → List ℕ → List (ℕ × H) → Type 0
  Runs calls answers output handlers = (last : Point H) × AnswersAll (At [] false [] [] []) calls answers last
      × Leaves last output handlers

  -- the end is at this point, and this of its output was taken
  abbrev pub IsAt : List ℕ → Point H → ConnCore P H → Type 0
  IsAt taken (At input ended log told owed) core = (core.owed.items ≡ owed)
      × Stands step fails is_closed is_finished inbound_makes outbound_makes listed is_eager inbound_leads
      outbound_leads start role own input ended log told taken core
  IsAt taken (Spent written) core = (is_spent core.phase ≡ true)
      × (taken ++ waiting_in core.phase core.output.items ≡ written)
