-- What holds of an end wherever it is: what its handlers were handed and asked for, which streams are held, what was
-- told and written; and what a whole run has fed, told and asked for.
-- Source: libp2p connections, "Opening new streams over a connection"; multistream-select 1.0, "Protocol Negotiation";
-- hashicorp yamux, "Framing" and "Flow Control"; what a connection tells is this project's profile.
use Rattle.std.specs.Prelude.{◌≡◌, ◌↔◌, ◌⊎◌, ℕ, ◌<◌, Bool, true, false, List, [], ◌∷◌, ◌++◌, length, Option, Some, Ok}
use Rattle.std.specs.List.{Contains}
use Rattle.handlers.specs.Calls.{HandlerCall, Asked}
use Rattle.peer_ids.specs.Key.{Key}
use Rattle.talks.specs.State.{Talking as Talk}
use Rattle.talks.specs.Talks.{Side, Agrees, IsOpen}
use Rattle.upgrade.specs.declared.role.ConnRole.{ConnRole}
use Rattle.upgrade.specs.Upgrades.{Upgrades}
use Rattle.yamux_frames.specs.Frames.{Reads}
use Rattle.yamux_session.specs.declared.event.Role.{Role}
use Rattle.yamux_session.specs.History.{arrivals, is_own}
use Rattle.yamux_session.specs.Openings.{is_live, closed, finished}
use Rattle.yamux_session.specs.Windows.{credit}
use Rattle.yamux_session.specs.Data.{inbound, written}
use Rattle.yamux_session.specs.Faults.{HasNoFault}
use Rattle.yamux_session.specs.Acts.{AreAnswered}
use Rattle.yamux_session.specs.Output.{output}
use Rattle.yamux_session.specs.State.{State}
use Rattle.streams.specs.declared.stage.Stage.TheVariants.{Talking, Serving}
use Rattle.streams.specs.Handled.{Handled}
use Rattle.streams.specs.State.{Streaming, handler_of, was_handed_out}
use Rattle.conn_log.specs.declared.earlier.Earlier.{Earlier}
use Rattle.conn_log.specs.declared.event.ConnEvent.{ConnEvent}
use Rattle.conn_log.specs.declared.event.ConnEvent.TheVariants as event
use Rattle.conn_log.specs.Entries.{Entry, items, said, asks, agreed, is_over, was_done, made_of, calls_of}
use Rattle.conn_log.specs.Held.{IsSide}
use Rattle.conn_core.specs.declared.calls.ConnAct.{ConnAct}
use Rattle.conn_core.specs.declared.calls.ConnAct.TheVariants.{Feed, Ask}
use Rattle.conn_core.specs.declared.calls.ConnAnswer.{ConnAnswer}
use Rattle.conn_core.specs.declared.calls.ConnAnswer.TheVariants.{Events, Stream, Refused}
use Rattle.conn_core.specs.Connects.{IsUp, IsGrown, session_role}
use Rattle.conn_core.specs.Runs.{Point, AnswersAll, AreHeld}
use Rattle.conn_core.specs.Runs.Point.{At}

-- ---- what a handler was handed, and asked for last

module _ {H : Type 0} (step : H → HandlerCall → H → Type 0) (is_closed is_finished : H → Bool)
    (names : List (List ℕ)) (role : Role) where
  -- Of the data of its stream the first part is the talk's, by which both ends agree on the protocol of this index,
  -- and Agreed was told with it. By the calls of the list the handler was handed exactly what follows, and the end
  -- where the other end has ended its direction. What was sent is what the talk wrote and behind it what the handler
  -- gave, but for what waits.
  pub record IsServing (log : List (Entry H)) (n : ℕ) (stream : Streaming H) (handler : H) : Type 0 where
    pub side : Side
    pub index : ℕ
    pub first : List ℕ
    pub rest : List ℕ
    pub output : List ℕ
    pub gave : List ℕ
    pub made : H
    pub left : Option ℕ
    pub side_is : IsSide role names log n side
    pub data_is : inbound role (items log) n ≡ first ++ rest
    pub agrees : Agrees side first index output
    pub agreed_is : agreed role log n ≡ Some index
    pub made_is : made_of role log n ≡ Some made
    pub handled : Handled step made (calls_of role log n) rest (finished role (items log) n) gave left handler
    pub sent_is : written role (items log) n ++ stream.waiting ≡ output ++ gave
    pub unfinished : is_finished handler ≡ false
    -- while the stream is live, and this direction open: a handler that isn't closed was asked for bytes last, and left
    -- no credit unasked; and nothing waits where credit is left
    pub asked_last : is_live role (items log) n ≡ true → closed role (items log) n ≡ false → is_closed handler ≡ false
        → left ≡ Some (credit role (items log) n)
    pub all_sent : is_live role (items log) n ≡ true → closed role (items log) n ≡ false
        → 0 < credit role (items log) n → stream.waiting ≡ []

  -- The handler of an eager protocol, before the other end has answered: this end opened the stream, nothing is decided
  -- by the data so far, and the handler was handed nothing.
  pub record IsEarly (log : List (Entry H)) (n : ℕ) (stream : Streaming H) (handler : H) : Type 0 where
    pub side : Side
    pub output : List ℕ
    pub gave : List ℕ
    pub made : H
    pub left : Option ℕ
    pub opened : is_own role n ≡ true
    pub side_is : IsSide role names log n side
    pub undecided : IsOpen side (inbound role (items log) n) output
    pub made_is : made_of role log n ≡ Some made
    pub handled : Handled step made (calls_of role log n) [] false gave left handler
    pub sent_is : written role (items log) n ++ stream.waiting ≡ output ++ gave
    pub asked_last : is_live role (items log) n ≡ true → closed role (items log) n ≡ false → is_closed handler ≡ false
        → left ≡ Some (credit role (items log) n)
    pub all_sent : is_live role (items log) n ≡ true → closed role (items log) n ≡ false
        → 0 < credit role (items log) n → stream.waiting ≡ []

-- ---- which handlers are handed back

-- the stream of this number holds this handler
abbrev pub HoldsAt : {H : Type 0} → (ℕ → Option (Streaming H)) → ℕ → H → Type 0
HoldsAt streams n handler =
    (stream : Streaming _) × (streams n ≡ Some stream) × (handler_of stream.stage ≡ Some handler)

-- one of an earlier opening of this number does
abbrev pub HeldEarlier : {H : Type 0} → List (Earlier H) → ℕ → H → Type 0
HeldEarlier past n handler =
    (it : Earlier _) × Contains past it × (it.number ≡ n) × (handler_of it.stream.stage ≡ Some handler)

-- a handler is listed with its stream's number exactly where it is held
abbrev pub ListedAreHeld : Type 0 → Type 0
ListedAreHeld H = (streams : ℕ → Option (Streaming H)) (past : List (Earlier H)) (handlers : List (ℕ × H))
    → AreHeld streams past handlers → (n : ℕ) (handler : H)
    → Contains handlers (n, handler) ↔ (HeldEarlier past n handler ⊎ HoldsAt streams n handler)

-- ---- what a run was fed, and has told

-- the bytes of the feeds that were answered, joined
abbrev pub fed_by : {H : Type 0} → List ConnAct → List (ConnAnswer H) → List ℕ
fed_by (Feed bytes ∷ calls) (Events told ∷ answers) = bytes.items ++ fed_by calls answers
fed_by (call ∷ calls) (answer ∷ answers) = fed_by calls answers
fed_by calls answers = []

-- the events of all answers, joined
abbrev pub told_by : {H : Type 0} → List (ConnAnswer H) → List (ConnEvent H)
told_by [] = []
told_by (Events told ∷ answers) = told.items ++ told_by answers
told_by (Stream n ∷ answers) = told_by answers
told_by (Refused why ∷ answers) = told_by answers

-- the streams that were opened, each with the index that was asked for
abbrev pub opened_by : {H : Type 0} → List ConnAct → List (ConnAnswer H) → List (ℕ × ℕ)
opened_by (Ask index ∷ calls) (Stream n ∷ answers) = (n, index) ∷ opened_by calls answers
opened_by (call ∷ calls) (answer ∷ answers) = opened_by calls answers
opened_by calls answers = []

module _ {P H : Type 0} (step : H → HandlerCall → H → Type 0) (fails : H → Asked → ℕ → Type 0)
    (is_closed is_finished : H → Bool) (inbound_makes outbound_makes : P → ℕ → List ℕ → H → Type 0)
    (listed : P → List (List ℕ)) (is_eager : P → ℕ → Bool)
    (inbound_leads outbound_leads : P → ℕ → List ℕ → H → P → Type 0) (start : P) (role : ConnRole) (own : Key) where
  -- of an end that is up, with these streams
  abbrev pub WhileUp : ((session : State) (streams : ℕ → Option (Streaming H)) (past : List (Earlier H))
      (input : List ℕ) (log : List (Entry H)) (told : List (ConnEvent H)) (written : List ℕ)
      → IsUp step fails is_closed is_finished inbound_makes outbound_makes listed is_eager inbound_leads outbound_leads
      start role own input log told written session streams past → Type 0) → Type 0
  WhileUp fact = (session : State) (streams : ℕ → Option (Streaming H)) (past : List (Earlier H)) (input : List ℕ)
      (log : List (Entry H)) (told : List (ConnEvent H)) (written : List ℕ)
      (up : IsUp step fails is_closed is_finished inbound_makes outbound_makes listed is_eager inbound_leads
      outbound_leads start role own input log told written session streams past)
      → fact session streams past input log told written up

  -- each handler that serves its stream
  abbrev pub AreServing : Type 0
  AreServing = WhileUp (λ session streams past input log told written up. (n : ℕ) (stream : Streaming H)
      (handler : H) → streams n ≡ Some stream → stream.stage ≡ Serving handler
      → IsServing step is_closed is_finished (listed start) (session_role role) log n stream handler)

  -- each handler of an eager protocol, before the talk agrees
  abbrev pub AreEarly : Type 0
  AreEarly = WhileUp (λ session streams past input log told written up. (n : ℕ) (stream : Streaming H)
      (handler : H) (talk : Talk) → streams n ≡ Some stream → stream.stage ≡ Talking talk (Some handler)
      → IsEarly step is_closed is_finished (listed start) (session_role role) log n stream handler)

  -- Each live stream is held; none was refused or given up, and Done was told of it exactly where its handler was
  -- handed out.
  abbrev pub LiveAreHeld : Type 0
  LiveAreHeld = WhileUp (λ session streams past input log told written up. (n : ℕ)
      → is_live (session_role role) (items log) n ≡ true → (stream : Streaming H)
      × (streams n ≡ Some stream) × (is_over (session_role role) log n ≡ was_handed_out stream.stage)
      × (was_done (session_role role) log n ≡ was_handed_out stream.stage))

  -- The first part of the input is the upgrade's, and the frames of the rest are what the session's list says. Told was
  -- that it is up, and behind it what the list says; written was what the upgrade wrote, and behind it the session's
  -- output.
  pub record IsSplit (input : List ℕ) (told : List (ConnEvent H)) (written : List ℕ) (log : List (Entry H)) : Type 0
    where
      pub key : Key
      pub first : List ℕ
      pub rest : List ℕ
      pub greeting : List ℕ
      pub input_is : input ≡ first ++ rest
      pub upgraded : Upgrades role own first (Ok (Some key)) greeting
      pub read : (part : List ℕ) × Reads rest (arrivals (items log)) part
      pub no_fault : HasNoFault (session_role role) (items log)
      pub answered : AreAnswered (session_role role) (items log)
      pub told_is : told ≡ event.Upgraded key ∷ said log
      pub written_is : written ≡ greeting ++ output (session_role role) (items log)

  abbrev pub UpIsSplit : Type 0
  UpIsSplit = WhileUp (λ session streams past input log told written up. IsSplit input told written log)

  -- each call has one answer
  abbrev pub EachIsAnswered : Type 0
  EachIsAnswered = (calls : List ConnAct) (answers : List (ConnAnswer H)) (first last : Point H)
      → AnswersAll step fails is_closed is_finished inbound_makes outbound_makes listed is_eager inbound_leads
      outbound_leads start role own first calls answers last → length answers ≡ length calls

  -- where memory was not refused, a run is behind all that it was fed, told and was asked for
  abbrev pub AllIsCounted : Type 0
  AllIsCounted = (calls : List ConnAct) (answers : List (ConnAnswer H)) (input : List ℕ) (ended : Bool)
      (log : List (Entry H)) (told owed : List (ConnEvent H))
      → AnswersAll step fails is_closed is_finished inbound_makes outbound_makes listed is_eager inbound_leads
      outbound_leads start role own (At [] false [] [] []) calls answers (At input ended log told owed)
      → (input ≡ fed_by calls answers) × (asks log ≡ opened_by calls answers) × (told ≡ told_by answers)

  -- what the list says at a point of a run it says at each later one, and behind that what came, was asked for, done
  -- and told since
  abbrev pub PastStays : Type 0
  PastStays = (calls : List ConnAct) (answers : List (ConnAnswer H)) (input input_then : List ℕ)
      (ended ended_then : Bool) (log log_then : List (Entry H)) (told told_then owed owed_then : List (ConnEvent H))
      → AnswersAll step fails is_closed is_finished inbound_makes outbound_makes listed is_eager inbound_leads
      outbound_leads start role own (At input ended log told owed) calls answers
      (At input_then ended_then log_then told_then owed_then) → IsGrown (opened_by calls answers) log log_then

  -- Of an end that is up, and was up by a first part of what came: the key, the upgrade's part of the input and what
  -- the upgrade wrote are what they were, and the frames in what the list has grown by are those of what came since.
  abbrev pub ComesInTurn : Type 0
  ComesInTurn = WhileUp (λ session streams past input log told written up. (more : List ℕ) (opened : List (ℕ × ℕ))
      (now : List (Entry H)) (grown : IsGrown opened log now) (session_then : State)
      (streams_then : ℕ → Option (Streaming H)) (past_then : List (Earlier H)) (told_then : List (ConnEvent H))
      (written_then : List ℕ) (then : IsUp step fails is_closed is_finished inbound_makes outbound_makes listed
      is_eager inbound_leads outbound_leads start role own (input ++ more) now told_then written_then session_then
      streams_then past_then) → (then.key ≡ up.key) × (then.first ≡ up.first) × (then.greeting ≡ up.greeting)
      × (part : List ℕ)
      × Reads (up.rest ++ more) (arrivals (items grown.newer) ++ arrivals (items log)) part)
