-- Where a connection over a link stands: the core was fed what the link gave, the link took what the core wrote, and
-- the events of the core were given.
-- Source: this project's profile of a connection.
use Rattle.std.specs.Prelude.{◌≡◌, ◌⊎◌, ℕ, Bool, true, false, List, [], ◌∷◌, ◌++◌, Option, Some, None}
use Rattle.futures.specs.declared.task.Poll.{Poll}
use Rattle.futures.specs.declared.task.Poll.TheVariants.{Ready, Pending}
use Rattle.conn_link.specs.declared.link.Link.{Ghosts as LinkGhosts}
use Rattle.handlers.specs.declared.handler.Handler.{Ghosts as HandlerGhosts}
use Rattle.handlers.specs.declared.protocols.Protocols.{Ghosts as ProtocolsGhosts}
use Rattle.peer_ids.specs.Key.{Key}
use Rattle.upgrade.specs.declared.role.ConnRole.{ConnRole}
use Rattle.conn_log.specs.declared.event.ConnEvent.{ConnEvent}
use Rattle.conn_log.specs.declared.event.ConnEvent.TheVariants as event
use Rattle.conn_log.specs.declared.event.ConnFault.TheVariants as fault
use Rattle.conn_log.specs.Entries.{Entry}
use Rattle.mux.specs.declared.mux.Mux.{Mux}
use Rattle.conn_core.specs.declared.connection.ConnCore.{ConnCore}
use Rattle.conn_core.specs.declared.connection.Phase.TheVariants as phases
use Rattle.conn_core.specs.Connects.{Stands, IsGrown, is_over, is_spent, waiting_in}
use Rattle.conn_core.specs.Promises.{IsSplit}
use Rattle.conn_core.specs.Runs.{is_end}
use Rattle.conn_future.specs.declared.stage.Stage.{Stage}
use Rattle.conn_future.specs.declared.stage.Stage.TheVariants.{Going, Shutting, Starved, Over}
use Rattle.conn_future.specs.declared.conn.Conn.{Conn}
use Rattle.conn_future.specs.Stages.{is_live}

-- the event that a poll gave
abbrev pub given_by : {H : Type 0} → Poll (Option (ConnEvent H)) → List (ConnEvent H)
given_by (Ready (Some e)) = e ∷ []
given_by (Ready None) = []
given_by Pending = []

module _ {L P H : Type 0} (link : LinkGhosts L) (protocols : ProtocolsGhosts P H) (handler : HandlerGhosts H)
    (start : P) (role : ConnRole) (own : Key) where
  -- The core was fed this input, stands by this list of what came, was asked for, done and told, told these events, and
  -- this of its output was taken.
  abbrev pub CoreStands : (input : List ℕ) (ended : Bool) → List (Entry H) → List (ConnEvent H) → List ℕ → ConnCore P H
      → Type 0
  CoreStands = Stands handler.steps handler.fails handler.is_closed handler.is_finished protocols.makes_inbound
      protocols.makes_outbound protocols.listed protocols.is_eager protocols.leads_inbound protocols.leads_outbound
      start role own

  -- Since the first state of the link the core was fed exactly what the link gave, also the end exactly where a read
  -- has found it, and told the events that were given and then those that are held. Of what was taken from it the link
  -- took a first part, and the rest is left.
  pub record Joins (first : L) (log : List (Entry H)) (gave : List (ConnEvent H)) (ended : Bool) (now : L)
      (core : ConnCore P H) (left : List ℕ) (held : List (ConnEvent H)) : Type 0 where
    pub given : List ℕ
    pub took : List ℕ
    pub moved : link.moves first given took now
    pub reached : ended ≡ true → link.has_ended now
    pub found : link.has_ended now → (ended ≡ true) ⊎ link.has_ended first
    pub stands : CoreStands given ended log (gave ++ held) (took ++ left) core

  -- It goes on: the core isn't over, its input hasn't ended, and nothing waits in it.
  pub record GoesOn (first : L) (log : List (Entry H)) (gave : List (ConnEvent H)) (now : L) (core : ConnCore P H)
      (left : List ℕ) (held : List (ConnEvent H)) : Type 0 where
    pub joins : Joins first log gave false now core left held
    pub goes_on : is_over core.phase ≡ false
    pub none_waits : waiting_in core.phase core.output.items ≡ []

  -- Memory was refused to it. Some core that goes on was fed all that the link gave, but for what was lost, and told
  -- the events that were given or are held; the link took a first part of what it wrote. Unless memory was refused to
  -- its own core too, that one was fed just this and told just these, so no event is missing, and no end was found
  -- since; but an ask that was refused may have opened a stream there, and it may have written more.
  pub record Parts (first : L) (log : List (Entry H)) (gave : List (ConnEvent H)) (now : L) (last : ConnCore P H)
      (held : List (ConnEvent H)) : Type 0 where
    pub given : List ℕ
    pub lost : List ℕ
    pub took : List ℕ
    pub left : List ℕ
    pub ended : Bool
    pub core : ConnCore P H
    pub moved : link.moves first (given ++ lost) took now
    pub stands : CoreStands given ended log (gave ++ held) (took ++ left) core
    pub goes_on : is_over core.phase ≡ false
    pub newer : List (Entry H)
    pub more : List ℕ
    pub kept : is_spent last.phase ≡ false
        → CoreStands given ended (newer ++ log) (gave ++ held) (took ++ (left ++ more)) last
    pub unended : is_spent last.phase ≡ false → link.has_ended now → link.has_ended first

  -- why it makes no link call more
  pub data Ends (first : L) (log : List (Entry H)) (gave : List (ConnEvent H)) (now : L) (core : ConnCore P H)
      (held : List (ConnEvent H)) : Type 0 where
    -- the core told a Fault or Shut
    Told : (ended : Bool) (left : List ℕ) → is_over core.phase ≡ true
        → Joins first log gave ended now core left held → Ends first log gave now core held
    -- a link call failed, and it told so
    Failed : (before : List (ConnEvent H)) (left : List ℕ) → held ≡ []
        → gave ≡ before ++ event.Fault fault.Link ∷ [] → Joins first log before false now core left []
        → Ends first log gave now core held
    -- memory was refused, and it told so
    Refused : (before : List (ConnEvent H)) → held ≡ [] → gave ≡ before ++ event.Fault fault.OutOfMemory ∷ []
        → Parts first log before now core [] → Ends first log gave now core held
    -- the link took all of the output and is shut, and it told so
    Shut : (before : List (ConnEvent H)) → held ≡ [] → gave ≡ before ++ event.Shut ∷ [] → link.is_shut now
        → Joins first log before false now core [] [] → Ends first log gave now core held

  -- where its parts stand, at each stage
  abbrev pub Stays : (first : L) → List (Entry H) → (gave : List (ConnEvent H)) → L → ConnCore P H → (left : List ℕ)
      → (held : List (ConnEvent H)) → Stage → Type 0
  Stays first log gave now core left held Going = GoesOn first log gave now core left held
  Stays first log gave now core left held Shutting = GoesOn first log gave now core left held
  Stays first log gave now core left held Starved = Parts first log gave now core held
  Stays first log gave now core left held Over = Ends first log gave now core held

  -- A connection over a link, since the link was in this first state, whose core stands by this list, and that has
  -- given these events.
  abbrev pub Follows : (first : L) → List (Entry H) → (gave : List (ConnEvent H))
      → Conn L P H link protocols handler → Type 0
  Follows first log gave conn =
      Stays first log gave conn.link conn.core conn.unsent.items conn.held.items conn.stage

-- Wherever the first one stood, the second one stands with these events given behind the others, by a list that has
-- grown from the first one's: no stream was opened, and nothing in it was changed.
abbrev pub Carries : {L P H : Type 0} (link : LinkGhosts L) (protocols : ProtocolsGhosts P H)
    (handler : HandlerGhosts H) → Conn L P H link protocols handler → List (ConnEvent H)
    → Conn L P H link protocols handler → Type 0
Carries {L} {P} {H} link protocols handler old events new =
    (start : P) (role : ConnRole) (own : Key) (first : L) (log : List (Entry H)) (gave : List (ConnEvent H))
    → Follows link protocols handler start role own first log gave old → (now : List (Entry H)) × IsGrown [] log now
    × Follows link protocols handler start role own first now (gave ++ events) new

-- And by the same list: its core was fed nothing, and told of no end.
abbrev pub Gives : {L P H : Type 0} (link : LinkGhosts L) (protocols : ProtocolsGhosts P H)
    (handler : HandlerGhosts H) → Conn L P H link protocols handler → List (ConnEvent H)
    → Conn L P H link protocols handler → Type 0
Gives {L} {P} {H} link protocols handler old events new =
    (start : P) (role : ConnRole) (own : Key) (first : L) (log : List (Entry H)) (gave : List (ConnEvent H))
    → Follows link protocols handler start role own first log gave old
    → Follows link protocols handler start role own first log (gave ++ events) new

-- Behind a Fault or Shut it is over, and no event is held: it gives none more, and makes no link call.
abbrev pub EndsBehind : {L P H : Type 0} (link : LinkGhosts L) (protocols : ProtocolsGhosts P H)
    (handler : HandlerGhosts H) → Type 0
EndsBehind {L} {P} {H} link protocols handler =
    (start : P) (role : ConnRole) (own : Key) (first : L) (log : List (Entry H)) (gave : List (ConnEvent H))
    (last : ConnEvent H) (conn : Conn L P H link protocols handler)
    → Follows link protocols handler start role own first log (gave ++ last ∷ []) conn → is_end last ≡ true
    → (conn.stage ≡ Over) × (conn.held.items ≡ [])

-- What is carried on in turn is carried on together.
abbrev pub CarriesInTurn : {L P H : Type 0} (link : LinkGhosts L) (protocols : ProtocolsGhosts P H)
    (handler : HandlerGhosts H) → Type 0
CarriesInTurn {L} {P} {H} link protocols handler =
    (first mid last : Conn L P H link protocols handler) (events more : List (ConnEvent H))
    → Carries link protocols handler first events mid → Carries link protocols handler mid more last
    → Carries link protocols handler first (events ++ more) last

-- A connection that is up, and makes calls of its link. Of what the link gave the first part is the upgrade's, and the
-- frames of the rest are what the session's list says. What was given, is held and is owed is that it is up, and then
-- what the list says. What the link took and what is left is what the upgrade wrote, and then the session's output.
abbrev pub UpOverLink : {L P H : Type 0} (link : LinkGhosts L) (protocols : ProtocolsGhosts P H)
    (handler : HandlerGhosts H) → Type 0
UpOverLink {L} {P} {H} link protocols handler =
    (start : P) (role : ConnRole) (own : Key) (first : L) (log : List (Entry H)) (gave : List (ConnEvent H))
    (conn : Conn L P H link protocols handler) (mux : Mux P H)
    → Follows link protocols handler start role own first log gave conn → is_live conn.stage ≡ true
    → conn.core.phase ≡ phases.Up mux
    → (given : List ℕ) × (took : List ℕ) × link.moves first given took conn.link
    × IsSplit handler.steps handler.fails handler.is_closed handler.is_finished protocols.makes_inbound
    protocols.makes_outbound protocols.listed protocols.is_eager protocols.leads_inbound protocols.leads_outbound
    start role own given ((gave ++ conn.held.items) ++ conn.core.owed.items) (took ++ conn.unsent.items) log
