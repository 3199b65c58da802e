-- Where an end of a connection stands, after this input was fed to it, these events were told, and this was written, by
-- the list of all that came, was asked for, done and told, which each call makes longer and none changes.
-- Source: libp2p connections, "Establishing connections" and "Opening new streams over a connection"; plaintext 2.0.0;
-- hashicorp yamux; what a connection tells is this project's profile.
use Rattle.std.specs.Prelude.{◌≡◌, ℕ, Bool, true, false, List, [], ◌∷◌, ◌++◌, Option, Some, None}
use Rattle.std.specs.Prelude.{Ok, Err, length, reverse, ◌<◌, ◌≤◌, ◌⊎◌}
use Rattle.std.specs.Ordering.{nat_cmp}
use Rattle.std.specs.List.{AllByRecursion}
use Rattle.std.specs.BTreeMap as tree
use Rattle.handlers.specs.Calls.{HandlerCall, Asked}
use Rattle.peer_ids.specs.Key.{Key}
use Rattle.peer_ids.specs.PeerId.{id_of}
use Rattle.upgrade.specs.declared.role.ConnRole.{ConnRole}
use Rattle.upgrade.specs.declared.role.ConnRole.TheVariants.{Dialer, Listener}
use Rattle.upgrade.specs.declared.fault.UpgradeFault.{UpgradeFault}
use Rattle.upgrade.specs.declared.fault.UpgradeFault.TheVariants as upgrade
use Rattle.upgrade.specs.Upgrades.{Upgrades, ComesTo}
use Rattle.upgrade.specs.State.{Upgrading, Stands as UpgradeStands}
use Rattle.yamux_frames.specs.Frames.{EndsWithin}
use Rattle.yamux_session.specs.declared.event.Role.{Role}
use Rattle.yamux_session.specs.declared.event.Role.TheVariants.{Client, Server}
use Rattle.yamux_session.specs.Output.{output}
use Rattle.yamux_session.specs.Acts.{start_refusal}
use Rattle.yamux_session.specs.State.{State, Whenever}
use Rattle.streams.specs.State.{Streaming}
use Rattle.conn_log.specs.declared.earlier.Earlier.{Earlier}
use Rattle.conn_log.specs.declared.event.ConnEvent.{ConnEvent}
use Rattle.conn_log.specs.declared.event.ConnEvent.TheVariants as event
use Rattle.conn_log.specs.declared.event.ConnFault.{ConnFault}
use Rattle.conn_log.specs.declared.event.ConnFault.TheVariants as fault
use Rattle.conn_log.specs.Entries.{Entry, items, said, asks}
use Rattle.conn_log.specs.Entries.Entry.{Asks}
use Rattle.conn_log.specs.Asked.{AreMadeEarly, IsRefusedAs, IsBrokenOf}
use Rattle.conn_log.specs.declared.event.ConnRefused.{ConnRefused}
use Rattle.conn_log.specs.declared.event.ConnRefused.TheVariants as refusals
use Rattle.conn_log.specs.Making.{AreMadeInTurn, MakesOn}
use Rattle.conn_log.specs.Rests.{AreAtRest, AreRested}
use Rattle.held_order.specs.Orders.{newest_held, arranged}
use Rattle.board.specs.Handlers.{handlers_of, handlers_past}
use Rattle.mux.specs.declared.mux.Mux.{Mux}
use Rattle.mux.specs.Faults.{Faults}
use Rattle.conn_core.specs.declared.connection.Phase.{Phase}
use Rattle.conn_core.specs.declared.connection.Phase.TheVariants as phases
use Rattle.conn_core.specs.declared.connection.ConnCore.{ConnCore}

-- The list has grown to this one, and in what is new this end opened just these streams, each with the index of the
-- protocol that was asked for: what stood in it before stands there still, behind what is new.
pub record IsGrown {H : Type 0} (opened : List (ℕ × ℕ)) (log now : List (Entry H)) : Type 0 where
  pub newer : List (Entry H)
  pub now_is : now ≡ newer ++ log
  pub opened_are : asks newer ≡ opened

-- The list has grown by the opening of this stream of this end, for the protocol of this index, next to what stood in
-- it before, and by what followed, in which it opened no other.
pub record IsOpened {H : Type 0} (number index : ℕ) (log now : List (Entry H)) : Type 0 where
  pub later : List (Entry H)
  pub now_is : now ≡ later ++ Asks number index ∷ log
  pub alone : asks later ≡ []

-- the dialer is the client of the session
abbrev pub session_role : ConnRole → Role
session_role Dialer = Client
session_role Listener = Server

-- what is told of a fault of the upgrade that isn't want of memory
abbrev pub told_of : UpgradeFault → Option ConnFault
told_of (upgrade.Select why) = Some fault.Select
told_of upgrade.NoneLeft = Some fault.NoneLeft
told_of (upgrade.Exchange why) = Some fault.Exchange
told_of upgrade.Failed = None
told_of upgrade.OutOfMemory = None

module _ {P H : Type 0} (step : H → HandlerCall → H → Type 0) (fails : H → Asked → ℕ → Type 0)
    (is_closed is_finished : H → Bool) (inbound_makes outbound_makes : P → ℕ → List ℕ → H → Type 0)
    (listed : P → List (List ℕ)) (is_eager : P → ℕ → Bool)
    (inbound_leads outbound_leads : P → ℕ → List ℕ → H → P → Type 0) (start : P) (role : ConnRole) (own : Key) where
  -- It comes up: the upgrade has heard all of the input, and nothing was told.
  pub record IsComing (input : List ℕ) (told : List (ConnEvent H)) (taken : List ℕ) (x : Upgrading) (protocols : P)
      : Type 0 where
    pub role_is : x.role ≡ role
    pub own_is : x.own ≡ own
    pub protocols_are : protocols ≡ start
    pub stands : UpgradeStands x input taken
    pub none_told : told ≡ []

  -- It is up by this list, with the end that has proven this key: a first part of the input is the upgrade's, and the
  -- rest the session's. Upgraded was told first, and then what the list says, each event where it was; what was written
  -- is what the upgrade wrote, and behind it the output of the session.
  pub record IsUp (input : List ℕ) (log : List (Entry H)) (told : List (ConnEvent H)) (written : List ℕ)
      (session : State) (streams : ℕ → Option (Streaming H)) (past : List (Earlier H)) : Type 0 where
    pub key : Key
    pub first : List ℕ
    pub rest : List ℕ
    pub greeting : List ℕ
    pub input_is : input ≡ first ++ rest
    pub upgraded : Upgrades role own first (Ok (Some key)) greeting
    pub at_rest : AreAtRest step fails is_closed is_finished inbound_makes outbound_makes (is_eager start)
        (listed start) (id_of key) (session_role role) log rest (output (session_role role) (items log)) session streams
        past
    -- and so all streams were before each frame that came, before its payload, and before each stream that this end
    -- opened
    pub rested : AreRested step fails is_closed is_finished inbound_makes outbound_makes (is_eager start) (listed start)
        (id_of key) (session_role role) log
    pub early : AreMadeEarly (is_eager start) log
    -- the protocols that it has now: each handler was made once, in turn, from those that it was given on
    pub now : P
    pub makes : AreMadeInTurn inbound_leads outbound_leads (id_of key) (session_role role) start log now
    pub told_is : told ≡ event.Upgraded key ∷ said log
    pub written_is : written ≡ greeting ++ output (session_role role) (items log)

  -- It was up, and the other end broke the rules of the session. What was told and written before is that of this list,
  -- which goes up to the fault.
  pub record IsFaulty (input : List ℕ) (log : List (Entry H)) (told : List (ConnEvent H)) (written : List ℕ) : Type 0
    where
      pub key : Key
      pub first : List ℕ
      pub rest : List ℕ
      pub greeting : List ℕ
      pub sent : List ℕ
      pub pending : List ℕ
      pub streams : ℕ → Option (Streaming H)
      pub past : List (Earlier H)
      pub before : List (ConnEvent H)
      pub now : P
      pub input_is : input ≡ first ++ rest
      pub upgraded : Upgrades role own first (Ok (Some key)) greeting
      pub faults : Faults step fails is_closed is_finished inbound_makes outbound_makes (is_eager start) (listed start)
          (id_of key) (session_role role)
          (MakesOn inbound_leads outbound_leads (id_of key) (session_role role) start now) [] (asks log)
          (event.Upgraded key ∷ []) before [] rest sent pending streams past
      pub log_is : faults.newer ≡ log
      pub early : AreMadeEarly (is_eager start) log
      pub told_is : told ≡ before ++ event.Fault fault.Mux ∷ []
      pub written_is : written ≡ greeting ++ (sent ++ pending)

  -- What a connection that is over has told and written, and by which list: its last event is a Fault, or Shut.
  pub data Ends (input : List ℕ) (ended : Bool) (log : List (Entry H)) (told : List (ConnEvent H)) (written : List ℕ)
      : Type 0 where
    -- the upgrade failed
    Upgrade : (why : UpgradeFault) (named : ConnFault) (first : List ℕ) → told_of why ≡ Some named
        → ComesTo role own input first (Err why) written → log ≡ [] → told ≡ event.Fault named ∷ []
        → Ends input ended log told written
    -- the other end broke the rules of the session
    Session : IsFaulty input log told written → Ends input ended log told written
    -- the input ended within the upgrade
    Early : ended ≡ true → Upgrades role own input (Ok None) written → log ≡ []
        → told ≡ event.Fault fault.EarlyEnd ∷ [] → Ends input ended log told written
    -- or within a frame
    Within : (before : List (ConnEvent H)) (session : State) (streams : ℕ → Option (Streaming H))
        (past : List (Earlier H)) → ended ≡ true → (up : IsUp input log before written session streams past)
        → EndsWithin up.rest → told ≡ before ++ event.Fault fault.EarlyEnd ∷ [] → Ends input ended log told written
    -- or between two frames
    Shut : (before : List (ConnEvent H)) (session : State) (streams : ℕ → Option (Streaming H))
        (past : List (Earlier H)) → ended ≡ true → (up : IsUp input log before written session streams past)
        → ¬ EndsWithin up.rest → told ≡ before ++ event.Shut ∷ [] → Ends input ended log told written

  -- it is up by this list, with this session and these streams, and knows in which order the handlers that are held
  -- were made
  abbrev pub IsUpWith : List ℕ → List (Entry H) → List (ConnEvent H) → List ℕ → Mux P H → Type 0
  IsUpWith input log told written mux =
      (listed mux.board.protocols ≡ listed start) × (is_eager mux.board.protocols ≡ is_eager start)
      × (mux.board.role ≡ session_role role)
      × ((up : IsUp input log told written mux.session (tree.get nat_cmp mux.board.streams) mux.board.past.items)
      × (mux.board.peer ≡ id_of up.key) × (mux.board.protocols ≡ up.now)
      × (mux.board.order ≡ newest_held (session_role role) log))

  -- Where it stands, in each phase; what is owed is told by the next call. Where memory was refused to it, it stands
  -- nowhere.
  abbrev pub Connects : List ℕ → Bool → List (Entry H) → List (ConnEvent H) → List ℕ → Phase P H → List (ConnEvent H)
      → List ℕ → Type 0
  Connects input ended log told taken (phases.Upgrading x protocols) owed waiting =
      (ended ≡ false) × (log ≡ []) × (owed ≡ []) × (waiting ≡ []) × IsComing input told taken x protocols
  Connects input ended log told taken (phases.Up mux) owed waiting =
      (ended ≡ false) × IsUpWith input log (told ++ owed) (taken ++ waiting) mux
  Connects input ended log told taken phases.Over owed waiting =
      (owed ≡ []) × Ends input ended log told (taken ++ waiting)
  Connects input ended log told taken phases.Spent owed waiting = ⊥

  -- An end of this role, with this key and these protocols, that was fed this input, stands by this list, has told
  -- these events, and of whose output this was taken.
  abbrev pub Stands : List ℕ → Bool → List (Entry H) → List (ConnEvent H) → List ℕ → ConnCore P H → Type 0
  Stands input ended log told taken core =
      (core.role ≡ role) × Connects input ended log told taken core.phase core.owed.items core.output.items

-- the connection has failed or was shut, or ran out of memory
abbrev pub is_over : {P H : Type 0} → Phase P H → Bool
is_over (phases.Upgrading x protocols) = false
is_over (phases.Up mux) = false
is_over phases.Over = true
is_over phases.Spent = true

-- memory was refused to it
abbrev pub is_spent : {P H : Type 0} → Phase P H → Bool
is_spent (phases.Upgrading x protocols) = false
is_spent (phases.Up mux) = false
is_spent phases.Over = false
is_spent phases.Spent = true

-- a stream may be opened for the protocol of this index
abbrev pub MayOpen : {P H : Type 0} → (P → List (List ℕ)) → Phase P H → ℕ → Type 0
MayOpen listed phases.Over index = ⊥
MayOpen listed phases.Spent index = ⊥
MayOpen listed (phases.Upgrading x protocols) index = ⊥
MayOpen listed (phases.Up mux) index = (index < length (listed mux.board.protocols))
    × Whenever mux.session (λ role past. start_refusal role past ≡ None)

-- why none is opened: where several reasons hold, the lowest is answered
abbrev pub IsRefused : {P H : Type 0} → (P → List (List ℕ)) → Phase P H → ℕ → ConnRefused → Type 0
IsRefused listed phases.Over index why = why ≡ refusals.Failed
IsRefused listed phases.Spent index why = why ≡ refusals.Failed
IsRefused listed (phases.Upgrading x protocols) index why = why ≡ refusals.NotUp
IsRefused listed (phases.Up mux) index why =
    ((length (listed mux.board.protocols) ≤ index) × (why ≡ refusals.BadIndex))
    ⊎ ((index < length (listed mux.board.protocols))
    × Whenever mux.session (λ role past. IsRefusedAs (start_refusal role past) why))

-- what is owed is what was, and then of this stream, which was just opened, that its eager handler gave up, if it did
abbrev pub OwesOf : {H : Type 0} → ℕ → List (ConnEvent H) → List (ConnEvent H) → Type 0
OwesOf number before after = (more : List (ConnEvent _)) × AllByRecursion (IsBrokenOf number) more
    × (after ≡ before ++ more)

-- what is owed is told first
abbrev pub TellsFirst : {H : Type 0} → List (ConnEvent H) → List (ConnEvent H) → Type 0
TellsFirst owed told = (more : List (ConnEvent _)) × (told ≡ owed ++ more)

-- what was written and not yet taken
abbrev pub waiting_in : {P H : Type 0} → Phase P H → List ℕ → List ℕ
waiting_in (phases.Upgrading x protocols) output = x.pending
waiting_in (phases.Up mux) output = output
waiting_in phases.Over output = output
waiting_in phases.Spent output = output

-- the handlers that are held, in the order in which they were made
abbrev pub held_in : {P H : Type 0} → Phase P H → List (ℕ × H)
held_in (phases.Upgrading x protocols) = []
held_in (phases.Up mux) =
    arranged (reverse mux.board.order) (handlers_past mux.board.past.items ++ handlers_of mux.board.streams.entries)
held_in phases.Over = []
held_in phases.Spent = []

-- the numbers of the streams in the table ascend
abbrev pub IsOrderedIn : {P H : Type 0} → Phase P H → Type 0
IsOrderedIn (phases.Upgrading x protocols) = Unit {0}
IsOrderedIn (phases.Up mux) = tree.IsOrdered nat_cmp mux.board.streams
IsOrderedIn phases.Over = Unit {0}
IsOrderedIn phases.Spent = Unit {0}
