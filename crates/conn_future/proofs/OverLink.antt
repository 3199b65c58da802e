-- A connection that is up, over its link.
use Rattle.std.proofs.Common.{◌≡◌, ℕ, true, false, List, [], ◌++◌, sym, ap, ◌∙◌, subst}
use Rattle.std.proofs.lemmas.List.{append-nil}
use Rattle.conn_link.specs.declared.link.Link.{Ghosts as LinkGhosts}
use Rattle.handlers.specs.declared.handler.Handler.{Ghosts as HandlerGhosts}
use Rattle.handlers.specs.declared.protocols.Protocols.{Ghosts as ProtocolsGhosts}
use Rattle.peer_ids.specs.Key.{Key}
use Rattle.upgrade.specs.declared.role.ConnRole.{ConnRole}
use Rattle.conn_log.specs.declared.event.ConnEvent.{ConnEvent}
use Rattle.conn_log.specs.Entries.{Entry}
use Rattle.mux.specs.declared.mux.Mux.{Mux}
use Rattle.conn_core.specs.declared.connection.ConnCore.{ConnCore}
use Rattle.conn_core.specs.declared.connection.Phase.{Phase}
use Rattle.conn_core.specs.declared.connection.Phase.TheVariants as phases
use Rattle.conn_core.specs.Connects.{Connects, waiting_in}
use Rattle.conn_core.specs.Promises.{IsSplit}
use Rattle.conn_core.proofs.WhileUp.{up_is_split}
use Rattle.conn_future.specs.declared.stage.Stage.{Stage}
use Rattle.conn_future.specs.declared.stage.Stage.TheVariants.{Going, Shutting, Starved, Over}
use Rattle.conn_future.specs.Stages.{is_live}
use Rattle.conn_future.specs.Follows.{CoreStands, GoesOn, Stays}

module _ {L P H : Type 0} (link : LinkGhosts L) (protocols : ProtocolsGhosts P H) (handler : HandlerGhosts H)
    (start : P) (role : ConnRole) (own : Key) where
  abbrev Splits : List ℕ → List (ConnEvent H) → List ℕ → List (Entry H) → Type 0
  Splits = IsSplit handler.steps handler.fails handler.is_closed handler.is_finished protocols.makes_inbound
      protocols.makes_outbound protocols.listed protocols.is_eager protocols.leads_inbound protocols.leads_outbound
      start role own

  abbrev OverLink : L → List (Entry H) → L → List (ConnEvent H) → List ℕ → Type 0
  OverLink first log now told left = (given : List ℕ) × (took : List ℕ) × link.moves first given took now
      × Splits given told (took ++ left) log

  split_of : (input : List ℕ) (log : List (Entry H)) (told : List (ConnEvent H)) (taken : List ℕ) (core : ConnCore P H) (mux : Mux P H)
      → core.phase ≡ phases.Up mux → waiting_in core.phase core.output.items ≡ []
      → CoreStands link protocols handler start role own input false log told taken core
      → Splits input (told ++ core.owed.items) taken log
  split_of input log told taken core mux phase_is none stands =
      let at_phase = subst (λ (phase : Phase P H). Connects handler.steps handler.fails handler.is_closed handler.is_finished protocols.makes_inbound protocols.makes_outbound protocols.listed protocols.is_eager protocols.leads_inbound protocols.leads_outbound start role own input false log told taken phase core.owed.items core.output.items) phase_is stands.1 in
      let none_left = sym (ap (λ (phase : Phase P H). waiting_in phase core.output.items) phase_is) ∙ none in
      subst (λ (written : List ℕ). Splits input (told ++ core.owed.items) written log) (ap (λ more. taken ++ more) none_left ∙ append-nil taken)
      (up_is_split handler.steps handler.fails handler.is_closed handler.is_finished protocols.makes_inbound protocols.makes_outbound protocols.listed protocols.is_eager protocols.leads_inbound protocols.leads_outbound start role own _ _ _ input log (told ++ core.owed.items) (taken ++ core.output.items) at_phase.1.3.0)

  over_link : (first : L) (log : List (Entry H)) (gave : List (ConnEvent H)) (now : L) (core : ConnCore P H) (left : List ℕ) (held : List (ConnEvent H)) (mux : Mux P H)
      → GoesOn link protocols handler start role own first log gave now core left held → core.phase ≡ phases.Up mux
      → OverLink first log now ((gave ++ held) ++ core.owed.items) left
  over_link first log gave now core left held mux goes phase_is =
      let joins = goes.joins in
      (joins.given, joins.took, joins.moved, split_of joins.given log (gave ++ held) (joins.took ++ left) core mux phase_is goes.none_waits joins.stands)

  pub up_over_link : (first : L) (log : List (Entry H)) (gave : List (ConnEvent H)) (now : L) (core : ConnCore P H) (left : List ℕ) (held : List (ConnEvent H)) (stage : Stage) (mux : Mux P H)
      → Stays link protocols handler start role own first log gave now core left held stage → is_live stage ≡ true
      → core.phase ≡ phases.Up mux → OverLink first log now ((gave ++ held) ++ core.owed.items) left
  up_over_link first log gave now core left held Going mux stays live phase_is = over_link first log gave now core left held mux stays phase_is
  up_over_link first log gave now core left held Shutting mux stays live phase_is = over_link first log gave now core left held mux stays phase_is
  up_over_link first log gave now core left held Starved mux stays live phase_is = absurd (cc live)
  up_over_link first log gave now core left held Over mux stays live phase_is = absurd (cc live)
