-- What was written where memory was refused.
use Rattle.std.proofs.Common.{◌≡◌, ◌≢◌, ℕ, Bool, false, List, [], ◌∷◌, ◌++◌, Option, Err, refl, sym, ap, ◌∙◌, subst}
use Rattle.std.proofs.lemmas.List.{append_assoc, append-nil}
use Rattle.std.specs.Ordering.{nat_cmp}
use Rattle.std.specs.BTreeMap as tree
use Rattle.handlers.specs.Calls.{HandlerCall, Asked}
use Rattle.peer_ids.specs.Key.{Key}
use Rattle.upgrade.specs.declared.role.ConnRole.{ConnRole}
use Rattle.upgrade.specs.declared.fault.UpgradeFault.{UpgradeFault}
use Rattle.upgrade.specs.declared.fault.UpgradeFault.TheVariants as faults
use Rattle.upgrade.specs.Upgrades.{Upgrades, RunsOut}
use Rattle.yamux_session.specs.State.{State}
use Rattle.streams.specs.State.{Streaming}
use Rattle.conn_log.specs.declared.earlier.Earlier.{Earlier}
use Rattle.conn_log.specs.declared.event.ConnEvent.{ConnEvent}
use Rattle.conn_log.specs.Entries.{Entry}
use Rattle.conn_log.specs.declared.event.ConnEvent.TheVariants as event
use Rattle.conn_log.specs.declared.event.ConnFault.TheVariants as fault
use Rattle.conn_core.specs.declared.connection.Phase.{Phase}
use Rattle.conn_core.specs.declared.connection.Phase.TheVariants as phases
use Rattle.conn_core.specs.Connects.{Connects, IsUp, Ends, is_over, waiting_in}
use Rattle.conn_core.specs.Wanting.{WroteOn, Wrote}
use Rattle.conn_core.specs.Wanting.WroteOn.{Up, Over}
use Rattle.conn_core.specs.Wanting.Wrote.{Coming, Upgrade, Later}
use Rattle.conn_core.proofs.Growing.{stays}
use Rattle.conn_core.proofs.Points.{coming}
use Rattle.conn_core.proofs.Coming.{upgrade_failed}

module _ {P H : Type 0} (step : H → HandlerCall → H → Type 0) (fails : H → Asked → ℕ → Type 0)
    (is_closed is_finished : H → Bool) (inbound_makes outbound_makes : P → ℕ → List ℕ → H → Type 0)
    (listed : P → List (List ℕ)) (is_eager : P → ℕ → Bool)
    (inbound_leads outbound_leads : P → ℕ → List ℕ → H → P → Type 0) (start : P) (role : ConnRole) (own : Key) where
  -- an end that is up wrote it before it heard any of the piece
  pub wrote_up : (input piece : List ℕ) (log : List (Entry H)) (told more : List (ConnEvent H)) (written : List ℕ) (session : State) (streams : ℕ → Option (Streaming H)) (past : List (Earlier H))
      → IsUp step fails is_closed is_finished inbound_makes outbound_makes listed is_eager inbound_leads outbound_leads start role own input log (told ++ more) written session streams past
      → WroteOn step fails is_closed is_finished inbound_makes outbound_makes listed is_eager inbound_leads outbound_leads start role own input piece log told written
  wrote_up input piece log told more written session streams past up =
      Up [] piece log more session streams past refl (stays log)
      (subst (λ (t : List ℕ). IsUp step fails is_closed is_finished inbound_makes outbound_makes listed is_eager inbound_leads outbound_leads start role own t log (told ++ more) written session streams past) (sym (append-nil input)) up)

  -- or before it heard the rest of the piece
  pub wrote_behind : (input front rest piece : List ℕ) (log : List (Entry H)) (told : List (ConnEvent H)) (written : List ℕ) → piece ≡ front ++ rest
      → WroteOn step fails is_closed is_finished inbound_makes outbound_makes listed is_eager inbound_leads outbound_leads start role own (input ++ front) rest log told written
      → WroteOn step fails is_closed is_finished inbound_makes outbound_makes listed is_eager inbound_leads outbound_leads start role own input piece log told written
  wrote_behind input front rest piece log told written is (Up first last now more session streams past rest_is grown up) =
      Up (front ++ first) last now more session streams past (is ∙ ap (λ t. front ++ t) rest_is ∙ sym (append_assoc front first last)) grown
      (subst (λ (t : List ℕ). IsUp step fails is_closed is_finished inbound_makes outbound_makes listed is_eager inbound_leads outbound_leads start role own t now (told ++ more) written session streams past) (append_assoc input front first) up)
  wrote_behind input front rest piece log told written is (Over now more grown ends) =
      Over now more grown (subst (λ (t : List ℕ). Ends step fails is_closed is_finished inbound_makes outbound_makes listed is_eager inbound_leads outbound_leads start role own t false now (told ++ more) written)
      (append_assoc input front rest ∙ ap (λ t. input ++ t) (sym is)) ends)

  -- no part of the piece was heard, in any phase
  pub wrote_before : (input piece : List ℕ) (log : List (Entry H)) (told : List (ConnEvent H)) (taken : List ℕ) (phase : Phase P H) (owed : List (ConnEvent H)) (waiting : List ℕ)
      → Connects step fails is_closed is_finished inbound_makes outbound_makes listed is_eager inbound_leads outbound_leads start role own input false log told taken phase owed waiting → is_over phase ≡ false
      → Wrote step fails is_closed is_finished inbound_makes outbound_makes listed is_eager inbound_leads outbound_leads start role own input piece log told (taken ++ waiting_in phase waiting)
  wrote_before input piece log told taken (phases.Upgrading x protocols) owed waiting it going =
      Coming it.1 it.4.none_told (coming step fails is_closed is_finished inbound_makes outbound_makes listed is_eager inbound_leads outbound_leads start role own input taken told x protocols it.4)
  wrote_before input piece log told taken (phases.Up mux) owed waiting it going =
      Later (wrote_up input piece log told owed (taken ++ waiting) mux.session (tree.get nat_cmp mux.board.streams) mux.board.past.items it.1.3.0)
  wrote_before input piece log told taken phases.Over owed waiting it going = absurd (cc going)
  wrote_before input piece log told taken phases.Spent owed waiting it going = absurd it

  -- its upgrade failed by the piece, or ran out of memory
  pub wrote_failed : (why : UpgradeFault) (input piece pending written : List ℕ)
      → (why ≢ faults.OutOfMemory → Upgrades role own (input ++ piece) (Err why) written)
      → (why ≡ faults.OutOfMemory → RunsOut role own input piece pending written)
      → Wrote step fails is_closed is_finished inbound_makes outbound_makes listed is_eager inbound_leads outbound_leads start role own input piece [] [] written
  wrote_failed (faults.Select reason) input piece pending written upgrades out =
      Later (Over [] (event.Fault fault.Select ∷ []) (stays []) (upgrade_failed step fails is_closed is_finished inbound_makes outbound_makes listed is_eager inbound_leads outbound_leads start role own (faults.Select reason) fault.Select (input ++ piece) written _ refl (upgrades (λ e. cc e)) refl))
  wrote_failed faults.NoneLeft input piece pending written upgrades out =
      Later (Over [] (event.Fault fault.NoneLeft ∷ []) (stays []) (upgrade_failed step fails is_closed is_finished inbound_makes outbound_makes listed is_eager inbound_leads outbound_leads start role own faults.NoneLeft fault.NoneLeft (input ++ piece) written _ refl (upgrades (λ e. cc e)) refl))
  wrote_failed (faults.Exchange reason) input piece pending written upgrades out =
      Later (Over [] (event.Fault fault.Exchange ∷ []) (stays []) (upgrade_failed step fails is_closed is_finished inbound_makes outbound_makes listed is_eager inbound_leads outbound_leads start role own (faults.Exchange reason) fault.Exchange (input ++ piece) written _ refl (upgrades (λ e. cc e)) refl))
  wrote_failed faults.Failed input piece pending written upgrades out = absurd (upgrades (λ e. cc e))
  wrote_failed faults.OutOfMemory input piece pending written upgrades out = Upgrade pending refl refl (out refl)
