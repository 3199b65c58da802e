-- The input of the link ends.
use Rattle.std.proofs.Common.{◌≡◌, ℕ, Bool, true, List, [], ◌∷◌, ◌++◌, None, Ok, refl, sym, ap, ◌∙◌, subst}
use Rattle.std.specs.Ordering.{nat_cmp}
use Rattle.std.specs.BTreeMap as tree
use Rattle.handlers.specs.Calls.{HandlerCall, Asked}
use Rattle.peer_ids.specs.Key.{Key}
use Rattle.upgrade.specs.declared.role.ConnRole.{ConnRole}
use Rattle.upgrade.specs.Upgrades.{Upgrades}
use Rattle.upgrade.specs.State.{Upgrading}
use Rattle.upgrade.proofs.Staying.{going_by}
use Rattle.yamux_frames.specs.Frames.{EndsWithin}
use Rattle.conn_log.specs.declared.event.ConnEvent.{ConnEvent}
use Rattle.conn_log.specs.Entries.{Entry}
use Rattle.conn_log.specs.declared.event.ConnEvent.TheVariants as event
use Rattle.conn_log.specs.declared.event.ConnFault.TheVariants as fault
use Rattle.mux.specs.declared.mux.Mux.{Mux}
use Rattle.conn_core.specs.Connects.{IsComing, IsUpWith, Ends}
use Rattle.conn_core.specs.Connects.Ends.{Early, Within, Shut}

module _ {P H : Type 0} (step : H → HandlerCall → H → Type 0) (fails : H → Asked → ℕ → Type 0)
    (is_closed is_finished : H → Bool) (inbound_makes outbound_makes : P → ℕ → List ℕ → H → Type 0)
    (listed : P → List (List ℕ)) (is_eager : P → ℕ → Bool)
    (inbound_leads outbound_leads : P → ℕ → List ℕ → H → P → Type 0) (start : P) (role : ConnRole) (own : Key) where
  -- within the upgrade
  pub ends_early : (input : List ℕ) (log : List (Entry H)) (before owed : List (ConnEvent H)) (taken output : List ℕ) (x : Upgrading) (protocols : P) → log ≡ [] → owed ≡ []
      → IsComing step fails is_closed is_finished inbound_makes outbound_makes listed is_eager inbound_leads outbound_leads start role own input before taken x protocols → output ≡ x.pending
      → Ends step fails is_closed is_finished inbound_makes outbound_makes listed is_eager inbound_leads outbound_leads start role own input true log ((before ++ owed) ++ event.Fault fault.EarlyEnd ∷ []) (taken ++ output)
  ends_early input log before owed taken output x protocols unasked none coming given =
      let there : Upgrades x.role x.own input (Ok None) (taken ++ x.pending) = going_by x.stage x.role x.own input (taken ++ x.pending) coming.stands in
      let upgrades = subst (λ (r : ConnRole). Upgrades r own input (Ok None) (taken ++ x.pending)) coming.role_is
      (subst (λ (k : Key). Upgrades x.role k input (Ok None) (taken ++ x.pending)) coming.own_is there) in
      Early refl (subst (λ (t : List ℕ). Upgrades role own input (Ok None) (taken ++ t)) (sym given) upgrades) unasked
      (ap (λ t. (t ++ owed) ++ event.Fault fault.EarlyEnd ∷ []) coming.none_told ∙ ap (λ t. t ++ event.Fault fault.EarlyEnd ∷ []) none)

  -- within a frame
  pub ends_within : (input : List ℕ) (log : List (Entry H)) (told : List (ConnEvent H)) (written : List ℕ) (mux : Mux P H)
      → (up : IsUpWith step fails is_closed is_finished inbound_makes outbound_makes listed is_eager inbound_leads outbound_leads start role own input log told written mux) → EndsWithin up.3.0.rest
      → Ends step fails is_closed is_finished inbound_makes outbound_makes listed is_eager inbound_leads outbound_leads start role own input true log (told ++ event.Fault fault.EarlyEnd ∷ []) written
  ends_within input log told written mux up within = Within told mux.session (tree.get nat_cmp mux.board.streams) mux.board.past.items refl up.3.0 within refl

  -- between two frames
  pub is_shut : (input : List ℕ) (log : List (Entry H)) (told : List (ConnEvent H)) (written : List ℕ) (mux : Mux P H)
      → (up : IsUpWith step fails is_closed is_finished inbound_makes outbound_makes listed is_eager inbound_leads outbound_leads start role own input log told written mux) → ¬ EndsWithin up.3.0.rest
      → Ends step fails is_closed is_finished inbound_makes outbound_makes listed is_eager inbound_leads outbound_leads start role own input true log (told ++ event.Shut ∷ []) written
  is_shut input log told written mux up between = Shut told mux.session (tree.get nat_cmp mux.board.streams) mux.board.past.items refl up.3.0 between refl
