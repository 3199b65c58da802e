-- What was written is taken.
use Rattle.std.proofs.Common.{◌≡◌, ℕ, Bool, List, [], ◌++◌, sym, ap, ◌∙◌, subst}
use Rattle.std.proofs.lemmas.List.{append-nil}
use Rattle.handlers.specs.Calls.{HandlerCall, Asked}
use Rattle.peer_ids.specs.Key.{Key}
use Rattle.upgrade.specs.declared.role.ConnRole.{ConnRole}
use Rattle.conn_log.specs.declared.event.ConnEvent.{ConnEvent}
use Rattle.conn_log.specs.Entries.{Entry}
use Rattle.conn_core.specs.declared.connection.Phase.{Phase}
use Rattle.conn_core.specs.declared.connection.Phase.TheVariants as phases
use Rattle.conn_core.specs.Connects.{IsComing, IsUpWith, Ends, Connects}

module _ {P H : Type 0} (step : H → HandlerCall → H → Type 0) (fails : H → Asked → ℕ → Type 0)
    (is_closed is_finished : H → Bool) (inbound_makes outbound_makes : P → ℕ → List ℕ → H → Type 0)
    (listed : P → List (List ℕ)) (is_eager : P → ℕ → Bool)
    (inbound_leads outbound_leads : P → ℕ → List ℕ → H → P → Type 0) (start : P) (role : ConnRole) (own : Key) where
  pub output_taken : (input : List ℕ) (ended : Bool) (log : List (Entry H)) (told : List (ConnEvent H)) (taken : List ℕ) (phase : Phase P H) (owed : List (ConnEvent H)) (waiting given left : List ℕ)
      → given ≡ waiting → left ≡ []
      → Connects step fails is_closed is_finished inbound_makes outbound_makes listed is_eager inbound_leads outbound_leads start role own input ended log told taken phase owed waiting
      → Connects step fails is_closed is_finished inbound_makes outbound_makes listed is_eager inbound_leads outbound_leads start role own input ended log told (taken ++ given) phase owed left
  output_taken input ended log told taken (phases.Upgrading x protocols) owed waiting given left given_is left_is it = (
    it.0,
    it.1,
    it.2,
    left_is,
    subst (λ (t : List ℕ). IsComing step fails is_closed is_finished inbound_makes outbound_makes listed is_eager inbound_leads outbound_leads start role own input told t x protocols)
        (sym (ap (λ t. taken ++ t) (given_is ∙ it.3) ∙ append-nil taken)) it.4,
  )
  output_taken input ended log told taken (phases.Up mux) owed waiting given left given_is left_is it = (
    it.0,
    subst (λ (t : List ℕ). IsUpWith step fails is_closed is_finished inbound_makes outbound_makes listed is_eager inbound_leads outbound_leads start role own input log (told ++ owed) t mux) (same_in_all taken waiting given left given_is left_is)
        it.1,
  ) where
    same_in_all : (taken waiting given left : List ℕ) → given ≡ waiting → left ≡ [] → taken ++ waiting ≡ (taken ++ given) ++ left
    same_in_all taken waiting given left given_is left_is = ap (λ t. taken ++ t) (sym given_is) ∙ sym (ap (λ t. (taken ++ given) ++ t) left_is ∙ append-nil (taken ++ given))
  output_taken input ended log told taken phases.Over owed waiting given left given_is left_is it = (
    it.0,
    subst (λ (t : List ℕ). Ends step fails is_closed is_finished inbound_makes outbound_makes listed is_eager inbound_leads outbound_leads start role own input ended log told t)
        (ap (λ t. taken ++ t) (sym given_is) ∙ sym (ap (λ t. (taken ++ given) ++ t) left_is ∙ append-nil (taken ++ given))) it.1,
  )
  output_taken input ended log told taken phases.Spent owed waiting given left given_is left_is it = absurd it

-- where an end stands is where its parts do, taken by themselves
pub connects_by : {P H : Type 0} (stands : ConnRole → Phase P H → List (ConnEvent H) → Type 0) (known role : ConnRole) (held phase : Phase P H) (owes owed : List (ConnEvent H))
    → known ≡ role → held ≡ phase → owes ≡ owed → stands role phase owed → stands known held owes
connects_by stands known role held phase owes owed role_is phase_is owed_is it =
    subst (λ (r : ConnRole). stands r held owes) (sym role_is) (subst (λ (x : Phase _ _). stands role x owes) (sym phase_is)
    (subst (λ (o : List (ConnEvent _)). stands role phase o) (sym owed_is) it))
