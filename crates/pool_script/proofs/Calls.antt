-- What a call of the pool leads to.
use Rattle.std.proofs.Common.{◌≡◌, ◌≢◌, ◌⊎◌, true, false, List, [], ◌∷◌, ◌++◌, refl, sym, ◌∙◌, inl, inr, subst}
use Rattle.pool_state.specs.At.{Stands}
use Rattle.pool_state.specs.History.{Entry, entry}
use Rattle.pool_state.specs.Shown.{reply_after}
use Rattle.pool_state.specs.declared.call.Call.{Call}
use Rattle.pool_state.specs.declared.call.Refusal.TheVariants as refusal
use Rattle.pool_state.specs.declared.call.Reply.{Reply}
use Rattle.pool_state.specs.declared.call.Reply.TheVariants as reply
use Rattle.pool_state.specs.declared.limits.Config.{Config}
use Rattle.pool_state.specs.declared.pool.Pool.{Pool}
use Rattle.pool_script.specs.Played.{is_spent, grown}

spent_or_not : (r : Reply) → ((is_spent r ≡ true) × (r ≡ reply.Refused refusal.Spent)) ⊎ ((is_spent r ≡ false) × (r ≢ reply.Refused refusal.Spent))
spent_or_not (reply.Refused refusal.Spent) = inl (refl, refl)
spent_or_not other = inr (refl, λ is. cc is)

-- a call is answered, and the pool stands behind it
pub applied : (config : Config) (history : List Entry) (made : Call) (answer : Reply) (old new : Pool)
    → answer ≡ reply_after config history made
    → (answer ≢ reply.Refused refusal.Spent → Stands config (history ++ entry 0 made answer ∷ []) new)
    → (answer ≡ reply.Refused refusal.Spent → new ≡ old) → Stands config history old
    → Stands config (grown config history made) new
applied config history made answer old new is moved spent stands =
    elim (spent_or_not (reply_after config history made)) [
      | inl it ↦ rw it.0 (subst (λ (pool : Pool). Stands config history pool) (sym (spent (is ∙ it.1))) stands)
      | inr it ↦ rw it.0 (subst (λ (r : Reply). Stands config (history ++ entry 0 made r ∷ []) new) is (moved (λ same. it.1 (sym is ∙ same))))
    ]
