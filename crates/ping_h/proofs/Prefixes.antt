-- A test whether bytes begin a list.
use Rattle.std.proofs.Common.{◌≡◌, ◌↔◌, ℕ, Bool, true, List, ◌++◌, length, drop, sym, ◌∙◌, IsTrue}
use mathlib.Core.List.{IsPrefix}

pub begins : (b : Bool) (s p t : List ℕ) → (b ≡ true → s ≡ p ++ drop (length p) s) × ((rest : List ℕ) → s ≡ p ++ rest → b ≡ true) → s ≡ t
    → IsTrue b ↔ IsPrefix p t
begins b s p t is e = (λ yes. (drop (length p) s, sym (is.0 yes) ∙ e), λ prefix. is.1 prefix.0 (e ∙ sym prefix.1))
