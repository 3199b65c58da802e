-- A table of streams in which one was changed.
use Rattle.std.proofs.Common.{◌≡◌, ℕ, ◌==◌, Bool, true, false, cond, Option, Some, None, sym, ap, ◌∙◌, arith}
use Rattle.std.specs.Prelude.{IsSome}
use Rattle.std.proofs.lemmas.Bool.Decides.{nat_tests}
use Rattle.std.specs.Ordering.{nat_cmp}
use Rattle.std.specs.BTreeMap as tree

at_other : (n m : ℕ) → (n == m) ≡ false → tree.is_at (nat_cmp n) m ≡ false
at_other n m e = grind (arith, nat_tests)

at_same : (n : ℕ) → tree.is_at (nat_cmp n) n ≡ true
at_same n = grind (arith, nat_tests)

module _ {S : Type 0} (old now : ℕ → Option S) (n : ℕ) (value : Option S) (updates : (m : ℕ) → now m ≡ cond (tree.is_at (nat_cmp n) m) value (old m)) where
  pub elsewhere : (m : ℕ) → (n == m) ≡ false → now m ≡ old m
  elsewhere m e = updates m ∙ ap (λ b. cond b value (old m)) (at_other n m e)

  pub here : now n ≡ value
  here = updates n ∙ ap (λ b. cond b value (old n)) (at_same n)

pub not_some : {S : Type 0} (r : Option S) → IsSome r → r ≡ None → ⊥
not_some None some none = absurd (cc some)
not_some (Some x) some none = absurd (cc none)

pub not_both : {b : Bool} → b ≡ true → b ≡ false → ⊥
not_both on off = absurd (let e : true ≡ false = sym on ∙ off in cc e)
