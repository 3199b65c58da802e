use Rattle.std.proofs.Common.{◌≡◌, ◌≢◌, Bool, true, false, ℕ, List, get_or, refl, ap, sym}
use Rattle.std.specs.Bool.{Decides}
use Rattle.std.specs.Str.{bytes_eq}
use Rattle.std.proofs.lemmas.Slice.Eq.{bytes_eq-Decides}
use Rattle.pool_state.proofs.row.is_same.Goals as goal

never : {P : Type 0} (b : Bool) → Decides b P → ¬ P → b ≡ false
never true d other = absurd (other (d.0 refl))
never false d other = refl

differ : (xs ys : List ℕ) (k : ℕ) → get_or xs k 0 ≢ get_or ys k 0 → bytes_eq xs ys ≡ false
differ xs ys k other = never (bytes_eq xs ys) (bytes_eq-Decides xs ys) (λ same. other (ap (λ (zs : List ℕ). get_or zs k 0) same))

pub returns-then-one-last : goal.returns-then-one-last
returns-then-one-last c = rw (← c.as_bytes-one.ensures.value, ← c.as_bytes-two.ensures.value) (sym (differ c.as_bytes-one.result.now c.as_bytes-two.result.now c.saturating_sub-last.result c.if-one-last.true))
