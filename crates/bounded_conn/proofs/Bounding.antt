-- A call of a connection that is there.
use Rattle.std.proofs.Common.{◌≡◌, ◌⊎◌, ℕ, ◌<◌, ◌≤◌, Option, Some, None, sym, subst}
use Rattle.bounded_conn.specs.Bounds.{Bounds, most}

pub of_some : {C R : Type 0} (waiting : C → ℕ) (leads : C → R → C → Type 0) (dropped : R) (old : Option C) (before : C)
    (result : R) (new : Option C) → old ≡ Some before
    → (answer : R) × (after : C) × leads before answer after
    × (((waiting after ≤ most) × (new ≡ Some after) × (result ≡ answer))
    ⊎ ((most < waiting after) × (new ≡ None) × (result ≡ dropped)))
    → Bounds waiting leads dropped old result new
of_some {C} {R} waiting leads dropped old before result new is it =
    subst (λ (o : Option C). Bounds waiting leads dropped o result new) (sym is) it
