-- How much a connection may hold that its peer doesn't take.
-- Source: this project's profile: 4 MiB.
use Rattle.std.specs.Prelude.{◌≡◌, ◌⊎◌, ℕ, ◌<◌, ◌≤◌, Option, Some, None, IfSome}

abbrev pub most : ℕ
most = 4194304

-- What a call leaves of a connection: what it comes to, where no more waits than may; else none.
abbrev pub Leaves : {C : Type 0} → (C → ℕ) → C → Option C → Type 0
Leaves {C} waiting conn left = ((waiting conn ≤ most) × (left ≡ Some conn)) ⊎ ((most < waiting conn) × (left ≡ None))

-- A call of a connection that wasn't dropped. It leads to another state, and is answered, as the connection's own call:
-- so it stays, and is answered so, where no more waits than may; else it is dropped, and answered as one that was.
abbrev pub Bounds : {C R : Type 0} → (C → ℕ) → (C → R → C → Type 0) → R → Option C → R → Option C → Type 0
Bounds {C} {R} waiting leads dropped old result new = IfSome old (λ before. (answer : R) × (after : C)
    × leads before answer after
    × (((waiting after ≤ most) × (new ≡ Some after) × (result ≡ answer))
    ⊎ ((most < waiting after) × (new ≡ None) × (result ≡ dropped))))

-- This holds of the connection before the call and behind it, where it wasn't dropped.
abbrev pub IfStands : {C : Type 0} → (C → C → Type 0) → Option C → Option C → Type 0
IfStands {C} fact old new = IfSome old (λ before. IfSome new (λ after. fact before after))

-- How much waits of one that wasn't dropped; of one that was, nothing
abbrev pub waiting_of : {C : Type 0} → (C → ℕ) → Option C → ℕ
waiting_of {C} waiting None = 0
waiting_of {C} waiting (Some conn) = waiting conn
