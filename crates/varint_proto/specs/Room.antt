-- The room of a message that comes in. Inside: no public clause cites it.
use Rattle.std.specs.Prelude.{◌≡◌, ℕ, ◌<◌, ◌≤◌, Bool, false, Option, Some, None}

-- A length has at most nine bytes. Once it is known there is room for the whole body.
pub record HasRoom (failed : Bool) (expected : Option ℕ) (digits len capacity : ℕ) : Type 0 where
  pub start : failed ≡ false → expected ≡ None → (digits < 9) × (len ≡ 0)
  pub known : (n : ℕ) → failed ≡ false → expected ≡ Some n → (len ≤ n) × (n ≤ capacity)
