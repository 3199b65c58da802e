-- What a side has written. Inside: no public clause cites it.
use Rattle.std.specs.Prelude.{ℕ, List}

-- not yet taken, and how many bytes more find room
pub record Written : Type 0 where
  pub pending : List ℕ
  pub room : ℕ
