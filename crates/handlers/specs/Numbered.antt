-- A fault of a handler, as contracts see it: the number that a connection tells is this project's profile.
use Rattle.std.specs.Prelude.{ℕ}

pub record Numbered : Type 0 where
  pub number : ℕ
