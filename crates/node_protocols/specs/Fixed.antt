-- A source of pings' bytes that gives the same ones each time, as contracts see it: this project's profile.
use Rattle.std.specs.Prelude.{ℕ, List}

pub record Fixed : Type 0 where
  pub payload : List ℕ
