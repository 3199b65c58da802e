-- Names of protocols (multistream-select 1.0; the lengths are this project's profile).
use Rattle.std.specs.Prelude.{ℕ, ◌<◌, List, length}

-- a name of 1 to 1023 bytes
pub record IsName (name : List ℕ) : Type 0 where
  pub some : 0 < length name
  pub short : length name < 1024
