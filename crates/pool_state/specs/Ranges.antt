-- In which ranges the limits of a pool lie (this project's profile).
use Rattle.std.specs.Prelude.{ℕ, ◌≤◌}

pub record AreInRange (conns per_peer streams blocked inbound outbound allowed : ℕ) : Type 0 where
  pub some_conns : (1 ≤ conns) × (conns ≤ 256)
  pub some_per_peer : (1 ≤ per_peer) × (per_peer ≤ 8)
  pub some_streams : (1 ≤ streams) × (streams ≤ 64)
  pub few_blocked : blocked ≤ 64
  pub few_inbound : inbound ≤ 256
  pub few_outbound : outbound ≤ 256
  pub few_allowed : allowed ≤ 64
