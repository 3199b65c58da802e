-- The limits of a pool whose owner names none (this project's profile).
use Rattle.std.specs.Prelude.{◌≡◌}
use Rattle.pool_state.specs.declared.limits.Limits.{Limits}

pub record AreCommon (limits : Limits) : Type 0 where
  pub conns : limits.conns ≡ 64
  pub per_peer : limits.per_peer ≡ 8
  pub streams : limits.streams ≡ 64
  pub blocked : limits.blocked ≡ 64
  pub inbound : limits.inbound ≡ 256
  pub outbound : limits.outbound ≡ 256
  pub allowed : limits.allowed ≡ 64
