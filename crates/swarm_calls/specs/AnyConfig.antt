-- A configuration, for a type that must have one though no clause speaks of it.
-- Inside: no public clause cites it.
use Rattle.std.specs.Prelude.{[], false}
use Rattle.std.proofs.Common.{refl}
use Rattle.std.proofs.lemmas.Bool.{leb-true}
use Rattle.pool_state.specs.declared.limits.Config.{Config}
use Rattle.pool_state.specs.declared.limits.Limits.{Limits}

any_limits : Limits
any_limits = record {
  conns = 1;
  per_peer = 1;
  streams = 1;
  blocked = 0;
  inbound = 0;
  outbound = 0;
  allowed = 0;
  some_conns = leb-true 1 1 refl;
  few_conns = leb-true 1 256 refl;
  some_per_peer = leb-true 1 1 refl;
  few_per_peer = leb-true 1 8 refl;
  some_streams = leb-true 1 1 refl;
  few_streams = leb-true 1 64 refl;
  few_blocked = leb-true 0 64 refl;
  few_inbound = leb-true 0 256 refl;
  few_outbound = leb-true 0 256 refl;
  few_allowed = leb-true 0 64 refl;
}

pub any_config : Config
any_config = record { own = []; limits = any_limits; first_conn = 0; first_front = 0; allow_only = false }
