use Rattle.std.proofs.Common.{refl}
use Rattle.pool_state.proofs.pool.Pool.settle_refusals.Goals as goal

pub returns : goal.returns
returns c = rw (c.requires, c.has_phase.ensures, c.has_phase-2.ensures, c.is_same.ensures, c.expects_another.ensures, c.is_blocked.ensures, c.others_of.ensures, c.is_kept_out.ensures, c.as_slice-rows.ensures.value) refl
