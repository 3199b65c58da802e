use Rattle.pool_state.specs.History.{blocks, unblocks, allows, disallows}
use Rattle.pool_state.proofs.Law.{block_exclusive, allow_exclusive}
use Rattle.pool_state.proofs.Ordered.{each_once}
use Rattle.pool_state.proofs.laws.each_peer_once.Goals as goal

pub returns-clause-blocked : goal.returns-clause-blocked
returns-clause-blocked c = each_once blocks unblocks block_exclusive

pub returns-clause-allowed : goal.returns-clause-allowed
returns-clause-allowed c = each_once allows disallows allow_exclusive
