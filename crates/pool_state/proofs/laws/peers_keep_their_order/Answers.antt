use Rattle.pool_state.specs.History.{blocks, unblocks, allows, disallows}
use Rattle.pool_state.proofs.Law.{block_exclusive, allow_exclusive}
use Rattle.pool_state.proofs.Ordered.{keeps_order}
use Rattle.pool_state.proofs.laws.peers_keep_their_order.Goals as goal

pub returns-clause-blocked : goal.returns-clause-blocked
returns-clause-blocked c = keeps_order blocks unblocks block_exclusive

pub returns-clause-allowed : goal.returns-clause-allowed
returns-clause-allowed c = keeps_order allows disallows allow_exclusive
