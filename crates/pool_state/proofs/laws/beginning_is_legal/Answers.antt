use Rattle.std.proofs.Common.{[]}
use Rattle.pool_state.proofs.Legal.{legal_beginning}
use Rattle.pool_state.proofs.laws.beginning_is_legal.Goals as goal

pub returns : goal.returns
returns c config beginning later legal = legal_beginning config [] beginning later legal
