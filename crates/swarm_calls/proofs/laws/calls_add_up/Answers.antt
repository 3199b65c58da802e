use Rattle.swarm_calls.proofs.Legal.{sum_is}
use Rattle.swarm_calls.proofs.laws.calls_add_up.Goals as goal

pub returns : goal.returns
returns c = sum_is
