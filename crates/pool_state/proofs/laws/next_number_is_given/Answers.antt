use Rattle.pool_state.proofs.Legal.{admitted_next}
use Rattle.pool_state.proofs.laws.next_number_is_given.Goals as goal

pub returns : goal.returns
returns c = admitted_next
