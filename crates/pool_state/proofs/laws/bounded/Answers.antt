use Rattle.pool_state.proofs.Limited.{is_bounded}
use Rattle.pool_state.proofs.laws.bounded.Goals as goal

pub returns : goal.returns
returns c = is_bounded
