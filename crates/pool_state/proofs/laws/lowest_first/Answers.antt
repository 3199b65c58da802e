use Rattle.pool_state.proofs.Rising.{refusals_rise}
use Rattle.pool_state.proofs.laws.lowest_first.Goals as goal

pub returns : goal.returns
returns c = refusals_rise
