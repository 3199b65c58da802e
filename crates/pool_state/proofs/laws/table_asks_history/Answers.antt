use Rattle.pool_state.proofs.Asked.{shows_history}
use Rattle.pool_state.proofs.laws.table_asks_history.Goals as goal

pub returns : goal.returns
returns c = shows_history
