use Rattle.pool_state.proofs.WorkedRows.{worked_rows}
use Rattle.pool_state.proofs.laws.worked_rows.Goals as goal

pub returns : goal.returns
returns c = worked_rows
