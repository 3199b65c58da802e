use Rattle.ms_select.proofs.Rows.{worked_rows}
use Rattle.ms_select.proofs.laws.worked_rows.Goals as goal

pub returns : goal.returns
returns c = worked_rows
