use Rattle.upgrade.proofs.Rows.{worked_rows}
use Rattle.upgrade.proofs.laws.worked_rows.Goals as goal

pub returns : goal.returns
returns c = worked_rows
