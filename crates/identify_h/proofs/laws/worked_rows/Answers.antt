use Rattle.identify_h.proofs.Rows.{worked_rows}
use Rattle.identify_h.proofs.laws.worked_rows.Goals as goal

pub returns : goal.returns
returns c = worked_rows
