use Rattle.plaintext_x.proofs.Rows.{worked_rows}
use Rattle.plaintext_x.proofs.laws.worked_rows.Goals as goal

pub returns : goal.returns
returns c = worked_rows
