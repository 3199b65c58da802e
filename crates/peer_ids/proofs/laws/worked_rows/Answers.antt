use Rattle.peer_ids.proofs.Rows.{worked_rows}
use Rattle.peer_ids.proofs.laws.worked_rows.Goals as goal

pub returns : goal.returns
returns c = worked_rows
