use Rattle.multiaddr.proofs.Rows.{worked_rows}
use Rattle.multiaddr.proofs.laws.worked_rows.Goals as goal

pub returns : goal.returns
returns c = worked_rows
