use Rattle.yamux_session.proofs.Rows.{worked_rows}
use Rattle.yamux_session.proofs.laws.worked_rows.Goals as goal

pub returns : goal.returns
returns c = worked_rows
