use Rattle.yamux_frames.proofs.Rows.{worked_rows}
use Rattle.yamux_frames.proofs.laws.worked_rows.Goals as goal

pub returns : goal.returns
returns c = worked_rows
