use Rattle.varint_proto.proofs.Rows.{worked_rows}
use Rattle.varint_proto.proofs.laws.worked_rows.Goals as goal

pub returns : goal.returns
returns c = worked_rows
