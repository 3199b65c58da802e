use Rattle.varint_proto.proofs.Framed.{framed_ends}
use Rattle.varint_proto.proofs.laws.framed_ends.Goals as goal

pub returns : goal.returns
returns c = framed_ends
