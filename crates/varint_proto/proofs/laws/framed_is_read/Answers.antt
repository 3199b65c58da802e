use Rattle.varint_proto.proofs.Framed.{framed_is_read}
use Rattle.varint_proto.proofs.laws.framed_is_read.Goals as goal

pub returns : goal.returns
returns c = framed_is_read
