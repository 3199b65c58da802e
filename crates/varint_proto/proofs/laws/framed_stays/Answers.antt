use Rattle.varint_proto.proofs.Framed.{framed_stays}
use Rattle.varint_proto.proofs.laws.framed_stays.Goals as goal

pub returns : goal.returns
returns c = framed_stays
