use Rattle.varint_proto.proofs.Framed.{one_framed}
use Rattle.varint_proto.proofs.laws.one_framed.Goals as goal

pub returns : goal.returns
returns c = one_framed
