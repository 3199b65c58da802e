use Rattle.varint_proto.proofs.Framed.{some_framed}
use Rattle.varint_proto.proofs.laws.some_framed.Goals as goal

pub returns : goal.returns
returns c = some_framed
