use Rattle.varint_proto.proofs.Writing.{written_is_read}
use Rattle.varint_proto.proofs.laws.written_is_read.Goals as goal

pub returns : goal.returns
returns c = written_is_read
