use Rattle.varint_proto.proofs.OneReading.{one_spelling}
use Rattle.varint_proto.proofs.laws.no_spelling_begins_another.Goals as goal

pub returns : goal.returns
returns c = one_spelling
