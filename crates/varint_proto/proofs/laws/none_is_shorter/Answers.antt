use Rattle.varint_proto.proofs.Least.{only_shortest, none_shorter}
use Rattle.varint_proto.proofs.laws.none_is_shorter.Goals as goal

pub returns : goal.returns
returns c = record { multiformats = only_shortest; protobuf = none_shorter }
