use Rattle.varint_proto.proofs.Shortest.{spells_shortest, spells_wide}
use Rattle.varint_proto.proofs.laws.shortest_spells.Goals as goal

pub returns : goal.returns
returns c = record { multiformats = spells_shortest; protobuf = spells_wide }
