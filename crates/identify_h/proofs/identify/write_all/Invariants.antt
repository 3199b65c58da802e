use Rattle.std.proofs.Common.{◌≡◌, ◌++◌}
use Rattle.std.specs.Prelude.{take}
use Rattle.std.specs.List.{flat_map}
use Rattle.varint_proto.specs.Message.{shortest_field}
use Rattle.identify_h.specs.Messages.{bodies_of}
use Rattle.identify_h.specs.Parts.{texts}
use Rattle.identify_h.proofs.identify.write_all.Given as goal

abbrev pub invariant-loop-bytes : goal.invariant-loop-bytes
invariant-loop-bytes l =
    l.body.items ≡ l.fn.body.items ++ flat_map shortest_field (bodies_of l.number (texts (take l.bytes-index l.list)))
