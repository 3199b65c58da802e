use Rattle.std.proofs.Common.{◌≡◌, ◌^◌, ◌-◌, length, min}
use Rattle.std.specs.Prelude.{take}
use Rattle.std.specs.List.{flat_map}
use Rattle.varint_proto.specs.Message.{shortest_field}
use Rattle.identify_h.specs.Messages.{bodies_of}
use Rattle.identify_h.specs.Parts.{texts}
use Rattle.identify_h.proofs.identify.len_of_all.Given as goal

abbrev pub invariant-loop-bytes : goal.invariant-loop-bytes
invariant-loop-bytes l =
    l.len ≡ min (length (flat_map shortest_field (bodies_of l.number (texts (take l.bytes-index l.list))))) (2 ^ 64 - 1)
