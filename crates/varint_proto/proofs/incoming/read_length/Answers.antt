use Rattle.std.proofs.Common.{rules, drop, Ok, Some, arith}
use Rattle.varint_proto.specs.Varint.{ReadsShortest}
use Rattle.varint_proto.proofs.Front.{takes}
use Rattle.varint_proto.proofs.incoming.read_length.Goals as goal

pub returns-in-Ok-Some-2-clause-fault : goal.returns-in-Ok-Some-2-clause-fault
returns-in-Ok-Some-2-clause-fault c =
    let len = c.in-Ok-Some.len in
    let size = c.in-Ok-Some.field-0-0-1 in
    let reads : ReadsShortest c.args.bytes.now (Ok (Some (len, size))) = search rules in
    ((λ e. cc), (len, drop size c.args.bytes.now, takes c.args.bytes.now len size reads, omega arith))
