use Rattle.std.proofs.Common.{List, length}
use Rattle.varint_proto.specs.Message.{Entry, IsMessage}
use Rattle.identify_h.specs.Parts.{texts}
use Rattle.identify_h.proofs.Reading.{AllSoFar}
use Rattle.identify_h.proofs.parts.bodies.Given as goal

abbrev pub invariant-fields : goal.invariant-fields
invariant-fields l = (fields : List Entry) → IsMessage l.bytes fields → AllSoFar l.number l.fields (texts l.list.items) fields

abbrev pub decreases-fields : goal.decreases-fields
decreases-fields l = length l.fields
