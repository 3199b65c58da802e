use Rattle.std.proofs.Common.{length}
use Rattle.std.specs.Option.{option_copied}
use Rattle.identify_h.proofs.Reading.{LastSoFar}
use Rattle.identify_h.proofs.parts.last_parts.Given as goal

abbrev pub invariant-fields : goal.invariant-fields
invariant-fields l = LastSoFar l.bytes l.fields (option_copied l.key) (option_copied l.observed) (option_copied l.version) (option_copied l.agent)

abbrev pub decreases-fields : goal.decreases-fields
decreases-fields l = length l.fields
