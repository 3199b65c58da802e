use Rattle.std.proofs.Common.{ℕ, List, length}
use Rattle.std.specs.Option.{option_copied}
use Rattle.multiaddr.specs.Text.{tail_of}
use Rattle.multiaddr.proofs.TextParts.{SoFar}
use Rattle.multiaddr.proofs.text.check.Given as goal

abbrev pub invariant-loop-left : goal.invariant-loop-left
invariant-loop-left l = (bytes : List ℕ) × SoFar l.text bytes (option_copied l.left)

abbrev pub decreases-loop-left : goal.decreases-loop-left
decreases-loop-left l = length (tail_of (option_copied l.left))
