use Rattle.std.proofs.Common.{◌≡◌, map, take}
use Rattle.peer_ids.specs.Base32.{letter_of}
use Rattle.peer_ids.proofs.base32.letters_of.Given as goal

abbrev pub invariant-loop-value : goal.invariant-loop-value
invariant-loop-value l = l.letters.items ≡ map letter_of (take l.value-index l.value-items)
