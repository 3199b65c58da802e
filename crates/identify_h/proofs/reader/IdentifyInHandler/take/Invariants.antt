use Rattle.std.proofs.Common.{◌≡◌, ◌≤◌, ◌+◌, ◌-◌, ◌*◌, ◌++◌, ℕ, List, None, false, length, take}
use Rattle.identify_h.specs.Reading.{Reader, Stands, Whenever}
use Rattle.identify_h.specs.Room.{waiting}
use Rattle.identify_h.proofs.reader.IdentifyInHandler.take.Given as goal

pub record Taken (bytes : List ℕ) (at : ℕ) (old new : Reader) : Type 0 where
  pub within : at ≤ length bytes
  pub going : new.failed ≡ false
  pub message : new.message ≡ None
  pub peer : new.peer ≡ old.peer
  pub stands : Whenever old (λ input. Stands (input ++ take at bytes) new)

abbrev pub invariant-loop-at : goal.invariant-loop-at
invariant-loop-at l = Taken l.bytes l.at l.fn.self l.self

abbrev pub decreases-loop-at : goal.decreases-loop-at
decreases-loop-at l = 2 * (length l.bytes - l.at) + waiting l.self.next
