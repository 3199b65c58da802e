use Rattle.std.proofs.Common.{◌≡◌, ◌≤◌, ◌++◌, ◌-◌, ℕ, List, Some, length, take}
use Rattle.ms_select.specs.declared.answer.Answer.TheVariants.{Going}
use Rattle.ms_select.specs.Sides.{Stands}
use Rattle.ms_select.proofs.side.Side.feed.Given as goal

abbrev pub invariant-loop-used : goal.invariant-loop-used
invariant-loop-used l = record {
  within : l.used ≤ length l.piece;
  role : l.self.role ≡ l.fn.self.role;
  names : l.self.names ≡ l.fn.self.names;
  going : l.self.answer ≡ Some Going;
  stands : (input : List ℕ) (used : ℕ) (taken : List ℕ) → Stands l.fn.self input used taken
      → Stands l.self (input ++ take l.used l.piece) (length (input ++ take l.used l.piece)) taken;
}

abbrev pub decreases-loop-used : goal.decreases-loop-used
decreases-loop-used l = length l.piece - l.used
