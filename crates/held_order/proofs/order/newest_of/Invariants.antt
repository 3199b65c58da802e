use Rattle.std.proofs.Common.{◌≤◌, length, drop}
use Rattle.std.specs.List.{AllByRecursion}
use Rattle.held_order.proofs.Newest.{IsOther}
use Rattle.held_order.proofs.order.newest_of.Given as goal

-- behind this place the stream has none
abbrev pub invariant-loop-at : goal.invariant-loop-at
invariant-loop-at l = record {
  within : l.at ≤ length l.fn.oldest;
  others : AllByRecursion (IsOther l.fn.number) (drop l.at l.fn.oldest);
}

abbrev pub decreases-loop-at : goal.decreases-loop-at
decreases-loop-at l = l.at
