use Rattle.std.proofs.Common.{◌≡◌, ◌++◌, length, reverse}
use Rattle.held_order.specs.Orders.{arranged}
use Rattle.held_order.proofs.order.HeldOrder.arrange.Given as goal

-- What is arranged, and what is left to arrange, is all.
abbrev pub invariant-loop-number : goal.invariant-loop-number
invariant-loop-number g l = record {
  all : arranged (reverse l.fn.self) l.fn.held.items ≡ l.all.items ++ arranged (reverse l.newest.items) l.rest.items;
}

abbrev pub decreases-loop-number : goal.decreases-loop-number
decreases-loop-number g l = length l.newest.items
