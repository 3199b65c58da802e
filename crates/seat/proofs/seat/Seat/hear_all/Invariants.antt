use Rattle.futures.specs.Task.{Keeps}
use Rattle.seat.proofs.seat.Seat.hear_all.Given as goal

abbrev pub invariant-loop : goal.invariant-loop
invariant-loop g l = Keeps l.fn.cx l.cx
