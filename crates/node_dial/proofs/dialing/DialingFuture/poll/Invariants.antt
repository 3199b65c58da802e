use Rattle.futures.specs.Task.{Keeps}
use Rattle.node_dial.proofs.dialing.DialingFuture.poll.Given as goal

abbrev pub invariant-loop : goal.invariant-loop
invariant-loop g l = Keeps l.fn.cx l.cx
