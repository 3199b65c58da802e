use Rattle.futures.specs.Task.{Keeps}
use Rattle.driver.proofs.driver.Driver.admit.Given as goal

abbrev pub invariant-loop : goal.invariant-loop
invariant-loop g l = Keeps l.fn.cx l.cx
