use Rattle.std.proofs.Common.{◌≡◌, ◌+◌, ◌≤◌, length}
use Rattle.swarm_calls.specs.Ledgers.{AreNew}
use Rattle.swarm_calls.specs.Calls.{newcomers}
use Rattle.swarm_calls.proofs.swarm.deal.Given as goal

abbrev pub invariant-loop-number : goal.invariant-loop-number
invariant-loop-number g l = (l.number + length l.rest.items ≡ 8) × AreNew (l.number + 1) l.rest.items × (l.passes.items ≡ newcomers l.number) × (l.number ≤ l.callers)

abbrev pub decreases-loop-number : goal.decreases-loop-number
decreases-loop-number g l = length l.rest.items
