use Rattle.std.proofs.Common.{◌≡◌, ◌≤◌, ◌<◌, ◌==◌, true, ℕ}
use Rattle.std.specs.List.{list_any}
use Rattle.swarm_calls.proofs.swarm.all_here.Given as goal

abbrev pub invariant-loop-caller : goal.invariant-loop-caller
invariant-loop-caller g l = (k : ℕ) → 1 ≤ k → k < l.caller → list_any (λ p. p.number == k) l.passes ≡ true
