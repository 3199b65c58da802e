use Rattle.std.proofs.Common.{◌≡◌, ◌++◌, All, length}
use mathlib.Core.List.{IsPrefix}
use Rattle.swarm_calls.specs.History.{mine}
use Rattle.swarm_calls.proofs.inside.Inside.close.Given as goal

abbrev pub invariant-loop-pass : goal.invariant-loop-pass
invariant-loop-pass g l = (l.inside ≡ l.fn.self) × All (λ p. IsPrefix p.seen l.fn.self) l.yielded × All (λ p. mine p.number l.fn.self ≡ mine p.number p.seen) l.yielded
    × (l.yielded ++ l.pass-iterator.rest.items ≡ l.fn.passes.items) × (l.pass-iterator.rest.len ≡ length l.pass-iterator.rest.items)
