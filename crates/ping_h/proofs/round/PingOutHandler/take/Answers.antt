use Rattle.std.proofs.Common.{length, ap, refl, arith, length-drop}
use Rattle.ping_h.specs.Rounds.{Round}
use Rattle.ping_h.proofs.round.PingOutHandler.take.Goals as goal

pub invariant_of-self-2 : goal.invariant_of-self-2
invariant_of-self-2 c =
    let within = c.if-not-awaits.ensures.within refl in
    let left = ap (λ (r : Round). length r.awaited) c.self.view_is in
    let size = length-drop c.self.inside.echoed c.self.inside.ping in
    (c.self.invariant.0, omega (arith, within, left, size))
