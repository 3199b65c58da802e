use Rattle.std.proofs.Common.{sym}
use Rattle.routing.proofs.Delivering.{never_idle}
use Rattle.routing.proofs.delivery.deliver.Goals as goal

pub returns-then-is_idle-clause-delivers : goal.returns-then-is_idle-clause-delivers
returns-then-is_idle-clause-delivers g c = λ role past fed sent so_far at stands going awaits known e.
    absurd (never_idle g.P.H.Handler.steps role past fed sent c.args.session.now c.args.stream.now so_far at stands awaits (sym c.if-is_idle.ensures))
