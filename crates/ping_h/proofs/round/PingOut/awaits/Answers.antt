use Rattle.std.specs.Cmp.{unsigned_Decides}
use Rattle.std.proofs.lemmas.Slice.Eq.{starts_is}
use Rattle.ping_h.proofs.Prefixes.{begins}
use Rattle.ping_h.proofs.round.PingOut.awaits.Goals as goal

pub returns-clause-next : goal.returns-clause-next
returns-clause-next c =
    begins c.starts_with.result c.awaited.result.now c.args.bytes.now c.args.self.now.awaited
    (starts_is unsigned_Decides c.awaited.result.now c.args.bytes.now c.starts_with.result c.starts_with.ensures.value) c.awaited.ensures
