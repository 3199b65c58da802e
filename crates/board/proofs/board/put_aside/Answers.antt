use Rattle.std.proofs.Common.{None}
use Rattle.std.specs.Ordering.{nat_cmp}
use Rattle.std.specs.BTreeMap as tree
use Rattle.board.proofs.Tables.{elsewhere}
use Rattle.board.proofs.board.put_aside.Goals as goal

pub returns-clause-elsewhere : goal.returns-clause-elsewhere
returns-clause-elsewhere g c = elsewhere (tree.get nat_cmp c.args.streams.now) _ c.args.number None c.remove.ensures.updates.0
