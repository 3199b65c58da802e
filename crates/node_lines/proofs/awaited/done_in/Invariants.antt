use Rattle.std.proofs.Common.{◌≡◌}
use Rattle.std.specs.Prelude.{take}
use Rattle.node_lines.specs.Awaiting.{done_in}
use Rattle.node_lines.proofs.awaited.done_in.Given as goal

abbrev pub invariant-loop-row : goal.invariant-loop-row
invariant-loop-row l = l.done ≡ done_in (take l.row-index l.rows) l.index
