use Rattle.std.proofs.Common.{◌≡◌, ◌++◌, map, take, drop}
use Rattle.pool_state.specs.Added.{row_after}
use Rattle.pool_state.proofs.listing.change_one.Given as goal

abbrev pub invariant-loop-row : goal.invariant-loop-row
invariant-loop-row l = l.rows ≡ map (row_after l.call l.reply) (take l.row-index l.initial.rows) ++ drop l.row-index l.initial.rows
