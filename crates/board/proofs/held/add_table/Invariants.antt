use Rattle.std.proofs.Common.{◌≡◌, ◌++◌}
use Rattle.board.specs.Handlers.{handlers_of}
use Rattle.board.proofs.held.add_table.Given as goal

abbrev pub invariant-loop-number : goal.invariant-loop-number
invariant-loop-number g l = record {
  added : l.held.items ++ handlers_of l.number-iterator ≡ l.fn.held.items ++ handlers_of l.fn.streams.entries;
}
