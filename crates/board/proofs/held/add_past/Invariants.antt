use Rattle.std.proofs.Common.{◌≡◌, ◌++◌}
use Rattle.board.specs.Handlers.{handlers_past}
use Rattle.board.proofs.held.add_past.Given as goal

abbrev pub invariant-loop-earlier : goal.invariant-loop-earlier
invariant-loop-earlier g l = record {
  added : l.held.items ++ handlers_past l.earlier-iterator.rest.items ≡ l.fn.held.items ++ handlers_past l.fn.past.items;
}
