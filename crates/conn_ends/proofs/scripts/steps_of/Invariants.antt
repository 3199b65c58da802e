use Rattle.std.specs.List.{All}
use Rattle.conn_link.specs.Piping.{CanGo}
use Rattle.conn_ends.proofs.scripts.steps_of.Given as goal

abbrev pub invariant-loop-code : goal.invariant-loop-code
invariant-loop-code l = All CanGo l.steps.items
