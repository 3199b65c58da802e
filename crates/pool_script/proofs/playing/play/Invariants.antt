use Rattle.std.proofs.Common.{List, []}
use Rattle.pool_state.specs.At.{Stands}
use Rattle.pool_state.specs.History.{Entry}
use Rattle.script_lines.proofs.Lefts.{left_len}
use Rattle.script_lines.proofs.Standing.{Standing}
use Rattle.pool_script.specs.Played.{PlaysLine}
use Rattle.pool_script.proofs.playing.play.Given as goal

abbrev pub invariant-loop-rest : goal.invariant-loop-rest
invariant-loop-rest g l =
    Standing (PlaysLine l.fn.config) [] l.script l.rest (λ (history : List Entry). Stands l.fn.config history l.pool)
    (g.O.Write.contents l.fn.output) (g.O.Write.contents l.output) l.number

abbrev pub decreases-loop-rest : goal.decreases-loop-rest
decreases-loop-rest g l = left_len l.rest
