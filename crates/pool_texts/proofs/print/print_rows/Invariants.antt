use Rattle.std.specs.Prelude.{take, flat_map}
use Rattle.std.specs.Io.KnownBytes.{Appends}
use Rattle.pool_texts.specs.Printed.{line, row_text}
use Rattle.pool_texts.proofs.print.print_rows.Given as goal

abbrev pub invariant-loop-row : goal.invariant-loop-row
invariant-loop-row g l = Appends (g.O.Write.contents l.fn.output) (g.O.Write.contents l.output)
    (flat_map (λ row. line l.begin (row_text row)) (take l.row-index l.rows))
