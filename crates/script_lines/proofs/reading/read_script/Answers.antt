use Rattle.std.proofs.Common.{arith}
use Rattle.script_lines.proofs.UpTo.{read_all}
use Rattle.script_lines.proofs.reading.read_script.Goals as goal

pub returns-in-Ok-clause-all : goal.returns-in-Ok-clause-all
returns-in-Ok-clause-all g c =
    let limited = rw c.from.ensures at (rw c.take-taken.ensures.inner at (rw c.take-taken.ensures.limit at c.in-Ok.ensures.bytes)) in
    read_all c.args.most (g.I.Read.remaining c.args.input.now) c.read_to_end.new.buf.items (rw c.new-script.ensures.items at limited)
    (omega (arith, c.if-len-from.true, c.len.ensures, c.from.ensures))
