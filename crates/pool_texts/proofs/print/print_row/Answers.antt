use Rattle.std.proofs.Common.{sym}
use Rattle.std.specs.Io.KnownBytes.{Appends}
use Rattle.pool_texts.proofs.Printed.{on_ok, front_of, row_printed}
use Rattle.pool_texts.proofs.print.print_row.Goals as goal

pub returns : goal.returns
returns g c =
    let held = g.O.Write.contents in
    let front : Appends (held c.args.output.now) (held c.write.new.self) (front_of c.args.begin.now c.args.row.now) =
    rw (sym c.side_word-side.ensures) (rw (sym c.phase_word-phase.ensures) c.in_ok-write.ensures.bytes) in
    record {
      printed = on_ok _ _ c.print_agent.result
          (row_printed (held c.args.output.now) (held c.write.new.self) (held c.print_peer.new.output) (held c.print_counts.new.output) (held c.print_agent.new.output)
          c.args.begin.now c.args.row.now front c.in_ok-print_peer.ensures.printed c.in_ok-print_counts.ensures.printed)
          c.print_agent.ensures.printed;
    }
