use Rattle.std.specs.Prelude.{take, flat_map}
use Rattle.std.specs.Io.KnownBytes.{Appends}
use Rattle.identify_h.specs.Parts.{texts}
use Rattle.peer_texts.specs.Said.{said_line}
use Rattle.peer_texts.proofs.said.print_texts.Given as goal

abbrev pub invariant-loop-bytes : goal.invariant-loop-bytes
invariant-loop-bytes g l = Appends (g.O.Write.contents l.fn.output) (g.O.Write.contents l.output)
    (flat_map (said_line l.word) (texts (take l.bytes-index l.list)))
