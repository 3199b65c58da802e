use Rattle.std.specs.Prelude.{take, flat_map}
use Rattle.std.specs.Io.KnownBytes.{Appends}
use Rattle.peer_texts.specs.Said.{hex_of}
use Rattle.peer_texts.proofs.said.print_hex.Given as goal

abbrev pub invariant-loop-byte : goal.invariant-loop-byte
invariant-loop-byte g l = Appends (g.O.Write.contents l.fn.output) (g.O.Write.contents l.output)
    (flat_map hex_of (take l.byte-index l.bytes))
