use Rattle.std.specs.Prelude.{take, ℕ, List}
use Rattle.std.specs.Io.KnownBytes.{Appends}
use Rattle.identify_h.specs.Parts.{texts}
use Rattle.peer_texts.specs.Said.{AreAddrLines}
use Rattle.peer_texts.proofs.said.print_addrs.Given as goal

abbrev pub invariant-loop-addr : goal.invariant-loop-addr
invariant-loop-addr g l = (printed : List ℕ) × AreAddrLines l.word (texts (take l.addr-index l.addrs)) printed
    × Appends (g.O.Write.contents l.fn.output) (g.O.Write.contents l.output) printed
