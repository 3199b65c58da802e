use Rattle.std.proofs.Common.{◌∷◌, ◌++◌}
use Rattle.std.specs.Prelude.{take, flat_map}
use Rattle.std.specs.Io.KnownBytes.{Appends}
use Rattle.peer_ids.specs.Base32.{id_text}
use Rattle.pool_texts.specs.Printed.{line}
use Rattle.pool_texts.proofs.print.print_peers.Given as goal

abbrev pub invariant-loop-peer : goal.invariant-loop-peer
invariant-loop-peer g l = Appends (g.O.Write.contents l.fn.output) (g.O.Write.contents l.output)
    (flat_map (λ peer. line l.begin (l.word ++ 32 ∷ id_text peer)) (take l.peer-index l.peers))
