use Rattle.std.proofs.Common.{map, take}
use Rattle.node_words.specs.Words.{AreNamed}
use Rattle.node_words.proofs.listen_options.peers_of.Given as goal

abbrev pub invariant-loop-word : goal.invariant-loop-word
invariant-loop-word l = AreNamed (map (λ word. word.now) (take l.word-index l.fn.words)) l.peers.items
