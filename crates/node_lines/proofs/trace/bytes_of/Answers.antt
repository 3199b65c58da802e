use Rattle.std.proofs.Common.{◌≡◌, true}
use Rattle.node_texts.proofs.Digits.{decoded_is_pairs, pairs_decode}
use Rattle.node_lines.proofs.trace.bytes_of.Goals as goal

pub returns-then-not-are_pairs-clause-unspelt : goal.returns-then-not-are_pairs-clause-unspelt
returns-then-not-are_pairs-clause-unspelt c = λ none bytes is.
    let pairs : c.are_pairs.result ≡ true = c.are_pairs.ensures.pairs.1 (decoded_is_pairs c.args.word.now bytes is) in
    cc (pairs, c.if-not-are_pairs.true)

pub returns-in-Err-OutOfMemory-clause-memory : goal.returns-in-Err-OutOfMemory-clause-memory
returns-in-Err-OutOfMemory-clause-memory c =
    let pairs = c.are_pairs.ensures.pairs.0 c.if-not-are_pairs.false in
    pairs_decode c.args.word.now pairs.0 pairs.1
