use Rattle.std.proofs.Common.{◌≡◌, true, refl}
use Rattle.node_texts.proofs.Digits.{pairs_decode, decoded_is_pairs}
use Rattle.node_texts.proofs.peer.key_of.Goals as goal

pub returns-then-not-are_pairs-clause-not_hex : goal.returns-then-not-are_pairs-clause-not_hex
returns-then-not-are_pairs-clause-not_hex c = (
  λ e bytes read. let pairs : c.are_pairs.result ≡ true = c.are_pairs.ensures.pairs.1 (decoded_is_pairs c.args.hex.now bytes read) in absurd (cc (pairs, c.if-not-are_pairs.true)),
  λ none. refl,
)

pub returns-in_default-clause-not_hex : goal.returns-in_default-clause-not_hex
returns-in_default-clause-not_hex c =
    let pairs = c.are_pairs.ensures.pairs.0 c.if-not-are_pairs.false in
    let read = pairs_decode c.args.hex.now pairs.0 pairs.1 in
    (λ e. absurd cc, λ none. absurd (none read.0 read.1))

pub returns-in_default-clause-memory : goal.returns-in_default-clause-memory
returns-in_default-clause-memory c = λ e.
    let pairs = c.are_pairs.ensures.pairs.0 c.if-not-are_pairs.false in
    pairs_decode c.args.hex.now pairs.0 pairs.1
