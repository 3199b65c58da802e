use Rattle.std.proofs.Common.{◌≡◌, ℕ, ◌+◌, List, [], ◌∷◌, ◌++◌, map, take, get_or, ap, sym, subst, ◌∙◌, not, Bor}
use Rattle.std.proofs.lemmas.List.{take_more, map-append}
use Rattle.pool_texts.specs.Lines.{IsPeer}
use Rattle.node_words.proofs.Named.{one_more, named_at}
use Rattle.node_words.specs.Words.{AreNamed}
use Rattle.node_words.proofs.listen_options.peers_of.Goals as goal

pub loop-word-preserved : goal.loop-word-preserved
loop-word-preserved c =
    let words = c.args.words.now in
    let at = c.loop-word.word-index in
    let word : Bor (List ℕ) = get_or words at (record { ref_ptr = (0, 0); now = [] }) in
    let pushed : c.push.new.self.items ≡ c.loop-word.peers.items ++ c.in-Some.peer ∷ [] =
    rw (c.is_err.ensures.negation ∙ ap not c.if-is_err.false) at c.push.ensures.items in
    let is : IsPeer word.now c.in-Some.peer = rw c.in-Some.is at c.peer_of.ensures.named in
    let more : map (λ (w : Bor (List ℕ)). w.now) (take (at + 1) words) ≡ map (λ (w : Bor (List ℕ)). w.now) (take at words) ++ word.now ∷ [] =
    ap (map (λ (w : Bor (List ℕ)). w.now)) (take_more words at (record { ref_ptr = (0, 0); now = [] }) c.loop-word-test.true) ∙ map-append (λ (w : Bor (List ℕ)). w.now) (take at words) (word ∷ []) in
    let named = one_more (map (λ (w : Bor (List ℕ)). w.now) (take at words)) c.loop-word.peers.items word.now c.in-Some.peer c.loop-word.invariant is in
    subst (λ (peers : List (List ℕ)). AreNamed (map (λ (w : Bor (List ℕ)). w.now) (take (at + 1) words)) peers) (sym pushed)
    (subst (λ (ws : List (List ℕ)). AreNamed ws (c.loop-word.peers.items ++ c.in-Some.peer ∷ [])) (sym more) named)

pub returns-in_default-clause-no_peer : goal.returns-in_default-clause-no_peer
returns-in_default-clause-no_peer c = λ is peers named.
    let at = named_at c.args.words.now peers c.loop-word.word-index (record { ref_ptr = (0, 0); now = [] }) c.loop-word-test.true named in
    c.in_default.not-Some at.0 (c.peer_of.ensures.only at.0 at.1)
