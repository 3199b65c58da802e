-- Words that name peers.
use Rattle.std.proofs.Common.{◌<◌, ℕ, zero, suc, List, [], ◌∷◌, ◌++◌, map, length, get_or, Bor, arith}
use Rattle.pool_texts.specs.Lines.{IsPeer}
use Rattle.node_words.specs.Words.{AreNamed}

pub one_more : (words peers : List (List ℕ)) (word peer : List ℕ) → AreNamed words peers → IsPeer word peer
    → AreNamed (words ++ word ∷ []) (peers ++ peer ∷ [])
one_more [] [] word peer named is = (is, tt)
one_more [] (p ∷ peers) word peer named is = absurd named
one_more (w ∷ words) [] word peer named is = absurd named
one_more (w ∷ words) (p ∷ peers) word peer named is = (named.0, one_more words peers word peer named.1 is)

pub named_at : (words : List (Bor (List ℕ))) (peers : List (List ℕ)) (place : ℕ) (other : Bor (List ℕ))
    → place < length words → AreNamed (map (λ (word : Bor (List ℕ)). word.now) words) peers
    → (id : List ℕ) × IsPeer (get_or words place other).now id
named_at [] peers place other inside named = absurd (omega (arith, inside))
named_at (w ∷ words) [] place other inside named = absurd named
named_at (w ∷ words) (p ∷ peers) zero other inside named = (p, named.0)
named_at (w ∷ words) (p ∷ peers) (suc place) other inside named = named_at words peers place other (omega (arith, inside)) named.1
