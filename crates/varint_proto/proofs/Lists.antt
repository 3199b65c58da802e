-- Two joined lists, cut at one place.
use Rattle.std.proofs.Common.{◌≡◌, ℕ, List, [], ◌∷◌, ◌++◌, ◌+◌, length, refl, ap, ◌∙◌, arith}
use Rattle.std.proofs.lemmas.List.{append-nil, length-append}

-- Fronts of one length are one.
pub same_parts : (a b x y : List ℕ) → length a ≡ length b → a ++ x ≡ b ++ y → (a ≡ b) × (x ≡ y)
same_parts [] [] x y l e = (refl, e)
same_parts [] (n ∷ b) x y l e = absurd (omega arith)
same_parts (m ∷ a) [] x y l e = absurd (omega arith)
same_parts (m ∷ a) (n ∷ b) x y l e =
    let tails : a ++ x ≡ b ++ y = cc in
    let rest = same_parts a b x y (omega arith) tails in
    (cc, rest.1)

-- What is counted but for the bytes behind a front is that front.
pub used_front : (first rest front after : List ℕ) → first ++ rest ≡ front ++ after → length first + length after ≡ length (first ++ rest)
    → first ≡ front
used_front first rest front after e sum =
    let whole = ap length e ∙ length-append front after in
    let same : length first ≡ length front = omega arith in
    (same_parts first front rest after same e).0

-- Where a front has all of the length, nothing stands behind it.
pub no_rest : (first rest : List ℕ) → length first ≡ length (first ++ rest) → first ++ rest ≡ first
no_rest first [] all = append-nil first
no_rest first (b ∷ rest) all = absurd (omega (arith, length-append first (b ∷ rest)))
