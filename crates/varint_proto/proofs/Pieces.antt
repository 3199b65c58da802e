-- Pieces of an input, joined.
use Rattle.std.proofs.Common.{◌≡◌, ℕ, zero, suc, ◌+◌, ◌<◌, ◌≤◌, List, [], ◌∷◌, ◌++◌, length, take, drop, get_or, Bor, refl, ap, sym, ◌∙◌, arith}
use Rattle.std.specs.List.{flat_map}
use Rattle.std.proofs.lemmas.List.{append-nil, take_more, take-append-drop}
use Rattle.std.proofs.lemmas.List.Concat.{flat_map-append}

abbrev pub joined : List (Bor (List ℕ)) → List ℕ
joined pieces = flat_map (λ piece. piece.now) pieces

pub joined_more : (pieces : List (Bor (List ℕ))) (i : ℕ) (d : Bor (List ℕ)) → i < length pieces → joined (take i pieces) ++ (get_or pieces i d).now ≡ joined (take (i + 1) pieces)
joined_more pieces i d lt =
    let one : joined (get_or pieces i d ∷ []) ≡ (get_or pieces i d).now = append-nil (get_or pieces i d).now in
    sym (ap joined (take_more pieces i d lt) ∙ flat_map-append (λ (p : Bor (List ℕ)). p.now) (take i pieces) (get_or pieces i d ∷ []) ∙ ap (λ (t : List ℕ). joined (take i pieces) ++ t) one)

pub joined_parts : (pieces : List (Bor (List ℕ))) (n : ℕ) → joined (take n pieces) ++ joined (drop n pieces) ≡ joined pieces
joined_parts pieces n = sym (flat_map-append (λ (p : Bor (List ℕ)). p.now) (take n pieces) (drop n pieces)) ∙ ap joined (take-append-drop n pieces)

pub take_past : {A : Type 0} (xs : List A) (n : ℕ) → length xs ≤ n → take n xs ≡ xs
take_past [] zero le = refl
take_past [] (suc n) le = refl
take_past (x ∷ xs) zero le = absurd (omega arith)
take_past {A} (x ∷ xs) (suc n) le = ap (λ (t : List A). x ∷ t) (take_past xs n (omega arith))
