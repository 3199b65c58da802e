-- An id has one text, and a text is that of one id.
use Rattle.std.proofs.Common.{◌≡◌, ℕ, zero, suc, get_or, ◌+◌, ◌*◌, ◌/◌, ◌%◌, ◌<◌, List, [], ◌∷◌, ◌++◌, length, map, replicate, refl, sym, ap, ◌∙◌, arith}
use Rattle.std.specs.List.{flat_map, AllByRecursion}
use Rattle.std.proofs.lemmas.List.{append-nil, length-append, length-replicate}
use Rattle.std.proofs.lemmas.List.Elements.{recursion_from_All, All-head, All-tail}
use Rattle.std.specs.Prelude.{All}
use Rattle.std.proofs.lemmas.Bool.Decides.{nat_tests}
use Rattle.peer_ids.specs.Base32.{bits_of, letter_of, in_fives, filled_up, id_text, AreFives, IsIdText}
use Rattle.peer_ids.proofs.OneText.{chunks_once, length-chunks, one_values, one_bytes}

-- so many zeros fill up the last value
zeros_once : (v w bytes : List ℕ) (p : AreFives v bytes) (q : AreFives w bytes) → p.zeros ≡ q.zeros
zeros_once v w bytes p q =
    let sizes_v : 5 * length v ≡ length (flat_map (bits_of 8) bytes) + p.zeros = omega (arith, length-chunks 5 v, ap length p.bits, length-append (flat_map (bits_of 8) bytes) (replicate p.zeros 0), length-replicate {A = ℕ}) in
    let sizes_w : 5 * length w ≡ length (flat_map (bits_of 8) bytes) + q.zeros = omega (arith, length-chunks 5 w, ap length q.bits, length-append (flat_map (bits_of 8) bytes) (replicate q.zeros 0), length-replicate {A = ℕ}) in
    omega (arith, sizes_v, sizes_w, p.fewer, q.fewer)

values_once : (v w bytes : List ℕ) → AreFives v bytes → AreFives w bytes → v ≡ w
values_once v w bytes p q =
    let same : flat_map (bits_of 5) v ≡ flat_map (bits_of 5) w = p.bits ∙ ap (λ (n : ℕ). flat_map (bits_of 8) bytes ++ replicate n 0) (zeros_once v w bytes p q) ∙ sym q.bits in
    (chunks_once 5 v w [] [] (recursion_from_All (λ x. x < 32) v p.five) (recursion_from_All (λ x. x < 32) w q.five) (omega arith) (omega arith) (append-nil (flat_map (bits_of 5) v) ∙ same ∙ sym (append-nil (flat_map (bits_of 5) w)))).0

pub text_once : (id text other : List ℕ) → IsIdText text id → IsIdText other id → text ≡ other
text_once id text other p q =
    let values : p.1.0 ≡ q.1.0 = values_once p.1.0 q.1.0 (1 ∷ 114 ∷ id) p.1.1 q.1.1 in
    p.2 ∙ ap (λ (t : List ℕ). 98 ∷ t) (p.1.2 ∙ ap (map letter_of) values ∙ sym q.1.2) ∙ sym q.2

tail_once : (a b : List ℕ) → 98 ∷ a ≡ 98 ∷ b → a ≡ b
tail_once a b e = cc

ids_once : (a b : List ℕ) → 1 ∷ 114 ∷ a ≡ 1 ∷ 114 ∷ b → a ≡ b
ids_once a b e = cc

pub id_once : (text id other : List ℕ) → IsIdText text id → IsIdText text other → id ≡ other
id_once text id other p q =
    let letters : p.0 ≡ q.0 = tail_once p.0 q.0 (sym p.2 ∙ q.2) in
    let values : p.1.0 ≡ q.1.0 = one_values p.0 p.1.0 q.1.0 (p.1.1.five, p.1.2) (q.1.1.five, letters ∙ q.1.2) in
    ids_once id other (one_bytes q.1.0 (1 ∷ 114 ∷ id) (1 ∷ 114 ∷ other) (rw values at p.1.1) q.1.1)

-- ---- the text as a function

five_bits : (x : ℕ) → bits_of 5 x ≡ x / 2 / 2 / 2 / 2 % 2 ∷ x / 2 / 2 / 2 % 2 ∷ x / 2 / 2 % 2 ∷ x / 2 % 2 ∷ x % 2 ∷ []
unfolding bits_of
five_bits x = refl

five_is : (x : ℕ) → x < 32 → 16 * (x / 2 / 2 / 2 / 2 % 2) + 8 * (x / 2 / 2 / 2 % 2) + 4 * (x / 2 / 2 % 2) + 2 * (x / 2 % 2) + x % 2 ≡ x
five_is x lt = omega arith

in_fives_again : (xs : List ℕ) → AllByRecursion (λ x. x < 32) xs → in_fives (flat_map (bits_of 5) xs) ≡ xs
unfolding in_fives
in_fives_again [] h = refl
in_fives_again (x ∷ xs) h = rw (five_bits x, in_fives_again xs h.1, five_is x h.0) refl

values_are : (values bytes : List ℕ) → AreFives values bytes → values ≡ in_fives (filled_up (flat_map (bits_of 8) bytes))
values_are values bytes p =
    let bits : List ℕ = flat_map (bits_of 8) bytes in
    let size : 5 * length values ≡ length bits + p.zeros = omega (arith, length-chunks 5 values, ap length p.bits, length-append bits (replicate p.zeros 0), length-replicate {A = ℕ}) in
    let zeros : p.zeros ≡ 4 * length bits % 5 = omega (arith, size, p.fewer) in
    sym (in_fives_again values (recursion_from_All (λ x. x < 32) values p.five)) ∙ ap in_fives (p.bits ∙ ap (λ (n : ℕ). bits ++ replicate n 0) zeros)

pub text_is : (text id : List ℕ) → IsIdText text id → text ≡ id_text id
text_is text id p = p.2 ∙ ap (λ (t : List ℕ). 98 ∷ t) (p.1.2 ∙ ap (map letter_of) (values_are p.1.0 (1 ∷ 114 ∷ id) p.1.1))

-- ---- letters are ASCII

letter_below : (value : ℕ) → value < 32 → letter_of value < 128
letter_below value lt = grind (arith, nat_tests)

pub letters_ascii : (values : List ℕ) → All (λ v. v < 32) values → (i : ℕ) → get_or (map letter_of values) i 0 < 128
letters_ascii [] h i = omega arith
letters_ascii (v ∷ values) h zero = letter_below v (All-head (λ v. v < 32) v values h)
letters_ascii (v ∷ values) h (suc i) = letters_ascii values (All-tail (λ v. v < 32) v values h) i
