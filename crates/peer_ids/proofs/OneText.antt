-- A text has at most one reading.
use Rattle.std.proofs.Common.{◌≡◌, ◌≢◌, inl, inr, subst, Result, Ok, Err, ℕ, zero, suc, ◌+◌, ◌*◌, ◌/◌, ◌%◌, ◌^◌, ◌<◌, ◌≤◌, List, [], ◌∷◌, ◌++◌, length, map, replicate, refl, sym, ap, ◌∙◌, arith, append_assoc}
use Rattle.std.proofs.Math.Nat.{pow-suc}
use Rattle.std.specs.Prelude.{All, IfOk, IfErr}
use Rattle.std.specs.List.{flat_map, AllByRecursion}
use Rattle.std.proofs.lemmas.List.{length-append, length-replicate, length-map}
use Rattle.std.proofs.lemmas.List.Elements.{recursion_from_All}
use Rattle.std.proofs.lemmas.Nat.{pow_pos}
use Rattle.std.proofs.lemmas.Bool.{cases_lt}
use Rattle.peer_ids.specs.Base32.{bits_of, letter_of, AreFives, AreLetters, IsLetter, IsRegrouped, MakeBytes}
use Rattle.peer_ids.specs.PeerId.{IsMultihash}
use Rattle.peer_ids.specs.declared.fault.IdFault.{IdFault}
use Rattle.peer_ids.specs.declared.fault.IdFault.TheVariants.{NotB, NotBase32, BadLength, TrailingBits, BadPrefix, BadHash}
use Rattle.peer_ids.specs.ReadsText.{IsCount, BytesFault, ReadsId}
use Rattle.peer_ids.proofs.Bits.{bits-zero}
use Rattle.peer_ids.proofs.Regroup.{values_of, all_letters}

append_once : (a b x y : List ℕ) → length a ≡ length b → a ++ x ≡ b ++ y → (a ≡ b) × (x ≡ y)
append_once [] [] x y l e = (refl, e)
append_once [] (m ∷ b) x y l e = absurd (omega arith)
append_once (k ∷ a) [] x y l e = absurd (omega arith)
append_once (k ∷ a) (m ∷ b) x y l e =
    let tails : a ++ x ≡ b ++ y = cc in
    let heads : k ≡ m = cc in
    let rest = append_once a b x y (omega arith) tails in
    (ap (λ (h : ℕ). h ∷ a) heads ∙ ap (λ (t : List ℕ). m ∷ t) rest.0, rest.1)

pub length-bits_of : (k n : ℕ) → length (bits_of k n) ≡ k
unfolding bits_of
length-bits_of zero n = refl
length-bits_of (suc k) n = omega (arith, length-append (bits_of k (n / 2)) (n % 2 ∷ []), length-bits_of k (n / 2))

bits_once : (k m n : ℕ) → m < 2 ^ k → n < 2 ^ k → bits_of k m ≡ bits_of k n → m ≡ n
unfolding bits_of
bits_once zero m n p q e = omega arith
bits_once (suc k) m n p q e =
    let lengths : length (bits_of k (m / 2)) ≡ length (bits_of k (n / 2)) = length-bits_of k (m / 2) ∙ sym (length-bits_of k (n / 2)) in
    let parts = append_once (bits_of k (m / 2)) (bits_of k (n / 2)) (m % 2 ∷ []) (n % 2 ∷ []) lengths e in
    let high : m / 2 ≡ n / 2 = bits_once k (m / 2) (n / 2) (omega (arith, p, pow-suc 2 k)) (omega (arith, q, pow-suc 2 k)) parts.0 in
    let ends : m % 2 ∷ [] ≡ n % 2 ∷ [] = parts.1 in
    let low : m % 2 ≡ n % 2 = cc in
    omega (arith, high, low)

-- Values of one width, and fewer bits than one more, are known by their bits.
pub chunks_once : (k : ℕ) (xs ys a b : List ℕ) → AllByRecursion (λ x. x < 2 ^ k) xs → AllByRecursion (λ y. y < 2 ^ k) ys → length a < k → length b < k → flat_map (bits_of k) xs ++ a ≡ flat_map (bits_of k) ys ++ b → (xs ≡ ys) × (a ≡ b)
chunks_once k [] [] a b p q s t e = (refl, e)
chunks_once k [] (y ∷ ys) a b p q s t e =
    absurd (omega (arith, ap length e, length-append (bits_of k y ++ flat_map (bits_of k) ys) b, length-append (bits_of k y) (flat_map (bits_of k) ys), length-bits_of k y))
chunks_once k (x ∷ xs) [] a b p q s t e =
    absurd (omega (arith, ap length e, length-append (bits_of k x ++ flat_map (bits_of k) xs) a, length-append (bits_of k x) (flat_map (bits_of k) xs), length-bits_of k x))
chunks_once k (x ∷ xs) (y ∷ ys) a b p q s t e =
    let joined : bits_of k x ++ (flat_map (bits_of k) xs ++ a) ≡ bits_of k y ++ (flat_map (bits_of k) ys ++ b) =
    sym (append_assoc (bits_of k x) (flat_map (bits_of k) xs) a) ∙ e ∙ append_assoc (bits_of k y) (flat_map (bits_of k) ys) b in
    let parts = append_once (bits_of k x) (bits_of k y) (flat_map (bits_of k) xs ++ a) (flat_map (bits_of k) ys ++ b) (length-bits_of k x ∙ sym (length-bits_of k y)) joined in
    let heads : x ≡ y = bits_once k x y p.0 q.0 parts.0 in
    let rest = chunks_once k xs ys a b p.1 q.1 s t parts.1 in
    (ap (λ (h : ℕ). h ∷ xs) heads ∙ ap (λ (l : List ℕ). y ∷ l) rest.0, rest.1)

-- ---- what values of five bits spell

pub one_bytes : (values a b : List ℕ) → AreFives values a → AreFives values b → a ≡ b
one_bytes values a b p q =
    (chunks_once 8 a b (replicate p.zeros 0) (replicate q.zeros 0) (recursion_from_All (λ n. n < 256) a p.eight) (recursion_from_All (λ n. n < 256) b q.eight)
    (omega (arith, p.fewer, length-replicate {A = ℕ})) (omega (arith, q.fewer, length-replicate {A = ℕ})) (sym p.bits ∙ q.bits)).0

pub left_is_zero : (values bytes ys : List ℕ) (held count : ℕ) → count < 8 → IsRegrouped 5 8 values ys held count → AreFives values bytes → held ≡ 0
left_is_zero values bytes ys held count lt h p =
    let same = chunks_once 8 ys bytes (bits_of count held) (replicate p.zeros 0) (recursion_from_All (λ n. n < 256) ys h.fit) (recursion_from_All (λ n. n < 256) bytes p.eight)
    (omega (arith, lt, length-bits_of count held)) (omega (arith, p.fewer, length-replicate {A = ℕ})) (sym h.bits ∙ p.bits) in
    let zeros : count ≡ p.zeros = sym (length-bits_of count held) ∙ ap length same.1 ∙ length-replicate p.zeros 0 in
    bits_once count held 0 h.below (pow_pos count) (same.1 ∙ ap (λ (n : ℕ). replicate n 0) (sym zeros) ∙ sym (bits-zero count))

pub length-chunks : (k : ℕ) (xs : List ℕ) → length (flat_map (bits_of k) xs) ≡ k * length xs
length-chunks k [] = omega arith
length-chunks k (x ∷ xs) = rw (length-append (bits_of k x) (flat_map (bits_of k) xs), length-bits_of k x, length-chunks k xs) (grind arith)

pub sizes : (values ys : List ℕ) (held count : ℕ) → IsRegrouped 5 8 values ys held count → 5 * length values ≡ 8 * length ys + count
sizes values ys held count h =
    omega (arith, length-chunks 5 values, length-chunks 8 ys, ap length h.bits, length-append (flat_map (bits_of 8) ys) (bits_of count held), length-bits_of count held)

pub fives_of : (values ys : List ℕ) (count : ℕ) → count < 5 → All (λ v. v < 32) values → IsRegrouped 5 8 values ys 0 count → AreFives values ys
fives_of values ys count lt five h = record { zeros = count; fewer = lt; five = five; eight = h.fit; bits = h.bits ∙ ap (λ (t : List ℕ). flat_map (bits_of 8) ys ++ t) (bits-zero count) }

letter_once : (v w : ℕ) → v < 32 → w < 32 → letter_of v ≡ letter_of w → v ≡ w
letter_once v w p q e = grind (arith, e)

letters_once_in : (v w : List ℕ) → AllByRecursion (λ x. x < 32) v → AllByRecursion (λ x. x < 32) w → map letter_of v ≡ map letter_of w → v ≡ w
letters_once_in [] [] p q e = refl
letters_once_in [] (y ∷ w) p q e = absurd cc
letters_once_in (x ∷ v) [] p q e = absurd cc
letters_once_in (x ∷ v) (y ∷ w) p q e =
    let heads : letter_of x ≡ letter_of y = cc in
    let tails : map letter_of v ≡ map letter_of w = cc in
    ap (λ (h : ℕ). h ∷ v) (letter_once x y p.0 q.0 heads) ∙ ap (λ (t : List ℕ). y ∷ t) (letters_once_in v w p.1 q.1 tails)

pub one_values : (text v w : List ℕ) → AreLetters text v → AreLetters text w → v ≡ w
one_values text v w p q = letters_once_in v w (recursion_from_All (λ x. x < 32) v p.0) (recursion_from_All (λ x. x < 32) w q.0) (sym p.1 ∙ q.1)

-- ---- one outcome

length-letters : (text values : List ℕ) → AreLetters text values → length text ≡ length values
length-letters text values h = ap length h.1 ∙ length-map values letter_of

fives_count : (values bytes : List ℕ) → AreFives values bytes → MakeBytes (length values) (length bytes)
fives_count values bytes h =
    let size : 5 * length values ≡ 8 * length bytes + h.zeros = omega (arith, length-chunks 5 values, length-chunks 8 bytes, ap length h.bits, length-append (flat_map (bits_of 8) bytes) (replicate h.zeros 0), length-replicate {A = ℕ}) in
    (omega (arith, size), omega (arith, size, h.fewer))

pub hash_count : (bytes : List ℕ) → IsMultihash bytes → length bytes ≤ 44
hash_count bytes h = elim h.1 [
  | inl short ↦ omega (arith, ap length short.0, short.1)
  | inr long ↦ omega (arith, ap length long.0, long.1)
]

-- ---- the tests in their order: a text has passed so many of them

abbrev Passed : ℕ → List ℕ → Type 0
Passed zero text = Unit {0}
Passed (suc zero) text = (letters : List ℕ) × (text ≡ 98 ∷ letters)
Passed (suc (suc zero)) text = (letters : List ℕ) × (text ≡ 98 ∷ letters) × (values : List ℕ) × AreLetters letters values
Passed (suc (suc (suc zero))) text = (letters : List ℕ) × (text ≡ 98 ∷ letters) × (values : List ℕ) × AreLetters letters values × IsCount (length values)
Passed (suc (suc (suc (suc zero)))) text = (letters : List ℕ) × (text ≡ 98 ∷ letters) × (values : List ℕ) × AreLetters letters values × IsCount (length values) × (bytes : List ℕ) × AreFives values bytes
Passed (suc (suc (suc (suc (suc zero))))) text = (letters : List ℕ) × (text ≡ 98 ∷ letters) × (values : List ℕ) × AreLetters letters values × IsCount (length values) × (bytes : List ℕ) × AreFives values bytes × (multihash : List ℕ) × (bytes ≡ 1 ∷ 114 ∷ multihash)
Passed (suc (suc (suc (suc (suc (suc n)))))) text = (letters : List ℕ) × (text ≡ 98 ∷ letters) × (values : List ℕ) × AreLetters letters values × IsCount (length values) × (bytes : List ℕ) × AreFives values bytes × (multihash : List ℕ) × (bytes ≡ 1 ∷ 114 ∷ multihash) × IsMultihash multihash

one_down : (n : ℕ) (text : List ℕ) → Passed (suc n) text → Passed n text
one_down zero text p = tt
one_down (suc zero) text p = (p.0, p.1)
one_down (suc (suc zero)) text p = (p.0, p.1, p.2, p.3)
one_down (suc (suc (suc zero))) text p = (p.0, p.1, p.2, p.3, p.4)
one_down (suc (suc (suc (suc zero)))) text p = (p.0, p.1, p.2, p.3, p.4, p.5, p.6)
one_down (suc (suc (suc (suc (suc zero))))) text p = (p.0, p.1, p.2, p.3, p.4, p.5, p.6, p.7, p.8)
one_down (suc (suc (suc (suc (suc (suc n)))))) text p = p

down : (n m : ℕ) (text : List ℕ) → n ≤ m → Passed m text → Passed n text
down n zero text le p = let none : n ≡ 0 = omega arith in rw none tt
down n (suc m) text le p = elim (cases_lt m n) [
  | inl more ↦ let same : n ≡ suc m = omega arith in rw same p
  | inr less ↦ down n m text less (one_down m text p)
]

-- how many tests come before an outcome
abbrev level_of : IdFault → ℕ
level_of NotB = 0
level_of NotBase32 = 1
level_of BadLength = 2
level_of TrailingBits = 3
level_of BadPrefix = 4
level_of BadHash = 5

abbrev fault_at : ℕ → IdFault
fault_at zero = NotB
fault_at (suc zero) = NotBase32
fault_at (suc (suc zero)) = BadLength
fault_at (suc (suc (suc zero))) = TrailingBits
fault_at (suc (suc (suc (suc zero)))) = BadPrefix
fault_at (suc (suc (suc (suc (suc n))))) = BadHash

passed : (text : List ℕ) (fault : IdFault) → ReadsId text (Err fault) → Passed (level_of fault) text
passed text NotB h = tt
passed text NotBase32 h = (h.0, h.1)
passed text BadLength h = (h.0, h.1, h.2.0, h.2.1)
passed text TrailingBits h = (h.0, h.1, h.2.0, h.2.1, h.2.2.0)
passed text BadPrefix h = (h.0, h.1, h.2.0, h.2.1, h.2.2.0, h.2.2.1, h.2.2.2)
passed text BadHash h = (h.0, h.1, h.2.0, h.2.1, h.2.2.0, h.2.2.1, h.2.2.2, h.2.2.3.0, h.2.2.3.1)

same_tail : (text a b : List ℕ) → text ≡ 98 ∷ a → text ≡ 98 ∷ b → a ≡ b
same_tail text a b p q = let same : 98 ∷ a ≡ 98 ∷ b = sym p ∙ q in cc

same_values : (text a b v w : List ℕ) → text ≡ 98 ∷ a → text ≡ 98 ∷ b → AreLetters a v → AreLetters b w → v ≡ w
same_values text a b v w p q g h = one_values b v w (subst (λ (t : List ℕ). AreLetters t v) (same_tail text a b p q) g) h

same_bytes : (text a b v w x y : List ℕ) → text ≡ 98 ∷ a → text ≡ 98 ∷ b → AreLetters a v → AreLetters b w → AreFives v x → AreFives w y → x ≡ y
same_bytes text a b v w x y p q g h k l = one_bytes w x y (subst (λ (t : List ℕ). AreFives t x) (same_values text a b v w p q g h) k) l

same_multihash : (text a b v w x y m n : List ℕ) → text ≡ 98 ∷ a → text ≡ 98 ∷ b → AreLetters a v → AreLetters b w → AreFives v x → AreFives w y → x ≡ 1 ∷ 114 ∷ m → y ≡ 1 ∷ 114 ∷ n → m ≡ n
same_multihash text a b v w x y m n p q g h k l i j =
    let same : 1 ∷ 114 ∷ m ≡ 1 ∷ 114 ∷ n = sym i ∙ same_bytes text a b v w x y p q g h k l ∙ j in cc

-- no text has passed the test that it fails
failed : (text : List ℕ) (fault : IdFault) → ReadsId text (Err fault) → Passed (suc (level_of fault)) text → ⊥
failed text NotB h p = h p.0 p.1
failed text NotBase32 h p = h.2 p.2 (subst (λ (t : List ℕ). AreLetters t p.2) (same_tail text p.0 h.0 p.1 h.1) p.3)
failed text BadLength h p = h.2.2 (subst (λ (t : List ℕ). IsCount (length t)) (same_values text p.0 h.0 p.2 h.2.0 p.1 h.1 p.3 h.2.1) p.4)
failed text TrailingBits h p = h.2.2.1 p.5 (subst (λ (t : List ℕ). AreFives t p.5) (same_values text p.0 h.0 p.2 h.2.0 p.1 h.1 p.3 h.2.1) p.6)
failed text BadPrefix h p = h.2.2.3 p.7 (sym (same_bytes text p.0 h.0 p.2 h.2.0 p.5 h.2.2.1 p.1 h.1 p.3 h.2.1 p.6 h.2.2.2) ∙ p.8)
failed text BadHash h p = h.2.2.3.2 (subst IsMultihash (same_multihash text p.0 h.0 p.2 h.2.0 p.5 h.2.2.1 p.7 h.2.2.3.0 p.1 h.1 p.3 h.2.1 p.6 h.2.2.2 p.8 h.2.2.3.1) p.9)

found : (text multihash : List ℕ) → ReadsId text (Ok multihash) → Passed 6 text
found text m h =
    let letters = h.0.0 in
    let values = h.0.1.0 in
    let fives : AreFives values (1 ∷ 114 ∷ m) = h.0.1.1 in
    let count : length m + 2 ≤ 46 = omega (arith, hash_count m h.1) in
    let makes : MakeBytes (length values) (length m + 2) = let c = fives_count values (1 ∷ 114 ∷ m) fives in (omega (arith, c.0), omega (arith, c.1)) in
    (letters, h.0.2, values, (fives.five, h.0.1.2), (omega (arith, makes.0, makes.1, count), length m + 2, makes), 1 ∷ 114 ∷ m, fives, m, refl, h.1)

at_level : (fault : IdFault) → fault_at (level_of fault) ≡ fault
at_level NotB = refl
at_level NotBase32 = refl
at_level BadLength = refl
at_level TrailingBits = refl
at_level BadPrefix = refl
at_level BadHash = refl

level_below : (fault : IdFault) → level_of fault < 6
level_below NotB = omega arith
level_below NotBase32 = omega arith
level_below BadLength = omega arith
level_below TrailingBits = omega arith
level_below BadPrefix = omega arith
level_below BadHash = omega arith

not_later : (text : List ℕ) (fault : IdFault) (n : ℕ) → ReadsId text (Err fault) → level_of fault < n → Passed n text → ⊥
not_later text fault n h lt p = failed text fault h (down (suc (level_of fault)) n text lt p)

one_fault : (text : List ℕ) (a b : IdFault) → ReadsId text (Err a) → ReadsId text (Err b) → a ≡ b
one_fault text a b p q = elim (cases_lt (level_of a) (level_of b)) [
  | inl less ↦ absurd (not_later text a (level_of b) p less (passed text b q))
  | inr more ↦ elim (cases_lt (level_of b) (level_of a)) [
    | inl less ↦ absurd (not_later text b (level_of a) q less (passed text a p))
    | inr less ↦ let same : level_of a ≡ level_of b = omega arith in sym (at_level a) ∙ ap fault_at same ∙ at_level b
  ]
]

pub one_outcome : (text : List ℕ) (r s : Result (List ℕ) IdFault) → ReadsId text r → ReadsId text s → r ≡ s
one_outcome text (Ok m) (Ok n) p q = ap Ok (same_multihash text p.0.0 q.0.0 p.0.1.0 q.0.1.0 (1 ∷ 114 ∷ m) (1 ∷ 114 ∷ n) m n p.0.2 q.0.2 (p.0.1.1.five, p.0.1.2) (q.0.1.1.five, q.0.1.2) p.0.1.1 q.0.1.1 refl refl)
one_outcome text (Ok m) (Err b) p q = absurd (not_later text b 6 q (level_below b) (found text m p))
one_outcome text (Err a) (Ok n) p q = absurd (not_later text a 6 p (level_below a) (found text n q))
one_outcome text (Err a) (Err b) p q = ap Err (one_fault text a b p q)

-- ---- the stages of reading

count_of : (letters values : List ℕ) → AreLetters letters values → IsCount (length letters) → IsCount (length values)
count_of letters values h p = subst IsCount (length-letters letters values h) p

no_count : (letters values : List ℕ) → AreLetters letters values → ¬ IsCount (length letters) → ¬ IsCount (length values)
no_count letters values h p q = p (subst IsCount (sym (length-letters letters values h)) q)

pub counts : (letters : ℕ) → letters ≤ 74 → 5 * letters % 8 < 5 → IsCount letters
counts letters le lt = (le, 5 * letters / 8, (omega arith, omega arith))

pub only_counts : (letters : ℕ) → IsCount letters → 5 * letters % 8 < 5
only_counts letters h = omega (arith, h.2.0, h.2.1)

pub refuses_letters : (text letters : List ℕ) → text ≡ 98 ∷ letters → ¬ All IsLetter letters → ReadsId text (Err NotBase32)
refuses_letters text letters e wrong = (letters, e, λ values h. wrong (all_letters letters values h))

pub refuses_count : (text letters : List ℕ) → text ≡ 98 ∷ letters → All IsLetter letters → ¬ IsCount (length letters) → ReadsId text (Err BadLength)
refuses_count text letters e all wrong = let found = values_of letters all in (letters, e, (found.0, found.1, no_count letters found.0 found.1 wrong))

pub refuses_bits : (text letters values ys : List ℕ) (held count : ℕ) → text ≡ 98 ∷ letters → IsCount (length letters) → count < 8 → AreLetters letters values → IsRegrouped 5 8 values ys held count → held ≢ 0 → ReadsId text (Err TrailingBits)
refuses_bits text letters values ys held count e size few spelt h wrong = (letters, e, (values, spelt, (count_of letters values spelt size, λ bytes p. wrong (left_is_zero values bytes ys held count few h p))))

fives_in : (letters values ys : List ℕ) (held count : ℕ) → IsCount (length letters) → count < 8 → AreLetters letters values → IsRegrouped 5 8 values ys held count → held ≡ 0 → AreFives values ys
fives_in letters values ys held count size few spelt h none =
    let here = count_of letters values spelt size in
    let total = sizes values ys held count h in
    fives_of values ys count (omega (arith, here.2.0, here.2.1, total)) spelt.0 (subst (λ (n : ℕ). IsRegrouped 5 8 values ys n count) none h)

pub reads_behind : (text letters values ys : List ℕ) (held count : ℕ) (r : Result (List ℕ) IdFault) → text ≡ 98 ∷ letters → IsCount (length letters) → count < 8 → AreLetters letters values → IsRegrouped 5 8 values ys held count → held ≡ 0
    → IfOk r (λ multihash. (ys ≡ 1 ∷ 114 ∷ multihash) × IsMultihash multihash) → IfErr r (BytesFault ys) → ReadsId text r
reads_behind text letters values ys held count (Ok m) e size few spelt h none p q =
    ((letters, (values, subst (AreFives values) p.0 (fives_in letters values ys held count size few spelt h none), spelt.1), e), p.1)
reads_behind text letters values ys held count (Err BadPrefix) e size few spelt h none p q = (letters, e, (values, spelt, (count_of letters values spelt size, ys, fives_in letters values ys held count size few spelt h none, q)))
reads_behind text letters values ys held count (Err BadHash) e size few spelt h none p q = (letters, e, (values, spelt, (count_of letters values spelt size, ys, fives_in letters values ys held count size few spelt h none, q)))
reads_behind text letters values ys held count (Err NotB) e size few spelt h none p q = absurd q
reads_behind text letters values ys held count (Err NotBase32) e size few spelt h none p q = absurd q
reads_behind text letters values ys held count (Err BadLength) e size few spelt h none p q = absurd q
reads_behind text letters values ys held count (Err TrailingBits) e size few spelt h none p q = absurd q
