-- The shortest spelling of a number.
use Rattle.std.proofs.Common.{◌≡◌, ◌≢◌, ℕ, zero, suc, ◌+◌, ◌-◌, ◌*◌, ◌/◌, ◌%◌, ◌^◌, ◌<◌, ◌≤◌, List, [], ◌∷◌, ◌++◌, length, get_or, set, take, refl, sym, ap, ◌∙◌, arith, inl, inr, append_assoc}
use Rattle.std.proofs.Math.Nat.{pow-suc}
use Rattle.std.proofs.lemmas.Bool.{cases_lt, lt-ltb, le-ltb}
use Rattle.std.proofs.lemmas.List.{take_more_set}
use Rattle.varint_proto.specs.Varint.{IsSpelling, value_of, SpellsShortest, SpellsWide, shortest_within, shortest}

pub small : (k n : ℕ) → n < 128 → shortest_within k n ≡ n ∷ []
unfolding shortest_within
small zero n lt = refl
small (suc k) n lt = rw (lt-ltb n 128 lt) refl

pub large : (k n : ℕ) → 128 ≤ n → shortest_within (suc k) n ≡ (n % 128 + 128) ∷ shortest_within k (n / 128)
unfolding shortest_within
large k n le = rw (le-ltb n 128 le) refl

pub spelling_cons : (b : ℕ) (bytes : List ℕ) → 128 ≤ b → IsSpelling bytes → IsSpelling (b ∷ bytes)
spelling_cons b [] top h = absurd h
spelling_cons b (c ∷ bytes) top h = (top, h)

quotient_below : (k n : ℕ) → n < 128 ^ suc (suc k) → n / 128 < 128 ^ suc k
quotient_below k n lt = omega (arith, pow-suc 128 (suc k))

is_spelling : (k n : ℕ) → n < 128 ^ suc k → IsSpelling (shortest_within k n)
is_spelling zero n lt = rw (small zero n (omega arith)) (omega arith)
is_spelling (suc k) n lt = elim (cases_lt n 128) [
  | inl less ↦ rw (small (suc k) n less) less
  | inr more ↦ rw (large k n more) (spelling_cons _ _ (omega arith) (is_spelling k (n / 128) (quotient_below k n lt)))
]

is_short : (k n : ℕ) → length (shortest_within k n) ≤ suc k
unfolding shortest_within
is_short zero n = omega arith
is_short (suc k) n = elim (cases_lt n 128) [
  | inl less ↦ rw (small (suc k) n less) (omega arith)
  | inr more ↦ rw (large k n more) (omega (arith, is_short k (n / 128)))
]

has_value : (k n : ℕ) → n < 128 ^ suc k → value_of (shortest_within k n) ≡ n
has_value zero n lt = rw (small zero n (omega arith)) (omega arith)
has_value (suc k) n lt = elim (cases_lt n 128) [
  | inl less ↦ rw (small (suc k) n less) (omega arith)
  | inr more ↦ rw (large k n more) (omega (arith, has_value k (n / 128) (quotient_below k n lt)))
]

last_of : (b : ℕ) (bytes : List ℕ) → IsSpelling bytes → get_or (b ∷ bytes) (length (b ∷ bytes) - 1) 0 ≡ get_or bytes (length bytes - 1) 0
last_of b [] h = absurd h
last_of b (c ∷ bytes) h = let next : length (b ∷ c ∷ bytes) - 1 ≡ suc (length (c ∷ bytes) - 1) = omega arith in rw next refl

last_counts : (k n : ℕ) → 0 < n → n < 128 ^ suc k → get_or (shortest_within k n) (length (shortest_within k n) - 1) 0 ≢ 0
last_counts zero n pos lt = rw (small zero n (omega arith)) (omega arith)
last_counts (suc k) n pos lt = elim (cases_lt n 128) [
  | inl less ↦ rw (small (suc k) n less) (omega arith)
  | inr more ↦ rw (large k n more, last_of (n % 128 + 128) (shortest_within k (n / 128)) (is_spelling k (n / 128) (quotient_below k n lt))) (last_counts k (n / 128) (omega arith) (quotient_below k n lt))
]

-- more room changes nothing
same_within : (k n : ℕ) → n < 128 ^ suc k → shortest_within (suc k) n ≡ shortest_within k n
same_within zero n lt = small 1 n (omega arith) ∙ sym (small 0 n (omega arith))
same_within (suc k) n lt = elim (cases_lt n 128) [
  | inl less ↦ small (suc (suc k)) n less ∙ sym (small (suc k) n less)
  | inr more ↦ large (suc k) n more ∙ ap (λ (t : List ℕ). (n % 128 + 128) ∷ t) (same_within k (n / 128) (quotient_below k n lt)) ∙ sym (large k n more)
]

last_of_shortest : (n : ℕ) → n < 128 ^ 10 → 1 < length (shortest n) → get_or (shortest n) (length (shortest n) - 1) 0 ≢ 0
unfolding shortest
last_of_shortest n lt several = elim (cases_lt n 128) [
  | inl less ↦ let one : length (shortest_within 9 n) ≡ 1 = rw (small 9 n less) refl in absurd (omega arith)
  | inr more ↦ last_counts 9 n (omega arith) lt
]

pub spells_shortest : (n : ℕ) → n < 2 ^ 63 → SpellsShortest (shortest n) n
unfolding shortest
spells_shortest n lt = record {
  ends = is_spelling 9 n (omega arith);
  within = rw (same_within 8 n lt) (is_short 8 n);
  shortest = last_of_shortest n (omega arith);
  value = has_value 9 n (omega arith);
}

-- as protobuf reads it, too
pub spells_wide : (n : ℕ) → n < 2 ^ 64 → SpellsWide (shortest n) n
unfolding shortest
spells_wide n lt = record { ends = is_spelling 9 n (omega arith); within = is_short 9 n; fits = lt; value = has_value 9 n (omega arith) }

-- one more byte of the spelling
pub spell_more : (bytes : List ℕ) (len rest : ℕ) (total : List ℕ) → len < 9 → len < length bytes → 128 ≤ rest → take len bytes ++ shortest_within (9 - len) rest ≡ total
    → take (len + 1) (set bytes len (rest % 128 + 128)) ++ shortest_within (9 - (len + 1)) (rest / 128) ≡ total
spell_more bytes len rest total room in_bytes more h =
    let k : 9 - len ≡ suc (9 - (len + 1)) = omega arith in
    let one : shortest_within (9 - len) rest ≡ (rest % 128 + 128) ∷ shortest_within (9 - (len + 1)) (rest / 128) = rw k (large (9 - (len + 1)) rest more) in
    rw (take_more_set bytes len (rest % 128 + 128) in_bytes, append_assoc) (rw one at h)

-- the last byte
pub spell_last : (bytes : List ℕ) (len rest : ℕ) (total : List ℕ) → len < length bytes → rest < 128 → take len bytes ++ shortest_within (9 - len) rest ≡ total → take (len + 1) (set bytes len rest) ≡ total
spell_last bytes len rest total in_bytes less h = take_more_set bytes len rest in_bytes ∙ rw (small (9 - len) rest less) at h

pub room_left : (len rest : ℕ) → len ≤ 9 → rest < 128 ^ (10 - len) → 128 ≤ rest → len < 9
room_left len rest le lt more = elim (cases_lt len 9) [
  | inl less ↦ less
  | inr nine ↦ let e : len ≡ 9 = omega arith in let below : rest < 128 ^ (10 - 9) = rw e at lt in absurd (omega arith)
]

pub rest_below : (len rest : ℕ) → len < 9 → rest < 128 ^ (10 - len) → rest / 128 < 128 ^ (10 - (len + 1))
rest_below len rest room lt =
    let k : 10 - len ≡ suc (10 - (len + 1)) = omega arith in
    let e : 128 ^ (10 - len) ≡ 128 ^ (10 - (len + 1)) * 128 = rw k (pow-suc 128 (10 - (len + 1))) in
    omega arith

pub shortest_small : (n : ℕ) → n < 128 → shortest n ≡ n ∷ []
unfolding shortest
shortest_small n lt = small 9 n lt
