-- No spelling of a number is shorter than its shortest one, and that one alone is of multiformats.
use Rattle.std.proofs.Common.{◌≡◌, ◌≢◌, ℕ, zero, suc, ◌+◌, ◌-◌, ◌/◌, ◌%◌, ◌<◌, ◌≤◌, List, [], ◌∷◌, length, get_or, refl, sym, ap, subst, ◌∙◌, arith, inl, inr}
use Rattle.std.specs.Prelude.{All}
use Rattle.std.specs.List.{AllByRecursion}
use Rattle.std.proofs.lemmas.Bool.{cases_lt}
use Rattle.std.proofs.lemmas.List.Elements.{recursion_from_All}
use Rattle.varint_proto.specs.Varint.{IsSpelling, value_of, SpellsShortest, SpellsWide, shortest_within, shortest}
use Rattle.varint_proto.proofs.Shortest.{small, large}

last_of_tail : (b c : ℕ) (bytes : List ℕ) → get_or (b ∷ c ∷ bytes) (length (b ∷ c ∷ bytes) - 1) 0 ≡ get_or (c ∷ bytes) (length (c ∷ bytes) - 1) 0
last_of_tail b c bytes = let next : length (b ∷ c ∷ bytes) - 1 ≡ suc (length (c ∷ bytes) - 1) = omega arith in rw next refl

-- a spelling that ends in another byte than 0 has a value
counts : (bytes : List ℕ) → IsSpelling bytes → get_or bytes (length bytes - 1) 0 ≢ 0 → 0 < value_of bytes
counts [] h last = absurd h
counts (b ∷ []) h last = elim (cases_lt 0 b) [ inl more ↦ omega (arith, h) | inr none ↦ let e : b ≡ 0 = omega arith in absurd (last e) ]
counts (b ∷ c ∷ bytes) h last = omega (arith, counts (c ∷ bytes) h.1 (λ e. last (last_of_tail b c bytes ∙ e)))

only_within : (k : ℕ) (bytes : List ℕ) → AllByRecursion (λ b. b < 256) bytes → IsSpelling bytes → length bytes ≤ suc k → (1 < length bytes → get_or bytes (length bytes - 1) 0 ≢ 0) → bytes ≡ shortest_within k (value_of bytes)
only_within k [] eight h within last = absurd h
only_within k (b ∷ []) eight h within last =
    let value : value_of (b ∷ []) ≡ b = omega (arith, h) in
    rw value (sym (small k b h))
only_within zero (b ∷ c ∷ bytes) eight h within last = absurd (omega arith)
only_within (suc k) (b ∷ c ∷ bytes) eight h within last =
    let tail_last : 1 < length (c ∷ bytes) → get_or (c ∷ bytes) (length (c ∷ bytes) - 1) 0 ≢ 0 = λ several e. last (omega arith) (last_of_tail b c bytes ∙ e) in
    let some : 0 < value_of (c ∷ bytes) = counts (c ∷ bytes) h.1 (λ e. last (omega arith) (last_of_tail b c bytes ∙ e)) in
    let again = only_within k (c ∷ bytes) eight.1 h.1 (omega arith) tail_last in
    let more : 128 ≤ value_of (b ∷ c ∷ bytes) = omega (arith, some) in
    let first : value_of (b ∷ c ∷ bytes) % 128 + 128 ≡ b = omega (arith, eight.0, h.0) in
    let rest : value_of (b ∷ c ∷ bytes) / 128 ≡ value_of (c ∷ bytes) = omega arith in
    ap (λ (t : List ℕ). b ∷ t) again ∙ sym (large k (value_of (b ∷ c ∷ bytes)) more ∙ ap (λ (m : ℕ). m ∷ shortest_within k (value_of (b ∷ c ∷ bytes) / 128)) first ∙ ap (λ (m : ℕ). b ∷ shortest_within k m) rest)

pub only_shortest : (bytes : List ℕ) (n : ℕ) → All (λ b. b < 256) bytes → SpellsShortest bytes n → bytes ≡ shortest n
unfolding shortest
only_shortest bytes n eight h =
    only_within 9 bytes (recursion_from_All (λ b. b < 256) bytes eight) h.ends (omega (arith, h.within)) h.shortest ∙ ap (shortest_within 9) h.value

one_byte : (n m : ℕ) → 1 ≤ m → length (shortest_within zero n) ≤ m
unfolding shortest_within
one_byte n m le = le

shorter : (k : ℕ) (bytes : List ℕ) → IsSpelling bytes → length (shortest_within k (value_of bytes)) ≤ length bytes
shorter k [] h = absurd h
shorter k (b ∷ []) h =
    let value : value_of (b ∷ []) ≡ b = omega (arith, h) in
    rw (value, small k b h) (omega arith)
shorter zero (b ∷ c ∷ bytes) h = elim (cases_lt (value_of (b ∷ c ∷ bytes)) 128) [
  | inl less ↦ rw (small zero (value_of (b ∷ c ∷ bytes)) less) (omega arith)
  | inr more ↦ one_byte (value_of (b ∷ c ∷ bytes)) (length (b ∷ c ∷ bytes)) (omega arith)
]
shorter (suc k) (b ∷ c ∷ bytes) h = elim (cases_lt (value_of (b ∷ c ∷ bytes)) 128) [
  | inl less ↦ rw (small (suc k) (value_of (b ∷ c ∷ bytes)) less) (omega arith)
  | inr more ↦
      let rest : value_of (b ∷ c ∷ bytes) / 128 ≡ value_of (c ∷ bytes) = omega arith in
      rw (large k (value_of (b ∷ c ∷ bytes)) more, rest) (omega (arith, shorter k (c ∷ bytes) h.1))
]

pub none_shorter : (bytes : List ℕ) (n : ℕ) → SpellsWide bytes n → length (shortest n) ≤ length bytes
unfolding shortest
none_shorter bytes n h = subst (λ (m : ℕ). length (shortest_within 9 m) ≤ length bytes) h.value (shorter 9 bytes h.ends)
