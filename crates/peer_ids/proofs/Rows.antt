-- The worked rows.
use Rattle.std.proofs.Common.{◌≡◌, ℕ, ◌^◌, ◌<◌, ◌≤◌, nat_lt, ◌&&◌, Bool, true, inl, inr, List, [], ◌∷◌, ◌++◌, map, length, replicate, get_or, refl, arith, Err}
use Rattle.std.specs.Prelude.{All, codes}
use Rattle.std.specs.List.{flat_map, AllByRecursion}
use Rattle.std.proofs.lemmas.Bool.{ltb-true, and_parts}
use Rattle.std.proofs.lemmas.List.Elements.{All-from_recursion, All-get_or}
use Rattle.varint_proto.specs.Varint.{shortest, shortest_within}
use Rattle.varint_proto.specs.Message.{Entry, entry, Varint, Bytes, IsMessage, shortest_field}
use Rattle.varint_proto.proofs.Writing.{written_is_read}
use Rattle.peer_ids.specs.declared.kind.KeyType.TheVariants.{Ed25519}
use Rattle.peer_ids.specs.declared.fault.IdFault.TheVariants.{NotBase32, BadLength}
use Rattle.peer_ids.specs.Base32.{bits_of, in_fives, letter_of, AreLetters, IsBase32, IsLetter}
use Rattle.peer_ids.proofs.OneText.{counts, refuses_letters, refuses_count, refuses_bits}
use Rattle.peer_ids.proofs.Regroup.{all_letters}
use Rattle.peer_ids.specs.ReadsText.{IsCount, ReadsId}
use Rattle.peer_ids.specs.Rows.{WorkedRows}

typed : ℕ → List ℕ → List Entry
typed n body = entry 1 (Varint n) ∷ entry 2 (Bytes body) ∷ []

read : (n : ℕ) (body : List ℕ) → n < 2 ^ 64 → length body < 2 ^ 64 → IsMessage (flat_map shortest_field (typed n body)) (typed n body)
unfolding typed
read n body few fits = written_is_read (typed n body) (((omega arith, omega arith), few), (((omega arith, omega arith), fits), tt))

below : ℕ → List ℕ → Bool
below n [] = true
below n (x ∷ xs) = nat_lt x n && below n xs

all_below : (n : ℕ) (xs : List ℕ) → below n xs ≡ true → All (λ x. x < n) xs
unfolding below
all_below n xs is = All-from_recursion (λ x. x < n) xs (each xs is)
  where
    each : (ys : List ℕ) → below n ys ≡ true → AllByRecursion (λ x. x < n) ys
    each [] is' = tt
    each (y ∷ ys) is' = let parts = and_parts (nat_lt y n) (below n ys) is' in (ltb-true y n parts.0, each ys parts.1)

spells : (values bytes : List ℕ) (zeros : ℕ) → zeros < 5 → below 32 values ≡ true → below 256 bytes ≡ true
    → flat_map (bits_of 5) values ≡ flat_map (bits_of 8) bytes ++ replicate zeros 0 → IsBase32 (map letter_of values) bytes
spells values bytes zeros few five eight bits =
    (values, record { zeros = zeros; fewer = few; five = all_below 32 values five; eight = all_below 256 bytes eight; bits = bits }, refl)

letters_are : (text values : List ℕ) → below 32 values ≡ true → text ≡ map letter_of values → AreLetters text values
letters_are text values five is = (all_below 32 values five, is)

not_letter : (l : ℕ) → (97 ≤ l → l ≤ 122 → ⊥) → (50 ≤ l → l ≤ 55 → ⊥) → ¬ IsLetter l
not_letter l small digit h = elim h [ inl p ↦ small p.0 p.1 | inr p ↦ digit p.0 p.1 ]

-- the byte at this place is no letter
wrong_at : (n : ℕ) (letters : List ℕ) → n < length letters → (97 ≤ get_or letters n 0 → get_or letters n 0 ≤ 122 → ⊥) → (50 ≤ get_or letters n 0 → get_or letters n 0 ≤ 55 → ⊥)
    → ReadsId (98 ∷ letters) (Err NotBase32)
wrong_at n letters lt small digit =
    refuses_letters (98 ∷ letters) letters refl (λ all. not_letter (get_or letters n 0) small digit (All-get_or IsLetter letters n 0 lt all))

-- no id has so many letters
wrong_count : (values : List ℕ) → below 32 values ≡ true → ¬ IsCount (length (map letter_of values)) → ReadsId (98 ∷ map letter_of values) (Err BadLength)
wrong_count values five none =
    let letters = map letter_of values in
    refuses_count (98 ∷ letters) letters refl (all_letters letters values (letters_are letters values five refl)) none

first : (b x : ℕ) (rest letters : List ℕ) → b ∷ rest ≡ x ∷ letters → ¬ (b ≡ x) → ⊥
first b x rest letters e f = f (cc e)

pub worked_rows : WorkedRows
unfolding typed shortest shortest_within bits_of in_fives below
worked_rows = record {
  key_message = (typed 1 (replicate 32 255), read 1 (replicate 32 255) (omega arith) (omega arith), record { kind = refl; body = refl; allowed = refl });
  key_without_a_type = (entry 2 (Bytes (0 ∷ [])) ∷ [], written_is_read (entry 2 (Bytes (0 ∷ [])) ∷ []) (((omega arith, omega arith), omega arith), tt), refl);
  key_of_31_bytes = (
    typed 1 (replicate 31 255),
    read 1 (replicate 31 255) (omega arith) (omega arith),
    (Ed25519, replicate 31 255, refl, refl, (λ h. omega (arith, h))),
  );
  longest_key = ((omega arith, omega arith), (λ h. omega (arith, h.1)));
  id_of_an_ed25519_key = refl;
  identity_up_to_42_bytes = (refl, refl);
  base32_of_foobar = spells (12 ∷ 25 ∷ 23 ∷ 22 ∷ 30 ∷ 24 ∷ 19 ∷ 1 ∷ 14 ∷ 8 ∷ []) (codes "foobar") 2 (omega arith) refl refl refl;
  text_of_an_id = refl;
  not_b_before_its_letters = λ letters e. first 122 98 _ letters e (λ h. omega (arith, h));
  upper_case = wrong_at 0 (codes "AA") (omega arith) (λ p q. omega (arith, p)) (λ p q. omega (arith, q));
  too_long_before_unused_bits = wrong_count (replicate 76 1) refl (λ h. omega (arith, h.0));
  unused_bits =
      refuses_bits (codes "bab") (codes "ab") (0 ∷ 1 ∷ []) (0 ∷ []) 1 2 refl (counts 2 (omega arith) (omega arith)) (omega arith)
      (letters_are (codes "ab") (0 ∷ 1 ∷ []) refl refl) (record { fit = all_below 256 (0 ∷ []) refl; below = omega arith; bits = refl }) (λ e. omega (arith, e));
}
