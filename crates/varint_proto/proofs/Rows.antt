-- The worked rows.
use Rattle.std.proofs.Common.{ℕ, ◌+◌, ◌^◌, ◌<◌, ◌≤◌, List, [], ◌∷◌, ◌++◌, replicate, refl, inr, arith}
use Rattle.varint_proto.specs.Varint.{IsUnended, BeginsWide, shortest, shortest_within}
use Rattle.varint_proto.specs.Rows.{WorkedRows}

nine_unended : (b : ℕ) → 128 ≤ b → IsUnended (replicate 9 b)
nine_unended b le = (le, (le, (le, (le, (le, (le, (le, (le, (le, tt)))))))))

one_byte : (n : ℕ) (rest : List ℕ) → n < 128 → BeginsWide (n ∷ rest) n rest
one_byte n rest lt = (n ∷ [], record { ends = lt; within = omega arith; fits = omega arith; value = omega arith }, refl)

pub worked_rows : WorkedRows
unfolding shortest shortest_within
worked_rows = record {
  reads_300 = (omega arith, record { ends = (omega arith, omega arith); within = omega arith; shortest = λ _. omega arith; value = refl });
  writes_300 = refl;
  largest_number = (omega arith, record { ends = (omega arith, (omega arith, (omega arith, (omega arith, (omega arith, (omega arith, (omega arith, (omega arith, omega arith)))))))); within = omega arith; shortest = λ _. omega arith; value = refl });
  nine_bytes_without_an_end = (nine_unended 128 (omega arith), omega arith);
  longer_spelling = (2, omega arith, record { ends = (omega arith, omega arith); within = omega arith; several = omega arith; zero = refl });
  longer_protobuf_spelling = (129 ∷ 0 ∷ [], record { ends = (omega arith, omega arith); within = omega arith; fits = omega arith; value = refl }, refl);
  largest_protobuf_number = (
    replicate 9 255 ++ 1 ∷ [],
    record { ends = (omega arith, (omega arith, (omega arith, (omega arith, (omega arith, (omega arith, (omega arith, (omega arith, (omega arith, omega arith))))))))); within = omega arith; fits = omega arith; value = refl },
    refl,
  );
  protobuf_number_above_64_bits = (nine_unended 255 (omega arith), omega arith, omega arith);
  field_1_is_150 = (8 ∷ 150 ∷ 1 ∷ [], record { value = 150 ∷ 1 ∷ []; fits = (omega arith, omega arith); tag = one_byte 8 _ (omega arith); content = record { ends = (omega arith, omega arith); within = omega arith; fits = omega arith; value = refl } }, refl);
  field_2_is_testing = refl;
  largest_field_number = (
    253 ∷ 255 ∷ 255 ∷ 255 ∷ 15 ∷ 9 ∷ 8 ∷ 7 ∷ 6 ∷ [],
    record { value = 9 ∷ 8 ∷ 7 ∷ 6 ∷ []; fits = (omega arith, omega arith); tag = (253 ∷ 255 ∷ 255 ∷ 255 ∷ 15 ∷ [], record { ends = (omega arith, (omega arith, (omega arith, (omega arith, omega arith)))); within = omega arith; fits = omega arith; value = refl }, refl); content = (refl, refl) },
    refl,
  );
  number_before_wire_type = inr (
    2 ^ 32 + 3,
    [],
    (131 ∷ 128 ∷ 128 ∷ 128 ∷ 16 ∷ [], record { ends = (omega arith, (omega arith, (omega arith, (omega arith, omega arith)))); within = omega arith; fits = omega arith; value = refl }, refl),
    inr (omega arith),
  );
}
