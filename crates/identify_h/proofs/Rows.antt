-- The worked rows.
use Rattle.std.proofs.Common.{◌≡◌, ℕ, ◌+◌, ◌*◌, ◌<◌, ◌≤◌, zero, suc, List, [], ◌∷◌, ◌++◌, length, replicate, refl, ap, subst, inr, arith}
use Rattle.std.specs.Prelude.{slice_index}
use Rattle.varint_proto.specs.Varint.{shortest, shortest_within}
use Rattle.varint_proto.specs.Varint.{BeginsShortest, BeginsWide}
use Rattle.varint_proto.specs.Message.{entry, Bytes, Begins}
use Rattle.peer_ids.specs.declared.kind.KeyType.TheVariants.{Ed25519}
use Rattle.peer_ids.specs.Key.{Key}
use Rattle.peer_ids.specs.ReadsKey.{SpellsKey}
use Rattle.peer_ids.proofs.Written.{canonical_spells, canonical_ed25519}
use Rattle.varint_proto.specs.Incoming.{Frames}
use Rattle.identify_h.specs.declared.fault.IdentifyFault.TheVariants.{TooMany}
use Rattle.identify_h.specs.Streams.{Lead, HasFault}
use Rattle.identify_h.specs.Rows.{key_field, WorkedRows}

one_wide : (n : ℕ) (rest : List ℕ) → n < 128 → BeginsWide (n ∷ rest) n rest
one_wide n rest lt = (n ∷ [], record { ends = lt; within = omega arith; fits = omega arith; value = omega arith }, refl)

one_short : (n : ℕ) (rest : List ℕ) → n < 128 → BeginsShortest (n ∷ rest) n rest
one_short n rest lt = (n ∷ [], record { ends = lt; within = omega arith; shortest = λ h. absurd (omega arith); value = omega arith }, refl)

-- a body of fewer than 128 bytes behind its length
framed_row : (limit : ℕ) (body rest : List ℕ) → length body ≤ limit → length body < 128 → Frames limit (length body ∷ body ++ rest) body rest
framed_row limit body rest le lt = record { begins = one_short (length body) (body ++ rest) lt; allowed = le }

-- the fields of a version and an agent
version_field : (rest : List ℕ) → Begins (42 ∷ 3 ∷ 97 ∷ 98 ∷ 99 ∷ rest) (entry 5 (Bytes (97 ∷ 98 ∷ 99 ∷ []))) rest
version_field rest = (
  42 ∷ 3 ∷ 97 ∷ 98 ∷ 99 ∷ [],
  record { value = 3 ∷ 97 ∷ 98 ∷ 99 ∷ []; fits = (omega arith, omega arith); tag = one_wide 42 _ (omega arith); content = one_wide 3 _ (omega arith) },
  refl,
)

short_field : (number tag b : ℕ) (rest : List ℕ) → tag ≡ 8 * number + 2 → 8 ≤ tag → tag < 128 → Begins (tag ∷ 1 ∷ b ∷ rest) (entry number (Bytes (b ∷ []))) rest
short_field number tag b rest is least lt = (
  tag ∷ 1 ∷ b ∷ [],
  record { value = 1 ∷ b ∷ []; fits = (omega arith, omega arith); tag = subst (λ k. BeginsWide (tag ∷ 1 ∷ b ∷ []) k (1 ∷ b ∷ [])) is (one_wide tag _ lt); content = one_wide 1 _ (omega arith) },
  refl,
)

-- the body of that key's field
abbrev key_message : List ℕ
key_message = 8 ∷ 1 ∷ 18 ∷ 32 ∷ replicate 32 7

the_key : Key
the_key = record { kind = Ed25519; body = replicate 32 7 }

spells_key : SpellsKey key_message the_key
unfolding the_key
spells_key = subst (λ (t : List ℕ). SpellsKey t (record { kind = Ed25519; body = replicate 32 7 })) (canonical_ed25519 (replicate 32 7) refl) (canonical_spells (record { kind = Ed25519; body = replicate 32 7 }) refl)

whole_key_field : Begins key_field (entry 1 (Bytes key_message)) []
whole_key_field = (key_field, record { value = 36 ∷ key_message; fits = (omega arith, omega arith); tag = one_wide 10 _ (omega arith); content = one_wide 36 _ (omega arith) }, refl)

-- ten messages that are empty, and then these bytes
empties : (n : ℕ) (rest : List ℕ) → Lead 16384 (replicate n 0 ++ rest) (replicate n []) rest
empties zero rest = refl
empties (suc n) rest = (replicate n 0 ++ rest, framed_row 16384 [] (replicate n 0 ++ rest) (omega arith) (omega arith), empties n rest)

eleventh : (b : ℕ) (rest : List ℕ) → HasFault (replicate 10 0 ++ b ∷ rest) TooMany
eleventh b rest = (replicate 10 [], b ∷ rest, record { few = omega arith; lead = empties 10 (b ∷ rest) }, (refl, omega arith))

pub worked_rows : WorkedRows
unfolding the_key shortest shortest_within
worked_rows = record {
  fields_by_number = refl;
  message_that_is_sent = refl;
  stream_of_two_messages = (
    (42 ∷ 3 ∷ 97 ∷ 98 ∷ 99 ∷ []) ∷ (50 ∷ 1 ∷ 120 ∷ []) ∷ [],
    record {
      few = omega arith;
      lead = (3 ∷ 50 ∷ 1 ∷ 120 ∷ [], framed_row 16384 (42 ∷ 3 ∷ 97 ∷ 98 ∷ 99 ∷ []) _ (omega arith) (omega arith), ([], framed_row _ (50 ∷ 1 ∷ 120 ∷ []) [] (omega arith) (omega arith), refl));
    },
    omega arith,
    (
      entry 5 (Bytes (97 ∷ 98 ∷ 99 ∷ [])) ∷ entry 6 (Bytes (120 ∷ [])) ∷ [],
      (50 ∷ 1 ∷ 120 ∷ [], version_field _, ([], short_field 6 50 120 _ refl (omega arith) (omega arith), refl)),
      record { key = tt; listen = refl; protocols = refl; observed = refl; version = refl; agent = refl },
    ),
  );
  stream_without_its_last_byte = (
    (42 ∷ 3 ∷ 97 ∷ 98 ∷ 99 ∷ []) ∷ [],
    3 ∷ 50 ∷ 1 ∷ [],
    record { few = omega arith; lead = (3 ∷ 50 ∷ 1 ∷ [], framed_row 16384 (42 ∷ 3 ∷ 97 ∷ 98 ∷ 99 ∷ []) _ (omega arith) (omega arith), refl) },
    inr (omega arith, inr (3, 50 ∷ 1 ∷ [], record { begins = one_short 3 _ (omega arith); allowed = omega arith }, omega arith)),
    inr (omega arith),
  );
  last_version_counts = (
    entry 5 (Bytes (97 ∷ [])) ∷ entry 8 (Bytes []) ∷ entry 5 (Bytes (98 ∷ [])) ∷ [],
    (
      66 ∷ 0 ∷ 42 ∷ 1 ∷ 98 ∷ [],
      short_field 5 42 97 _ refl (omega arith) (omega arith),
      (
        42 ∷ 1 ∷ 98 ∷ [],
        (66 ∷ 0 ∷ [], record { value = 0 ∷ []; fits = (omega arith, omega arith); tag = one_wide 66 _ (omega arith); content = one_wide 0 _ (omega arith) }, refl),
        ([], short_field 5 42 98 _ refl (omega arith) (omega arith), refl),
      ),
    ),
    record { key = tt; listen = refl; protocols = refl; observed = refl; version = refl; agent = refl },
  );
  push_of_an_agent = refl;
  push_of_an_empty_entry = refl;
  key_of_another_peer = (
    entry 1 (Bytes key_message) ∷ [],
    ([], whole_key_field, refl),
    (key_message, refl, inr (the_key, spells_key, λ e. let seventh : 7 ≡ 9 = ap (λ (t : List ℕ). slice_index t 6) e in cc)),
  );
  ten_messages = (replicate 10 [], record { few = omega arith; lead = empties 10 [] }, omega arith, ([], refl, record { key = tt; listen = refl; protocols = refl; observed = refl; version = refl; agent = refl }));
  eleventh_message = eleventh 0 [];
  body_of_16385_bytes = ([], 129 ∷ 128 ∷ 1 ∷ [], record { few = omega arith; lead = refl }, (omega arith, (16385, [], (129 ∷ 128 ∷ 1 ∷ [], record { ends = (omega arith, (omega arith, omega arith)); within = omega arith; shortest = λ _. omega arith; value = refl }, refl), omega arith)));
  bodies_of_16385_bytes_together = (
    (8 ∷ []) ∷ [],
    128 ∷ 128 ∷ 1 ∷ [],
    record { few = omega arith; lead = (128 ∷ 128 ∷ 1 ∷ [], framed_row 16384 (8 ∷ []) _ (omega arith) (omega arith), refl) },
    (omega arith, (16384, [], (128 ∷ 128 ∷ 1 ∷ [], record { ends = (omega arith, (omega arith, omega arith)); within = omega arith; shortest = λ _. omega arith; value = refl }, refl), omega arith)),
  );
}
