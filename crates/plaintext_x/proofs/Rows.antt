-- The worked rows.
use Rattle.std.proofs.Common.{◌≡◌, ℕ, ◌+◌, ◌*◌, ◌%◌, ◌<◌, ◌≤◌, List, [], ◌∷◌, ◌++◌, length, get_or, replicate, Some, Ok, Err, refl, sym, ap, subst, inl, inr, arith}
use Rattle.std.specs.List.{AllByRecursion, flat_map}
use Rattle.std.proofs.lemmas.List.{length-append}
use Rattle.varint_proto.specs.declared.fault.WireFault.TheVariants as wire
use Rattle.varint_proto.specs.Varint.{BeginsShortest, shortest, shortest_within}
use Rattle.varint_proto.specs.Message.{Entry, entry, Varint, Bytes, IsMessage, IsWritable, shortest_field}
use Rattle.varint_proto.specs.Incoming.{Frames}
use Rattle.varint_proto.proofs.Writing.{written_is_read}
use Rattle.peer_ids.specs.declared.fault.KeyFault.TheVariants as keys
use Rattle.peer_ids.specs.ReadsKey.{SpellsKey}
use Rattle.peer_ids.proofs.Written.{canonical_spells}
use Rattle.plaintext_x.specs.declared.fault.ExchangeFault.{ExchangeFault}
use Rattle.plaintext_x.specs.declared.fault.ExchangeFault.TheVariants.{NoId, NoKey, BadKey, Differs}
use Rattle.plaintext_x.specs.Exchange.{SpellsExchange, RefusesBody, Exchanges, longest, last_id, joined_key}
use Rattle.plaintext_x.specs.Rows.{zeros_key, id_of_bytes, id_field, key_field, WorkedRows}
use Rattle.plaintext_x.proofs.Steps.{faulty_in}

-- a length of one byte
one_byte : (n : ℕ) (rest : List ℕ) → n < 128 → BeginsShortest (n ∷ rest) n rest
one_byte n rest lt = (n ∷ [], record { ends = lt; within = omega arith; shortest = λ h. absurd (omega arith); value = omega arith }, refl)

-- 8192 and 8193
two_bytes : (b : ℕ) → 128 ≤ b → b < 256 → BeginsShortest (b ∷ 64 ∷ []) (b % 128 + 128 * 64) []
two_bytes b le lt = (b ∷ 64 ∷ [], record { ends = (le, omega arith); within = omega arith; shortest = λ _. omega arith; value = omega arith }, refl)

framed : (body rest : List ℕ) → length body < 128 → Frames longest (length body ∷ (body ++ rest)) body rest
framed body rest lt = record { begins = one_byte (length body) (body ++ rest) lt; allowed = omega arith }

abbrev key_bytes : List ℕ
key_bytes = 8 ∷ 1 ∷ 18 ∷ 32 ∷ replicate 32 0

spells_key : SpellsKey key_bytes zeros_key
unfolding shortest shortest_within
spells_key = canonical_spells zeros_key refl

written : (fields : List Entry) → AllByRecursion IsWritable fields → IsMessage (flat_map shortest_field fields) fields
written fields w = written_is_read fields w

abbrev key_entry : Entry
key_entry = entry 2 (Bytes key_bytes)

-- a body of these fields proves the key
exchanged : (body rest : List ℕ) (fields : List Entry) → length body < 128 → IsMessage body fields → last_id fields ≡ Some (id_of_bytes 0) → joined_key fields ≡ key_bytes
    → Exchanges (length body ∷ (body ++ rest)) (Ok (Some zeros_key)) (1 + length body)
unfolding shortest shortest_within
exchanged body rest fields lt m i j =
    let proves : SpellsExchange body zeros_key = (fields, m, record { spells = subst (λ (b : List ℕ). SpellsKey b zeros_key) (sym j) spells_key; id = i }) in
    (body, rest, framed body rest lt, proves, omega (arith, length-append body rest))

-- a body that is refused
refuses : (body : List ℕ) (fault : ExchangeFault) → length body < 128 → RefusesBody body fault → Exchanges (length body ∷ (body ++ [])) (Err fault) (1 + length body)
refuses body fault lt r = (faulty_in (length body ∷ (body ++ [])) body [] fault (framed body [] lt) r, omega (arith, length-append body []))

-- two fields, an id and a key, that hold these bytes
id_and_key : (id key : List ℕ) → length id < 128 → length key < 128 → AllByRecursion IsWritable (entry 1 (Bytes id) ∷ entry 2 (Bytes key) ∷ [])
id_and_key id key few small = (((omega arith, omega arith), omega arith), (((omega arith, omega arith), omega arith), tt))

pub worked_rows : WorkedRows
unfolding shortest shortest_within
worked_rows = record {
  message_of_79_bytes = refl;
  key_is_proven = exchanged (id_field ++ key_field) (7 ∷ []) (entry 1 (Bytes (id_of_bytes 0)) ∷ key_entry ∷ []) (omega arith)
      (written (entry 1 (Bytes (id_of_bytes 0)) ∷ key_entry ∷ []) (id_and_key (id_of_bytes 0) key_bytes (omega arith) (omega arith))) refl refl;
  id_of_another_key = refuses (10 ∷ 38 ∷ id_of_bytes 255 ++ key_field) Differs (omega arith) (
    entry 1 (Bytes (id_of_bytes 255)) ∷ key_entry ∷ [],
    written (entry 1 (Bytes (id_of_bytes 255)) ∷ key_entry ∷ []) (id_and_key (id_of_bytes 255) key_bytes (omega arith) (omega arith)),
    (id_of_bytes 255, zeros_key, refl, spells_key, (λ e. let seventh : 255 ≡ 0 = ap (λ (t : List ℕ). get_or t 6 0) e in omega (arith, seventh))),
  );
  last_id_counts = exchanged (10 ∷ 0 ∷ id_field ++ key_field) [] (entry 1 (Bytes []) ∷ entry 1 (Bytes (id_of_bytes 0)) ∷ key_entry ∷ []) (omega arith)
      (written (entry 1 (Bytes []) ∷ entry 1 (Bytes (id_of_bytes 0)) ∷ key_entry ∷ [])
      (((omega arith, omega arith), omega arith), id_and_key (id_of_bytes 0) key_bytes (omega arith) (omega arith))) refl refl;
  keys_are_merged = exchanged (id_field ++ 18 ∷ 2 ∷ 8 ∷ 1 ∷ 18 ∷ 34 ∷ 18 ∷ 32 ∷ replicate 32 0) []
      (entry 1 (Bytes (id_of_bytes 0)) ∷ entry 2 (Bytes (8 ∷ 1 ∷ [])) ∷ entry 2 (Bytes (18 ∷ 32 ∷ replicate 32 0)) ∷ []) (omega arith)
      (written (entry 1 (Bytes (id_of_bytes 0)) ∷ entry 2 (Bytes (8 ∷ 1 ∷ [])) ∷ entry 2 (Bytes (18 ∷ 32 ∷ replicate 32 0)) ∷ [])
      (((omega arith, omega arith), omega arith), (((omega arith, omega arith), omega arith), (((omega arith, omega arith), omega arith), tt)))) refl refl;
  longest_message = (inr (8192, [], record { begins = two_bytes 128 (omega arith) (omega arith); allowed = omega arith }, omega arith), refl);
  message_of_8193_bytes = ((8193, [], two_bytes 129 (omega arith) (omega arith), omega arith), refl);
  badly_spelt_length = (inl (wire.NotShortest, (2, omega arith, record { ends = (omega arith, omega arith); within = omega arith; several = omega arith; zero = refl })), refl);
  no_id = refuses (18 ∷ 0 ∷ []) NoId (omega arith) (entry 2 (Bytes []) ∷ [], written (entry 2 (Bytes []) ∷ []) (((omega arith, omega arith), omega arith), tt), refl);
  no_key_before_a_wrong_id = refuses (10 ∷ 0 ∷ []) NoKey (omega arith)
      (entry 1 (Bytes []) ∷ [], written (entry 1 (Bytes []) ∷ []) (((omega arith, omega arith), omega arith), tt), (refl, refl));
  bad_key_before_a_wrong_id = refuses (10 ∷ 0 ∷ 18 ∷ 4 ∷ 8 ∷ 7 ∷ 18 ∷ 0 ∷ []) BadKey (omega arith) (
    entry 1 (Bytes []) ∷ entry 2 (Bytes (8 ∷ 7 ∷ 18 ∷ 0 ∷ [])) ∷ [],
    written (entry 1 (Bytes []) ∷ entry 2 (Bytes (8 ∷ 7 ∷ 18 ∷ 0 ∷ [])) ∷ []) (id_and_key [] (8 ∷ 7 ∷ 18 ∷ 0 ∷ []) (omega arith) (omega arith)),
    (
      refl,
      refl,
      keys.UnknownType,
      (λ e. cc),
      (
        entry 1 (Varint 7) ∷ entry 2 (Bytes []) ∷ [],
        written (entry 1 (Varint 7) ∷ entry 2 (Bytes []) ∷ []) (((omega arith, omega arith), omega arith), (((omega arith, omega arith), omega arith), tt)),
        (7, refl, omega arith, refl),
      ),
    ),
  );
}
