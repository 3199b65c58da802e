-- What is written is read.
use Rattle.std.proofs.Common.{ℕ, ◌+◌, ◌*◌, ◌^◌, ◌<◌, ◌≤◌, List, [], ◌∷◌, ◌++◌, length, refl, sym, arith}
use Rattle.std.specs.List.{flat_map}
use Rattle.std.proofs.lemmas.List.{append-nil, length-append}
use Rattle.varint_proto.specs.Varint.{shortest, BeginsShortest}
use Rattle.varint_proto.specs.Message.{Entry, entry, Content, Varint, Fixed64, Bytes, Fixed32, wire_type, SpellsContent, FitsContent, IsWritable, IsTag, SpellsField, IsMessage, WrittenIsRead, shortest_content, shortest_field}
use Rattle.varint_proto.proofs.Shortest.{spells_shortest, spells_wide}

pub shortest_length : (n : ℕ) → n < 2 ^ 64 → length (shortest n) ≤ 10
shortest_length n lt = (spells_wide n lt).within

pub begins_written : (n : ℕ) (rest : List ℕ) → n < 2 ^ 63 → BeginsShortest (shortest n ++ rest) n rest
begins_written n rest lt = (shortest n, spells_shortest n lt, refl)

pub number_field : (number n : ℕ) → IsTag (8 * number) → n < 2 ^ 64 → SpellsField (shortest_field (entry number (Varint n))) (entry number (Varint n))
number_field number n tag lt = record {
  value = shortest n;
  fits = (omega (arith, tag.0), omega (arith, tag.1));
  tag = (shortest (8 * number + 0), spells_wide (8 * number + 0) (omega (arith, tag.1)), refl);
  content = spells_wide n lt;
}

pub body_field : (number : ℕ) (body : List ℕ) → IsTag (8 * number + 2) → length body < 2 ^ 64 → SpellsField (shortest_field (entry number (Bytes body))) (entry number (Bytes body))
body_field number body tag lt = record {
  value = shortest (length body) ++ body;
  fits = tag;
  tag = (shortest (8 * number + 2), spells_wide (8 * number + 2) (omega (arith, tag.1)), refl);
  content = (shortest (length body), spells_wide (length body) lt, refl);
}

pub two_fields : (f g : Entry) → SpellsField (shortest_field f) f → SpellsField (shortest_field g) g → IsMessage (shortest_field f ++ shortest_field g) (f ∷ g ∷ [])
two_fields f g p q = (shortest_field g, (shortest_field f, p, refl), ([], (shortest_field g, q, sym (append-nil (shortest_field g))), refl))

pub number_length : (number n : ℕ) → 8 * number < 2 ^ 32 → n < 2 ^ 64 → length (shortest_field (entry number (Varint n))) ≤ 20
number_length number n tag lt = omega (arith, length-append (shortest (8 * number + 0)) (shortest n), shortest_length (8 * number + 0) (omega (arith, tag)), shortest_length n lt)

pub body_length : (number : ℕ) (body : List ℕ) → 8 * number + 2 < 2 ^ 32 → length body < 2 ^ 64 → length (shortest_field (entry number (Bytes body))) ≤ 20 + length body
body_length number body tag lt =
    omega (
      arith,
      length-append (shortest (8 * number + 2)) (shortest (length body) ++ body),
      length-append (shortest (length body)) body,
      shortest_length (8 * number + 2) (omega (arith, tag)),
      shortest_length (length body) lt,
    )

content_written : (c : Content) → FitsContent c → SpellsContent (shortest_content c) c
content_written (Varint n) fits = spells_wide n fits
content_written (Fixed64 bytes) fits = (refl, fits)
content_written (Bytes body) fits = (shortest (length body), spells_wide (length body) fits, refl)
content_written (Fixed32 bytes) fits = (refl, fits)

-- a field in its shortest spelling
pub field_written : (f : Entry) → IsWritable f → SpellsField (shortest_field f) f
field_written f w = record {
  value = shortest_content f.content;
  fits = w.0;
  tag = (shortest (8 * f.number + wire_type f.content), spells_wide (8 * f.number + wire_type f.content) (omega (arith, w.0.1)), refl);
  content = content_written f.content w.1;
}

pub written_is_read : WrittenIsRead
written_is_read [] w = refl
written_is_read (f ∷ fields) w =
    (flat_map shortest_field fields, (shortest_field f, field_written f w.0, refl), written_is_read fields w.1)
