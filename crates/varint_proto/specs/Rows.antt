-- Worked rows of the definitions.
use Rattle.std.specs.Prelude.{◌≡◌, ◌-◌, ◌^◌, [], ◌∷◌, ◌++◌, replicate, codes, Some, Ok, Err}
use Rattle.varint_proto.specs.declared.fault.WireFault.TheVariants.{TooLong, NotShortest, BadNumber}
use Rattle.varint_proto.specs.Varint.{ReadsShortest, BeginsWide, WideFault, shortest}
use Rattle.varint_proto.specs.Message.{entry, Varint, Bytes, Fixed32, Begins, FieldFault, shortest_field}

pub record WorkedRows : Type 0 where
  -- multiformats unsigned-varint: 300 is ac 02; at most 9 bytes; the shortest spelling is required
  pub reads_300 : ReadsShortest (172 ∷ 2 ∷ 9 ∷ []) (Ok (Some (300, 2)))
  pub writes_300 : shortest 300 ≡ 172 ∷ 2 ∷ []
  pub largest_number : ReadsShortest (replicate 8 255 ++ 127 ∷ []) (Ok (Some (2 ^ 63 - 1, 9)))
  pub nine_bytes_without_an_end : ReadsShortest (replicate 9 128) (Err TooLong)
  pub longer_spelling : ReadsShortest (129 ∷ 0 ∷ []) (Err NotShortest)
  -- Protocol Buffers, "Encoding", base 128 varints: a longer spelling is read. Profile: up to 10 bytes, below 2 ^ 64
  pub longer_protobuf_spelling : BeginsWide (129 ∷ 0 ∷ 7 ∷ []) 1 (7 ∷ [])
  pub largest_protobuf_number : BeginsWide (replicate 9 255 ++ 1 ∷ []) (2 ^ 64 - 1) []
  pub protobuf_number_above_64_bits : WideFault (replicate 9 255 ++ 2 ∷ []) TooLong
  -- Protocol Buffers, "Encoding": its messages `{a: 150}` and `{b: "testing"}`, and the largest field number
  pub field_1_is_150 : Begins (8 ∷ 150 ∷ 1 ∷ []) (entry 1 (Varint 150)) []
  pub field_2_is_testing : shortest_field (entry 2 (Bytes (codes "testing"))) ≡ 18 ∷ 7 ∷ codes "testing"
  pub largest_field_number : Begins (253 ∷ 255 ∷ 255 ∷ 255 ∷ 15 ∷ 9 ∷ 8 ∷ 7 ∷ 6 ∷ [])
      (entry 536870911 (Fixed32 (9 ∷ 8 ∷ 7 ∷ 6 ∷ []))) []
  -- profile: of a tag of 33 bits the number is refused before the wire type, here that of a group
  pub number_before_wire_type : FieldFault (131 ∷ 128 ∷ 128 ∷ 128 ∷ 16 ∷ []) BadNumber
