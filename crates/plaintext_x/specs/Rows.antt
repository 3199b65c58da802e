-- Worked rows of the definitions, each with its place in the standard, or in this project's profile.
use Rattle.std.specs.Prelude.{◌≡◌, ℕ, List, [], ◌∷◌, ◌++◌, replicate, Some, None, Ok, Err}
use Rattle.peer_ids.specs.declared.kind.KeyType.TheVariants.{Ed25519}
use Rattle.peer_ids.specs.Key.{Key}
use Rattle.plaintext_x.specs.declared.fault.ExchangeFault.TheVariants.{TooLong, Wire, NoId, NoKey, BadKey, Differs}
use Rattle.plaintext_x.specs.Exchange.{Exchanges, message_of}

-- the Ed25519 key of 32 zeros, and the id of the Ed25519 key of 32 equal bytes
abbrev pub zeros_key : Key
zeros_key = record { kind = Ed25519; body = replicate 32 0 }

abbrev pub id_of_bytes : ℕ → List ℕ
id_of_bytes b = 0 ∷ 36 ∷ 8 ∷ 1 ∷ 18 ∷ 32 ∷ replicate 32 b

-- fields 1 and 2 of a message
abbrev pub id_field : List ℕ
id_field = 10 ∷ 38 ∷ id_of_bytes 0

abbrev pub key_field : List ℕ
key_field = 18 ∷ 36 ∷ 8 ∷ 1 ∷ 18 ∷ 32 ∷ replicate 32 0

pub record WorkedRows : Type 0 where
  -- libp2p plaintext 2.0.0, "Exchange": a length, then the id and the key, which the other end compares
  pub message_of_79_bytes : message_of zeros_key ≡ 78 ∷ (id_field ++ key_field)
  pub key_is_proven : Exchanges (78 ∷ (id_field ++ key_field) ++ 7 ∷ []) (Ok (Some zeros_key)) 79
  pub id_of_another_key : Exchanges (78 ∷ (10 ∷ 38 ∷ id_of_bytes 255 ++ key_field)) (Err Differs) 79
  -- Protocol Buffers, "Encoding": the last of two ids counts, and two messages of a key are merged
  pub last_id_counts : Exchanges (80 ∷ (10 ∷ 0 ∷ id_field ++ key_field)) (Ok (Some zeros_key)) 81
  pub keys_are_merged : Exchanges (80 ∷ (id_field ++ 18 ∷ 2 ∷ 8 ∷ 1 ∷ 18 ∷ 34 ∷ 18 ∷ 32 ∷ replicate 32 0))
      (Ok (Some zeros_key)) 81
  -- profile: a message has at most 8192 bytes, and which refusal comes first
  pub longest_message : Exchanges (128 ∷ 64 ∷ []) (Ok None) 2
  pub message_of_8193_bytes : Exchanges (129 ∷ 64 ∷ []) (Err TooLong) 2
  pub badly_spelt_length : Exchanges (128 ∷ 0 ∷ []) (Err Wire) 2
  pub no_id : Exchanges (2 ∷ 18 ∷ 0 ∷ []) (Err NoId) 3
  pub no_key_before_a_wrong_id : Exchanges (2 ∷ 10 ∷ 0 ∷ []) (Err NoKey) 3
  pub bad_key_before_a_wrong_id : Exchanges (8 ∷ 10 ∷ 0 ∷ 18 ∷ 4 ∷ 8 ∷ 7 ∷ 18 ∷ 0 ∷ []) (Err BadKey) 9
