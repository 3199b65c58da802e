-- Worked rows of the definitions, each with its place in the standard, or in this project's profile.
use Rattle.std.specs.Prelude.{◌≡◌, ℕ, [], ◌∷◌, ◌++◌, replicate, codes, Err}
use Rattle.sha2.specs.Sha256.{sha256}
use Rattle.peer_ids.specs.declared.kind.KeyType.TheVariants.{Rsa, Ed25519}
use Rattle.peer_ids.specs.declared.fault.KeyFault.TheVariants.{NoType}
use Rattle.peer_ids.specs.declared.fault.KeyFault.TheVariants as key
use Rattle.peer_ids.specs.declared.fault.IdFault.TheVariants.{NotB, NotBase32, BadLength, TrailingBits}
use Rattle.peer_ids.specs.Key.{Key, IsAllowed}
use Rattle.peer_ids.specs.ReadsKey.{SpellsKey, RefusesKey}
use Rattle.peer_ids.specs.PeerId.{multihash_of, id_of}
use Rattle.peer_ids.specs.Base32.{IsBase32, id_text}
use Rattle.peer_ids.specs.ReadsText.{ReadsId}

-- an Ed25519 key of 32 equal bytes
abbrev pub key_of_bytes : ℕ → Key
key_of_bytes b = record { kind = Ed25519; body = replicate 32 b }

pub record WorkedRows : Type 0 where
  -- libp2p "Peer Ids and Keys", keys: the type and the data, both required; an Ed25519 key has 32 bytes
  pub key_message : SpellsKey (8 ∷ 1 ∷ 18 ∷ 32 ∷ replicate 32 255) (key_of_bytes 255)
  pub key_without_a_type : RefusesKey (18 ∷ 1 ∷ 0 ∷ []) NoType
  pub key_of_31_bytes : RefusesKey (8 ∷ 1 ∷ 18 ∷ 31 ∷ replicate 31 255) key.BadLength
  -- profile: another key has at most 4096 bytes
  pub longest_key : IsAllowed Rsa 4096 × ¬ IsAllowed Rsa 4097
  -- libp2p "Peer Ids and Keys", peer ids: the key message itself up to 42 bytes, and a SHA2-256 of a longer one
  pub id_of_an_ed25519_key : id_of (key_of_bytes 0) ≡ 0 ∷ 36 ∷ 8 ∷ 1 ∷ 18 ∷ 32 ∷ replicate 32 0
  pub identity_up_to_42_bytes : (multihash_of (replicate 42 7) ≡ 0 ∷ 42 ∷ replicate 42 7)
      × (multihash_of (replicate 43 7) ≡ 18 ∷ 32 ∷ sha256 (replicate 43 7))
  -- RFC 4648, section 10, in lower case and without padding
  pub base32_of_foobar : IsBase32 (codes "mzxw6ytboi") (codes "foobar")
  -- libp2p "Peer Ids and Keys", string representation: multibase `b`, then the bytes 01 72 and the multihash
  pub text_of_an_id : id_text (0 ∷ 36 ∷ 8 ∷ 1 ∷ 18 ∷ 32 ∷ replicate 32 0) ≡ codes "bafzaajaiaejc" ++ replicate 52 97
  -- profile: which texts are refused, and which refusal comes first
  pub not_b_before_its_letters : ReadsId (codes "z1") (Err NotB)
  pub upper_case : ReadsId (codes "bAA") (Err NotBase32)
  pub too_long_before_unused_bits : ReadsId (98 ∷ replicate 76 98) (Err BadLength)
  pub unused_bits : ReadsId (codes "bab") (Err TrailingBits)
