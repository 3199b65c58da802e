-- The canonical message of a key spells it, and is short.
use Rattle.std.proofs.Common.{◌≡◌, ℕ, ◌≤◌, List, [], ◌∷◌, length, refl, arith, inl, inr}
use Rattle.std.proofs.lemmas.Bool.{cases_lt, le-leb, lt-leb}
use Rattle.std.proofs.lemmas.List.{length-append}
use Rattle.sha2.specs.Sha256.{sha256}
use Rattle.sha2.proofs.Facts256.{length-sha256}
use Rattle.varint_proto.specs.Varint.{shortest, shortest_within}
use Rattle.varint_proto.specs.Message.{entry, Varint, Bytes, shortest_field}
use Rattle.varint_proto.proofs.Writing.{number_field, body_field, two_fields, number_length, body_length}
use Rattle.peer_ids.specs.declared.kind.KeyType.{KeyType}
use Rattle.peer_ids.specs.declared.kind.KeyType.TheVariants.{Rsa, Ed25519, Secp256k1, Ecdsa}
use Rattle.peer_ids.specs.Key.{Key, number_of, IsAllowed}
use Rattle.peer_ids.specs.ReadsKey.{SpellsKey}
use Rattle.peer_ids.specs.PeerId.{canonical_of, multihash_of, id_of, IsMultihash}
use Rattle.peer_ids.proofs.Canonical.{number_below}

allowed_below : (kind : KeyType) (len : ℕ) → IsAllowed kind len → len ≤ 4096
allowed_below Rsa len h = h.1
allowed_below Ed25519 len h = omega (arith, h)
allowed_below Secp256k1 len h = h.1
allowed_below Ecdsa len h = h.1

pub canonical_spells : (key : Key) → IsAllowed key.kind (length key.body) → SpellsKey (canonical_of key) key
canonical_spells key h = (
  entry 1 (Varint (number_of key.kind)) ∷ entry 2 (Bytes key.body) ∷ [],
  two_fields (entry 1 (Varint (number_of key.kind))) (entry 2 (Bytes key.body)) (number_field 1 (number_of key.kind) (omega arith, omega arith) (omega (arith, number_below key.kind))) (body_field 2 key.body (omega arith, omega arith) (omega (arith, allowed_below key.kind (length key.body) h))),
  record { kind = refl; body = refl; allowed = h },
)

pub canonical_length : (key : Key) → IsAllowed key.kind (length key.body) → length (canonical_of key) ≤ 4136
canonical_length key h =
    let small = allowed_below key.kind (length key.body) h in
    omega (
      arith,
      small,
      length-append (shortest_field (entry 1 (Varint (number_of key.kind)))) (shortest_field (entry 2 (Bytes key.body))),
      number_length 1 (number_of key.kind) (omega arith) (omega (arith, number_below key.kind)),
      body_length 2 key.body (omega arith) (omega (arith, small)),
    )

multihash_length : (bytes : List ℕ) → length (multihash_of bytes) ≤ 44
multihash_length bytes = elim (cases_lt 42 (length bytes)) [
  | inl more ↦ rw (lt-leb (length bytes) 42 more) (omega (arith, length-sha256 bytes))
  | inr less ↦ rw (le-leb (length bytes) 42 less) (omega (arith, less))
]

pub id_length : (key : Key) → length (id_of key) ≤ 44
id_length key = multihash_length (canonical_of key)

multihash_is : (bytes : List ℕ) → IsMultihash (multihash_of bytes)
multihash_is bytes = elim (cases_lt 42 (length bytes)) [
  | inl more ↦ rw (lt-leb (length bytes) 42 more) (sha256 bytes, inr (refl, length-sha256 bytes))
  | inr less ↦ rw (le-leb (length bytes) 42 less) (bytes, inl (refl, less))
]

pub id_is_multihash : (key : Key) → IsMultihash (id_of key)
id_is_multihash key = multihash_is (canonical_of key)

-- the canonical message of an Ed25519 key, and its id, have its bytes
pub canonical_ed25519 : (body : List ℕ) → length body ≡ 32 → canonical_of (record { kind = Ed25519; body = body }) ≡ 8 ∷ 1 ∷ 18 ∷ 32 ∷ body
unfolding shortest shortest_within
canonical_ed25519 body len = rw len

pub id_of_ed25519 : (body : List ℕ) → length body ≡ 32 → multihash_of (8 ∷ 1 ∷ 18 ∷ 32 ∷ body) ≡ 0 ∷ 36 ∷ 8 ∷ 1 ∷ 18 ∷ 32 ∷ body
id_of_ed25519 body len = rw len
