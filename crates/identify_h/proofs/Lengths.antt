-- How long what is written is.
use Rattle.std.proofs.Common.{◌≡◌, ℕ, ◌+◌, length, Option, Some, refl, sym, ap, ◌∙◌, arith}
use Rattle.std.specs.List.{flat_map}
use Rattle.std.specs.Option.{option_map}
use Rattle.std.proofs.lemmas.List.{append-nil, length-append}
use Rattle.varint_proto.specs.Varint.{shortest, shortest_within}
use Rattle.varint_proto.specs.Message.{shortest_field, entry, Bytes, Varint}
use Rattle.peer_ids.specs.declared.kind.KeyType.{KeyType}
use Rattle.peer_ids.specs.declared.kind.KeyType.TheVariants.{Rsa, Ed25519, Secp256k1, Ecdsa}
use Rattle.peer_ids.specs.Key.{Key, number_of}
use Rattle.peer_ids.specs.PeerId.{canonical_of}
use Rattle.identify_h.specs.Messages.{body_if}

type_len : (kind : KeyType) → length (shortest_field (entry 1 (Varint (number_of kind)))) ≡ 2
unfolding shortest shortest_within
type_len Rsa = refl
type_len Ed25519 = refl
type_len Secp256k1 = refl
type_len Ecdsa = refl

pub canonical_len : (key : Key) (n : ℕ) → n ≡ length (shortest_field (entry 2 (Bytes key.body))) → length (canonical_of key) ≡ 2 + n
canonical_len key n is =
    let sum = length-append (shortest_field (entry 1 (Varint (number_of key.kind)))) (shortest_field (entry 2 (Bytes key.body))) in
    let two = type_len key.kind in
    omega arith

pub key_field_len : (found : Option Key) (key : Key) (n : ℕ) → found ≡ Some key → n ≡ length (shortest_field (entry 1 (Bytes (canonical_of key))))
    → n ≡ length (flat_map shortest_field (body_if 1 (option_map canonical_of found)))
key_field_len found key n is len =
    len ∙ ap length (sym (append-nil (shortest_field (entry 1 (Bytes (canonical_of key))))))
    ∙ ap (λ (o : Option Key). length (flat_map shortest_field (body_if 1 (option_map canonical_of o)))) (sym is)
