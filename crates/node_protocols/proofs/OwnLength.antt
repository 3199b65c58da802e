-- How long the message of a node is.
use Rattle.std.proofs.Common.{◌≡◌, ℕ, ◌+◌, List, [], ◌++◌, length, codes, min, refl, ap, arith}
use Rattle.std.proofs.lemmas.Grind.{common_steps}
use Rattle.std.proofs.lemmas.List.{append-nil, length-append}
use Rattle.varint_proto.specs.Varint.{shortest, shortest_within}
use Rattle.varint_proto.specs.Message.{shortest_field, entry, Bytes}
use Rattle.peer_ids.specs.Key.{Key}
use Rattle.peer_ids.specs.PeerId.{canonical_of}
use Rattle.identify_h.specs.Messages.{written}
use Rattle.node_protocols.specs.Own.{own_message}

identify_len : length (shortest_field (entry 3 (Bytes (codes "/ipfs/id/1.0.0")))) ≡ 16
unfolding shortest shortest_within
identify_len = refl

push_len : length (shortest_field (entry 3 (Bytes (codes "/ipfs/id/push/1.0.0")))) ≡ 21
unfolding shortest shortest_within
push_len = refl

ping_len : length (shortest_field (entry 3 (Bytes (codes "/ipfs/ping/1.0.0")))) ≡ 18
unfolding shortest shortest_within
ping_len = refl

version_len : length (shortest_field (entry 5 (Bytes (codes "node/1.0.0")))) ≡ 12
unfolding shortest shortest_within
version_len = refl

joined : (key identify push ping version agent : List ℕ) → length identify ≡ 16 → length push ≡ 21 → length ping ≡ 18 → length version ≡ 12
    → length (key ++ (identify ++ (push ++ (ping ++ (version ++ (agent ++ [])))))) ≡ length key + 67 + length agent
joined key identify push ping version agent one two three four =
    let a = length-append key (identify ++ (push ++ (ping ++ (version ++ (agent ++ []))))) in
    let b = length-append identify (push ++ (ping ++ (version ++ (agent ++ [])))) in
    let c = length-append push (ping ++ (version ++ (agent ++ []))) in
    let d = length-append ping (version ++ (agent ++ [])) in
    let e = length-append version (agent ++ []) in
    let f = ap length (append-nil agent) in
    omega arith

pub own_length : (key : Key) (agent : List ℕ) → length (written (own_message key agent))
    ≡ length (shortest_field (entry 1 (Bytes (canonical_of key)))) + 67 + length (shortest_field (entry 6 (Bytes agent)))
own_length key agent =
    joined (shortest_field (entry 1 (Bytes (canonical_of key))))
    (shortest_field (entry 3 (Bytes (codes "/ipfs/id/1.0.0")))) (shortest_field (entry 3 (Bytes (codes "/ipfs/id/push/1.0.0"))))
    (shortest_field (entry 3 (Bytes (codes "/ipfs/ping/1.0.0")))) (shortest_field (entry 5 (Bytes (codes "node/1.0.0"))))
    (shortest_field (entry 6 (Bytes agent)))
    identify_len push_len ping_len version_len

pub topped : (key agent most one two all : ℕ) → one ≡ min (key + 67) most → two ≡ min (one + agent) most → all ≡ key + 67 + agent → two ≡ min all most
topped key agent most one two all first second sum = grind (arith, common_steps, first, second, sum)
