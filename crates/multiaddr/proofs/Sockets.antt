-- What an address gives: its socket and its peer.
use Rattle.std.proofs.Common.{◌≡◌, ◌≢◌, ◌⊎◌, ℕ, ◌<◌, Option, Some, None, List, [], ◌∷◌, ◌++◌, length, refl, sym, ap, ◌∙◌, subst, arith, inl, inr, append_assoc}
use Rattle.std.specs.Prelude.{IfNone}
use Rattle.std.specs.List.{flat_map}
use Rattle.std.proofs.lemmas.List.{append-nil}
use Rattle.multiaddr.specs.declared.protocol.Protocol.{Protocol}
use Rattle.multiaddr.specs.declared.protocol.Protocol.TheVariants.{Ip4, Tcp, Ip6, Dns, Dns4, Dns6, P2p}
use Rattle.multiaddr.specs.Part.{Part, part, spelling, IsValue, IsOpaque, Address, IsAddress, SpellsAddress}
use Rattle.multiaddr.specs.declared.socket.Ip.{Ip}
use Rattle.multiaddr.specs.Given.{host_part, port_part, peer_in, last_peer, GivesPeer, IsSocket, EndsSocket}
use Rattle.multiaddr.proofs.Parts.{AreParts, more_parts, flat_map-more}
use Rattle.multiaddr.proofs.OneAddress.{IsStuck, stuck_nil, stuck_opaque, stuck_end, one_part, one_parts}

pub none_stands : {X : Type 0} (bytes : List ℕ) (read : Option X) → IfNone read (IsOpaque bytes) → IfNone read (IsStuck bytes)
none_stands bytes None h = stuck_opaque bytes h
none_stands bytes (Some x) h = tt

-- the parts so far, the peer of the last of them, and the bytes that are left
pub record PeerSoFar (bytes rest : List ℕ) (peer : Option (List ℕ)) : Type 0 where
  pub parts : List Part
  pub are_parts : AreParts parts
  pub spelt : bytes ≡ flat_map spelling parts ++ rest
  pub peer_is : peer ≡ last_peer parts

last_peer-more : (parts : List Part) (p : Part) → last_peer (parts ++ p ∷ []) ≡ peer_in p.protocol p.value
last_peer-more [] p = refl
last_peer-more (q ∷ []) p = refl
last_peer-more (q ∷ r ∷ parts) p = last_peer-more (r ∷ parts) p

pub peer_more : (bytes middle rest value : List ℕ) (p : Protocol) (peer next : Option (List ℕ)) → PeerSoFar bytes middle peer → IsValue p value → middle ≡ spelling (part p value) ++ rest → next ≡ peer_in p value → PeerSoFar bytes rest next
peer_more bytes middle rest value p peer next h v e n = record {
  parts = h.parts ++ part p value ∷ [];
  are_parts = more_parts h.parts (part p value) h.are_parts v;
  spelt = h.spelt ∙ ap (λ (t : List ℕ). flat_map spelling h.parts ++ t) e ∙ sym (append_assoc (flat_map spelling h.parts) (spelling (part p value)) rest) ∙ ap (λ (t : List ℕ). t ++ rest) (sym (flat_map-more h.parts (part p value)));
  peer_is = n ∙ sym (last_peer-more h.parts (part p value));
}

-- the parts so far are all, and no opaque part follows
pub peer_whole : (bytes rest : List ℕ) (peer : Option (List ℕ)) → length rest ≡ 0 → PeerSoFar bytes rest peer → (a : Address) → SpellsAddress bytes a → GivesPeer a peer
peer_whole bytes (x ∷ rest) peer e h a s = absurd (omega (arith, e))
peer_whole bytes [] peer e h a s =
    let same = one_parts h.parts a.parts [] a.opaque h.are_parts s.0.parts stuck_nil (stuck_end a s.0) (sym h.spelt ∙ s.1) in
    inl (sym same.1, h.peer_is ∙ ap last_peer same.0)

opaque_end : (a : Address) → IsAddress a → a.opaque ≢ [] → IsOpaque a.opaque
opaque_end a h some = elim h.opaque [ inl none ↦ absurd (some none) | inr known ↦ known ]

-- no part stands at what is left
pub peer_stuck : (bytes rest : List ℕ) (peer : Option (List ℕ)) → 0 < length rest → IsStuck rest → PeerSoFar bytes rest peer → (a : Address) → SpellsAddress bytes a → GivesPeer a None
peer_stuck bytes rest peer some stuck h a s =
    let same = one_parts h.parts a.parts rest a.opaque h.are_parts s.0.parts stuck (stuck_end a s.0) (sym h.spelt ∙ s.1) in
    inr (opaque_end a s.0 (λ e. omega (arith, some, ap length (same.1 ∙ e))), refl)

-- ---- the socket

-- the part at the front is the first part
pub front : (parts : List Part) (opaque rest value : List ℕ) (p : Protocol) → AreParts parts → IsStuck opaque → IsValue p value → flat_map spelling parts ++ opaque ≡ spelling (part p value) ++ rest
    → (tail : List Part) × (parts ≡ part p value ∷ tail) × AreParts tail × (flat_map spelling tail ++ opaque ≡ rest)
front [] opaque rest value p are stuck v e = absurd (stuck p value rest v e)
front (q ∷ parts) opaque rest value p are stuck v e =
    let same = one_part q.protocol p q.value value (flat_map spelling parts ++ opaque) rest are.0 v (sym (append_assoc (spelling q) (flat_map spelling parts) opaque) ∙ e) in
    (parts, ap (λ (r : Part). r ∷ parts) same.0, are.1, same.1)

-- where no part stands at the front, there is none
pub no_front : (parts : List Part) (opaque bytes : List ℕ) → AreParts parts → flat_map spelling parts ++ opaque ≡ bytes → IsStuck bytes → parts ≡ []
no_front [] opaque bytes are e stuck = refl
no_front (q ∷ parts) opaque bytes are e stuck = absurd (stuck q.protocol q.value (flat_map spelling parts ++ opaque) are.0 (sym e ∙ append_assoc (spelling q) (flat_map spelling parts) opaque))

nothing_joined : (parts : List Part) (opaque : List ℕ) → AreParts parts → flat_map spelling parts ++ opaque ≡ [] → (parts ≡ []) × (opaque ≡ [])
nothing_joined parts opaque are e =
    let none = no_front parts opaque [] are e stuck_nil in
    (none, subst (λ (ps : List Part). flat_map spelling ps ++ opaque ≡ []) none e)

-- what follows the host and the port of an address that has a socket ends it
pub socket_ends : (tail rest_parts : List Part) (opaque : List ℕ) → AreParts tail → tail ≡ rest_parts → opaque ≡ [] → (rest_parts ≡ []) ⊎ ((id : List ℕ) × (rest_parts ≡ part P2p id ∷ [])) → EndsSocket (flat_map spelling tail ++ opaque)
socket_ends tail rest_parts opaque are e o (inl none) = rw (e ∙ none, o) (inl refl)
socket_ends tail rest_parts opaque are e o (inr peer) =
    let is : tail ≡ part P2p peer.0 ∷ [] = e ∙ peer.1 in
    let valid = subst AreParts is are in
    inr (peer.0, valid.0, rw (is, o) (append-nil (spelling (part P2p peer.0) ++ []) ∙ append-nil (spelling (part P2p peer.0))))

-- and what ends it is nothing or one peer
pub ends_socket : (tail : List Part) (opaque : List ℕ) → AreParts tail → IsStuck opaque → EndsSocket (flat_map spelling tail ++ opaque) → (opaque ≡ []) × ((tail ≡ []) ⊎ ((id : List ℕ) × (tail ≡ part P2p id ∷ [])))
ends_socket tail opaque are stuck (inl none) = let nothing = nothing_joined tail opaque are none in (nothing.1, inl nothing.0)
ends_socket tail opaque are stuck (inr peer) =
    let first = front tail opaque [] peer.0 P2p are stuck peer.1 (peer.2 ∙ sym (append-nil (spelling (part P2p peer.0)))) in
    let nothing = nothing_joined first.0 opaque first.2 first.3 in
    (nothing.1, inr (peer.0, first.1 ∙ ap (λ (t : List Part). part P2p peer.0 ∷ t) nothing.0))

pub ends_by_peer : (bytes rest value : List ℕ) (p : Protocol) → IsValue p value → (peer_in p value ≡ None → ⊥) → bytes ≡ spelling (part p value) ++ rest → length rest ≡ 0 → EndsSocket bytes
ends_by_peer bytes (x ∷ rest) value p v some e none = absurd (omega (arith, none))
ends_by_peer bytes [] value P2p v some e none = inr (value, v, e ∙ append-nil (spelling (part P2p value)))
ends_by_peer bytes [] value Ip4 v some e none = absurd (some refl)
ends_by_peer bytes [] value Tcp v some e none = absurd (some refl)
ends_by_peer bytes [] value Ip6 v some e none = absurd (some refl)
ends_by_peer bytes [] value Dns v some e none = absurd (some refl)
ends_by_peer bytes [] value Dns4 v some e none = absurd (some refl)
ends_by_peer bytes [] value Dns6 v some e none = absurd (some refl)

-- the one part at the front of what ends a socket
one_end : (bytes rest value : List ℕ) (p : Protocol) → IsValue p value → bytes ≡ spelling (part p value) ++ rest → EndsSocket bytes → (p ≡ P2p) × (rest ≡ [])
one_end bytes rest value p v e (inl none) = absurd (stuck_nil p value rest v (sym none ∙ e))
one_end bytes rest value p v e (inr peer) =
    let same = one_part p P2p value peer.0 rest [] v peer.1 (sym e ∙ peer.2 ∙ sym (append-nil (spelling (part P2p peer.0)))) in
    (ap (λ (r : Part). r.protocol) same.0, same.1)

pub ends_in_peer : (bytes rest value : List ℕ) (p : Protocol) → IsValue p value → bytes ≡ spelling (part p value) ++ rest → EndsSocket bytes → peer_in p value ≡ None → ⊥
ends_in_peer bytes rest value p v e h none =
    let here : peer_in P2p value ≡ None = subst (λ (q : Protocol). peer_in q value ≡ None) (one_end bytes rest value p v e h).0 none in
    absurd cc

pub ends_whole : (bytes rest value : List ℕ) (p : Protocol) → IsValue p value → bytes ≡ spelling (part p value) ++ rest → EndsSocket bytes → length rest ≡ 0
ends_whole bytes rest value p v e h = ap length (one_end bytes rest value p v e h).1

pub no_end : (bytes : List ℕ) → 0 < length bytes → IsStuck bytes → EndsSocket bytes → ⊥
no_end bytes some stuck (inl none) = omega (arith, some, ap length none)
no_end bytes some stuck (inr peer) = stuck P2p peer.0 [] peer.1 (peer.2 ∙ sym (append-nil (spelling (part P2p peer.0))))

-- ---- each way in which an address has no socket, and the one in which it has one

-- the parts behind the first one
behind : (bytes rest value : List ℕ) (p : Protocol) (a : Address) → SpellsAddress bytes a → IsValue p value → bytes ≡ spelling (part p value) ++ rest → (tail : List Part) × (a.parts ≡ part p value ∷ tail) × AreParts tail × (flat_map spelling tail ++ a.opaque ≡ rest)
behind bytes rest value p a s v e = front a.parts a.opaque rest value p s.0.parts (stuck_end a s.0) v (sym s.1 ∙ e)

head_of : (p q : Part) (ps qs : List Part) → p ∷ ps ≡ q ∷ qs → p ≡ q
head_of p q ps qs e = cc

tail_of : (p q : Part) (ps qs : List Part) → p ∷ ps ≡ q ∷ qs → ps ≡ qs
tail_of p q ps qs e = cc

pub other_host : (bytes rest value : List ℕ) (p : Protocol) → IsValue p value → bytes ≡ spelling (part p value) ++ rest → ((ip : Ip) → part p value ≢ host_part ip) → (a : Address) → SpellsAddress bytes a → (ip : Ip) (port : ℕ) → ¬ IsSocket a ip port
other_host bytes rest value p v e other a s ip port h =
    let first = behind bytes rest value p a s v e in
    other ip (head_of (part p value) (host_part ip) first.0 (port_part port ∷ h.tail) (sym first.1 ∙ h.parts))

pub no_port : (bytes rest value : List ℕ) (p : Protocol) → IsValue p value → bytes ≡ spelling (part p value) ++ rest → IsStuck rest → (a : Address) → SpellsAddress bytes a → (ip : Ip) (port : ℕ) → ¬ IsSocket a ip port
no_port bytes rest value p v e stuck a s ip port h =
    let first = behind bytes rest value p a s v e in
    let none : first.0 ≡ [] = no_front first.0 a.opaque rest first.2 first.3 stuck in
    let more : first.0 ≡ port_part port ∷ h.tail = tail_of (part p value) (host_part ip) first.0 (port_part port ∷ h.tail) (sym first.1 ∙ h.parts) in
    let absent : port_part port ∷ h.tail ≡ [] = sym more ∙ none in
    absurd cc

-- two parts, and the parts behind them
record Two (a : Address) (p q : Part) (rest : List ℕ) : Type 0 where
  tail : List Part
  parts : a.parts ≡ p ∷ q ∷ tail
  are_parts : AreParts tail
  left : flat_map spelling tail ++ a.opaque ≡ rest

two : (bytes middle rest value other : List ℕ) (p q : Protocol) → IsValue p value → bytes ≡ spelling (part p value) ++ middle → IsValue q other → middle ≡ spelling (part q other) ++ rest → (a : Address) → SpellsAddress bytes a → Two a (part p value) (part q other) rest
two bytes middle rest value other p q v e w f a s =
    let first = behind bytes middle value p a s v e in
    let second = front first.0 a.opaque rest other q first.2 (stuck_end a s.0) w (first.3 ∙ f) in
    record { tail = second.0; parts = first.1 ∙ ap (λ (t : List Part). part p value ∷ t) second.1; are_parts = second.2; left = second.3 }

second_of : (p q r t : Part) (ps qs : List Part) → p ∷ q ∷ ps ≡ r ∷ t ∷ qs → (q ≡ t) × (ps ≡ qs)
second_of p q r t ps qs e = (cc, cc)

pub other_port : (bytes middle rest value other : List ℕ) (p q : Protocol) → IsValue p value → bytes ≡ spelling (part p value) ++ middle → IsValue q other → middle ≡ spelling (part q other) ++ rest → ((port : ℕ) → part q other ≢ port_part port)
    → (a : Address) → SpellsAddress bytes a → (ip : Ip) (port : ℕ) → ¬ IsSocket a ip port
other_port bytes middle rest value other p q v e w f none a s ip port h =
    let both = two bytes middle rest value other p q v e w f a s in
    none port (second_of (part p value) (part q other) (host_part ip) (port_part port) both.tail h.tail (sym both.parts ∙ h.parts)).0

pub other_end : (bytes middle rest value other : List ℕ) (p q : Protocol) → IsValue p value → bytes ≡ spelling (part p value) ++ middle → IsValue q other → middle ≡ spelling (part q other) ++ rest → (EndsSocket rest → ⊥)
    → (a : Address) → SpellsAddress bytes a → (ip : Ip) (port : ℕ) → ¬ IsSocket a ip port
other_end bytes middle rest value other p q v e w f none a s ip port h =
    let both = two bytes middle rest value other p q v e w f a s in
    let tails = (second_of (part p value) (part q other) (host_part ip) (port_part port) both.tail h.tail (sym both.parts ∙ h.parts)).1 in
    none (subst EndsSocket both.left (socket_ends both.tail h.tail a.opaque both.are_parts tails h.opaque h.peer))

pub socket_is : (bytes middle rest value other : List ℕ) (p q : Protocol) (ip : Ip) (port : ℕ) → IsValue p value → bytes ≡ spelling (part p value) ++ middle → part p value ≡ host_part ip → IsValue q other → middle ≡ spelling (part q other) ++ rest → part q other ≡ port_part port → EndsSocket rest
    → (a : Address) → SpellsAddress bytes a → IsSocket a ip port
socket_is bytes middle rest value other p q ip port v e host w f number end a s =
    let both = two bytes middle rest value other p q v e w f a s in
    let ended = ends_socket both.tail a.opaque both.are_parts (stuck_end a s.0) (subst EndsSocket (sym both.left) end) in
    record { tail = both.tail; parts = both.parts ∙ ap (λ (t : List Part). part p value ∷ t) (ap (λ (r : Part). r ∷ both.tail) number) ∙ ap (λ (r : Part). r ∷ port_part port ∷ both.tail) host; opaque = ended.0; peer = ended.1 }
