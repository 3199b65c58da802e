-- A text names at most one place, or has at most one fault, and not both.
use Rattle.std.proofs.Common.{arith, refl, ap, ◌≡◌, ◌≢◌, inl, inr, ℕ, ◌/◌, ◌%◌, List, [], ◌∷◌, Option, get_or, sym, subst, ◌∙◌}
use Rattle.std.specs.List.{flat_map}
use Rattle.std.proofs.lemmas.List.{append-nil}
use Rattle.std.specs.declared.net.ipv4_addr.Ipv4Addr.{Ipv4Addr}
use Rattle.std.specs.declared.net.ipv6_addr.Ipv6Addr.{Ipv6Addr}
use Rattle.std.specs.declared.net.ip_addr.IpAddr.{IpAddr}
use Rattle.std.specs.declared.net.ip_addr.IpAddr.TheVariants as addr
use Rattle.std.specs.declared.net.socket_addr.SocketAddr.{SocketAddr}
use Rattle.std.specs.declared.net.socket_addr.SocketAddr.TheVariants as socket
use Rattle.std.specs.Net.Socket.{socket_ip, IsPlainSocket}
use Rattle.multiaddr.specs.declared.protocol.Protocol.TheVariants.{Ip4, Ip6}
use Rattle.multiaddr.specs.declared.socket.Ip.{Ip}
use Rattle.multiaddr.specs.declared.socket.Ip.TheVariants.{V4, V6}
use Rattle.multiaddr.specs.declared.fault.AddrFault.{AddrFault}
use Rattle.multiaddr.specs.declared.fault.AddrFault.TheVariants.{Empty, UnknownProtocol, Cut, BadValue, OutOfMemory}
use Rattle.multiaddr.specs.Part.{Part, spelling, IsOpaque, Address, SpellsAddress}
use Rattle.multiaddr.specs.Given.{IsSocket, GivesPeer, host_part, port_part}
use Rattle.multiaddr.specs.Text.{ReadsParts, TextFault, RefusesText}
use Rattle.multiaddr.proofs.OneAddress.{one_address}
use Rattle.multiaddr.proofs.OneText.{one_text_reading, one_text_fault, text_or_fault}
use Rattle.multiaddr.proofs.TextParts.{are_parts}
use Rattle.node_place.specs.declared.place.Place.{Place}
use Rattle.node_place.specs.declared.place.PlaceFault.{PlaceFault}
use Rattle.node_place.specs.declared.place.PlaceFault.TheVariants.{Addr, NeedsLookup, NoSocket}
use Rattle.node_place.specs.Places.{IsHost, NamesPlace, ReadsPlace, BeginsWithName, RefusesPlace}
use Rattle.node_place.proofs.Spelt.{no_opaque}

-- ---- hosts and ports

made_v4 : List ℕ → Ipv4Addr
made_v4 octets = record { octets = octets }

made_v6 : List ℕ → Ipv6Addr
made_v6 segments = record { segments = segments }

one_host : (host : Ip) (a b : IpAddr) → IsHost host a → IsHost host b → a ≡ b
unfolding made_v4 made_v6
one_host (V4 octets) (addr.V4 x) (addr.V4 y) p q = ap (λ (o : List ℕ). addr.V4 (made_v4 o)) (p ∙ sym q)
one_host (V4 octets) (addr.V4 x) (addr.V6 y) p q = absurd q
one_host (V4 octets) (addr.V6 x) b p q = absurd p
one_host (V6 octets) (addr.V6 x) (addr.V6 y) p q = ap (λ (s : List ℕ). addr.V6 (made_v6 s)) (p ∙ sym q)
one_host (V6 octets) (addr.V6 x) (addr.V4 y) p q = absurd q
one_host (V6 octets) (addr.V4 x) b p q = absurd p

at_v4 : Ipv4Addr → ℕ → SocketAddr
at_v4 ip port = socket.V4 (record { ip = ip; port = port })

at_v6 : Ipv6Addr → ℕ → ℕ → ℕ → SocketAddr
at_v6 ip port flowinfo scope_id = socket.V6 (record { ip = ip; port = port; flowinfo = flowinfo; scope_id = scope_id })

one_socket : (a b : SocketAddr) (port : ℕ) → socket_ip a ≡ socket_ip b → IsPlainSocket a port → IsPlainSocket b port → a ≡ b
unfolding at_v4 at_v6
one_socket (socket.V4 x) (socket.V4 y) port e p q =
    let ips : x.ip ≡ y.ip = cc e in
    ap (λ (ip : Ipv4Addr). at_v4 ip x.port) ips ∙ ap (at_v4 y.ip) (p.0 ∙ sym q.0)
one_socket (socket.V4 x) (socket.V6 y) port e p q = absurd (cc e)
one_socket (socket.V6 x) (socket.V4 y) port e p q = absurd (cc e)
one_socket (socket.V6 x) (socket.V6 y) port e p q =
    let ips : x.ip ≡ y.ip = cc e in
    ap (λ (ip : Ipv6Addr). at_v6 ip x.port x.flowinfo x.scope_id) ips
    ∙ ap (λ (n : ℕ). at_v6 y.ip n x.flowinfo x.scope_id) (p.0 ∙ sym q.0)
    ∙ ap (λ (n : ℕ). at_v6 y.ip y.port n x.scope_id) (p.1 ∙ sym q.1)
    ∙ ap (at_v6 y.ip y.port y.flowinfo) (p.2 ∙ sym q.2)

host_of_part : (host other : Ip) → host_part host ≡ host_part other → host ≡ other
host_of_part (V4 octets) (V4 others) e = ap (λ (p : Part). V4 p.value) e
host_of_part (V4 octets) (V6 others) e = absurd (let kinds : Ip4 ≡ Ip6 = ap (λ (p : Part). p.protocol) e in cc kinds)
host_of_part (V6 octets) (V4 others) e = absurd (let kinds : Ip6 ≡ Ip4 = ap (λ (p : Part). p.protocol) e in cc kinds)
host_of_part (V6 octets) (V6 others) e = ap (λ (p : Part). V6 p.value) e

port_of_part : (port other : ℕ) → port_part port ≡ port_part other → port ≡ other
port_of_part port other e =
    let high : port / 256 ≡ other / 256 = ap (λ (p : Part). get_or p.value 0 0) e in
    let low : port % 256 ≡ other % 256 = ap (λ (p : Part). get_or p.value 1 0) e in omega (arith, high, low)

first_two : (a b c d : Part) (x y : List Part) → a ∷ b ∷ x ≡ c ∷ d ∷ y → (a ≡ c) × (b ≡ d)
first_two a b c d x y e = (cc e, cc e)

-- ---- places

-- the address that a text is read as
pub text_address : (text : List ℕ) (parts : List Part) → ReadsParts text parts
    → SpellsAddress (flat_map spelling parts) (record { parts = parts; opaque = [] })
text_address text parts h = (
  record { some = omega (arith, h.0); parts = are_parts text [] parts h.1; opaque = inl refl },
  sym (append-nil (flat_map spelling parts)),
)

one_peer : (a : Address) (peer other : Option (List ℕ)) → a.opaque ≡ [] → GivesPeer a peer → GivesPeer a other → peer ≡ other
one_peer a peer other none (inl p) (inl q) = p.1 ∙ sym q.1
one_peer a peer other none (inl p) (inr q) = absurd (no_opaque (subst IsOpaque none q.0))
one_peer a peer other none (inr p) q = absurd (no_opaque (subst IsOpaque none p.0))

made : SocketAddr → Option (List ℕ) → Place
made addr peer = record { addr = addr; peer = peer }

one_named : (bytes : List ℕ) (place other : Place) → NamesPlace bytes place → NamesPlace bytes other → place ≡ other
unfolding made
one_named bytes place other g h =
    let same : h.address ≡ g.address = one_address bytes h.address g.address h.spelt g.spelt in
    let there : IsSocket g.address h.host h.port = subst (λ (a : Address). IsSocket a h.host h.port) same h.socket in
    let two = first_two (host_part g.host) (port_part g.port) (host_part h.host) (port_part h.port) g.socket.tail there.tail
    (sym g.socket.parts ∙ there.parts) in
    let hosts : h.host ≡ g.host = sym (host_of_part g.host h.host two.0) in
    let ports : h.port ≡ g.port = sym (port_of_part g.port h.port two.1) in
    let ips : socket_ip place.addr ≡ socket_ip other.addr = one_host g.host (socket_ip place.addr) (socket_ip other.addr) g.same
    (subst (λ (host : Ip). IsHost host (socket_ip other.addr)) hosts h.same) in
    let addrs : place.addr ≡ other.addr = one_socket place.addr other.addr g.port ips g.plain
    (subst (IsPlainSocket other.addr) ports h.plain) in
    let peers : place.peer ≡ other.peer = one_peer g.address place.peer other.peer g.socket.opaque g.peer
    (subst (λ (a : Address). GivesPeer a other.peer) same h.peer) in
    ap (λ (addr : SocketAddr). made addr place.peer) addrs ∙ ap (made other.addr) peers

pub one_place : (text : List ℕ) (place other : Place) → ReadsPlace text place → ReadsPlace text other → place ≡ other
one_place text place other g h = one_named (flat_map spelling g.0) place other g.2
    (subst (λ (parts : List Part). NamesPlace (flat_map spelling parts) other) (one_text_reading text h.0 g.0 h.1 g.1) h.2)

-- ---- faults

-- a fault that is no want of memory is one of the text
of_text : (text : List ℕ) (fault : AddrFault) → fault ≢ OutOfMemory → RefusesText text fault → TextFault text fault
of_text text OutOfMemory other h = absurd (other refl)
of_text text Empty other h = h
of_text text UnknownProtocol other h = h
of_text text Cut other h = h
of_text text BadValue other h = h

abbrev IsOther : PlaceFault → Type 0
IsOther fault = fault ≢ Addr OutOfMemory

text_fault : (text : List ℕ) (fault : AddrFault) → RefusesText text fault → IsOther (Addr fault) → TextFault text fault
text_fault text fault h other = of_text text fault (λ e. other (ap Addr e)) h

-- parts that are read begin with a name or not
named_once : (text : List ℕ) (parts others : List Part) → ReadsParts text parts → ReadsParts text others
    → BeginsWithName parts → ¬ BeginsWithName others
    → ⊥
named_once text parts others g h named unnamed =
    unnamed (subst BeginsWithName (one_text_reading text parts others g h) named)

pub one_fault : (text : List ℕ) (fault other : PlaceFault) → RefusesPlace text fault → RefusesPlace text other
    → fault ≢ Addr OutOfMemory → other ≢ Addr OutOfMemory → fault ≡ other
one_fault text (Addr f) (Addr g) p q a b = ap Addr (one_text_fault text f g (text_fault text f p a) (text_fault text g q b))
one_fault text (Addr f) NeedsLookup p q a b = absurd (text_or_fault text q.0 f q.1 (text_fault text f p a))
one_fault text (Addr f) NoSocket p q a b = absurd (text_or_fault text q.0 f q.1 (text_fault text f p a))
one_fault text NeedsLookup (Addr g) p q a b = absurd (text_or_fault text p.0 g p.1 (text_fault text g q b))
one_fault text NeedsLookup NeedsLookup p q a b = refl
one_fault text NeedsLookup NoSocket p q a b = absurd (named_once text p.0 q.0 p.1 q.1 p.2 q.3)
one_fault text NoSocket (Addr g) p q a b = absurd (text_or_fault text p.0 g p.1 (text_fault text g q b))
one_fault text NoSocket NeedsLookup p q a b = absurd (named_once text q.0 p.0 q.1 p.1 q.2 p.3)
one_fault text NoSocket NoSocket p q a b = refl

-- ---- a place or a fault

pub host_is_no_name : (host : Ip) (parts : List Part) → ¬ BeginsWithName (host_part host ∷ parts)
host_is_no_name (V4 octets) parts (inl e) = absurd (cc e)
host_is_no_name (V4 octets) parts (inr (inl e)) = absurd (cc e)
host_is_no_name (V4 octets) parts (inr (inr e)) = absurd (cc e)
host_is_no_name (V6 octets) parts (inl e) = absurd (cc e)
host_is_no_name (V6 octets) parts (inr (inl e)) = absurd (cc e)
host_is_no_name (V6 octets) parts (inr (inr e)) = absurd (cc e)

pub either : (text : List ℕ) (place : Place) (fault : PlaceFault) → ReadsPlace text place → RefusesPlace text fault
    → fault ≡ Addr OutOfMemory
either text place (Addr OutOfMemory) g h = refl
either text place (Addr Empty) g h = absurd (text_or_fault text g.0 Empty g.1 h)
either text place (Addr UnknownProtocol) g h = absurd (text_or_fault text g.0 UnknownProtocol g.1 h)
either text place (Addr Cut) g h = absurd (text_or_fault text g.0 Cut g.1 h)
either text place (Addr BadValue) g h = absurd (text_or_fault text g.0 BadValue g.1 h)
either text place NeedsLookup g h =
    let bytes = flat_map spelling g.0 in
    let read : g.2.address ≡ record { parts = g.0; opaque = [] } =
    one_address bytes g.2.address (record { parts = g.0; opaque = [] }) g.2.spelt (text_address text g.0 g.1) in
    let parts : h.0 ≡ host_part g.2.host ∷ port_part g.2.port ∷ g.2.socket.tail =
    one_text_reading text h.0 g.0 h.1 g.1 ∙ sym (ap (λ (a : Address). a.parts) read) ∙ g.2.socket.parts in
    absurd (host_is_no_name g.2.host (port_part g.2.port ∷ g.2.socket.tail) (subst BeginsWithName parts h.2))
either text place NoSocket g h =
    let none = h.2 in
    let spelt : SpellsAddress (flat_map spelling g.0) none.0 =
    subst (λ (parts : List Part). SpellsAddress (flat_map spelling parts) none.0) (one_text_reading text h.0 g.0 h.1 g.1) none.1 in
    let same : g.2.address ≡ none.0 = one_address (flat_map spelling g.0) g.2.address none.0 g.2.spelt spelt in
    absurd (none.2 g.2.host g.2.port (subst (λ (a : Address). IsSocket a g.2.host g.2.port) same g.2.socket))
