-- What is printed of a socket names it.
use Rattle.std.proofs.Common.{arith, refl, ap, ◌≡◌, inl, ℕ, suc, ◌/◌, ◌%◌, ◌^◌, ◌<◌, List, [], ◌∷◌, None, get_or, sym, subst, ◌∙◌}
use Rattle.std.specs.Prelude.{All}
use Rattle.std.specs.List.{flat_map, AllByRecursion}
use Rattle.std.proofs.lemmas.List.Elements.{All-from_recursion, All-from_get_or}
use Rattle.std.specs.declared.net.ip_addr.IpAddr.{IpAddr}
use Rattle.std.specs.declared.net.ip_addr.IpAddr.TheVariants as addr
use Rattle.std.specs.declared.net.socket_addr.SocketAddr.{SocketAddr}
use Rattle.std.specs.declared.net.socket_addr.SocketAddr.TheVariants as socket
use Rattle.std.specs.Net.Addr.{IsIpv4Addr, IsIpv6Addr, ipv6_segments, segments_of, octets_of}
use Rattle.std.specs.Net.Socket.{socket_ip, socket_port, IsSocketAddr, IsPlainSocket}
use Rattle.multiaddr.specs.declared.socket.Ip.{Ip}
use Rattle.multiaddr.specs.declared.socket.Ip.TheVariants.{V4, V6}
use Rattle.multiaddr.specs.Part.{spelling, IsValue}
use Rattle.multiaddr.specs.Given.{host_part, port_part}
use Rattle.multiaddr.specs.Laws.{AreValues}
use Rattle.multiaddr.specs.Text.{PrintsValue}
use Rattle.multiaddr.proofs.OneText.{printed_is_read}
use Rattle.multiaddr.proofs.Values.{length-octets_of}
use Rattle.node_place.specs.Places.{IsHost, ReadsPlace, PrintsSocket}
use Rattle.node_place.proofs.Bytes.{segments_again}
use Rattle.node_place.proofs.Spelt.{socket_address, is_spelt}

abbrev AreOctets : Ip → Type 0
AreOctets host = IsValue (host_part host).protocol (host_part host).value × All (λ b. b < 256) (host_part host).value

-- what the kit keeps of an address
abbrev IsIp : IpAddr → Type 0
IsIp (addr.V4 ip) = IsIpv4Addr ip
IsIp (addr.V6 ip) = IsIpv6Addr ip

fits : (a : SocketAddr) → IsSocketAddr a → IsIp (socket_ip a) × (socket_port a < 2 ^ 16)
fits (socket.V4 a) h = (h.0, h.1)
fits (socket.V6 a) h = (h.0, h.1)

octets_fit : (segments : List ℕ) → ((k : ℕ) → get_or segments k 0 < 2 ^ 16) → AllByRecursion (λ b. b < 256) (octets_of segments)
octets_fit [] h = tt
octets_fit (s ∷ segments) h = (omega (arith, h 0), (omega arith, octets_fit segments (λ k. h (suc k))))

are_octets : (host : Ip) (ip : IpAddr) (text : List ℕ) → IsHost host ip → IsIp ip
    → PrintsValue (host_part host).protocol text (host_part host).value → AreOctets host
are_octets (V4 octets) (addr.V4 ip) text same is h =
    subst (λ (o : List ℕ). AreOctets (V4 o)) same (is.0, All-from_get_or (λ b. b < 256) ip.octets 0 (λ i lt. is.1 i))
are_octets (V4 octets) (addr.V6 ip) text same is h = absurd same
are_octets (V6 octets) (addr.V4 ip) text same is h = absurd same
are_octets (V6 octets) (addr.V6 ip) text same is h =
    let groups : h.0 ≡ ipv6_segments ip = sym (segments_again h.0) ∙ ap segments_of (sym h.2) ∙ sym same in
    let those : octets_of (ipv6_segments ip) ≡ octets = sym (h.2 ∙ ap octets_of groups) in
    subst (λ (o : List ℕ). AreOctets (V6 o)) those (
      omega (arith, length-octets_of (ipv6_segments ip), is.0),
      All-from_recursion (λ b. b < 256) (octets_of (ipv6_segments ip)) (octets_fit (ipv6_segments ip) is.1),
    )

port_fits : (port : ℕ) → port < 2 ^ 16 → All (λ b. b < 256) (port_part port).value
port_fits port within =
    All-from_recursion (λ b. b < 256) (port / 256 ∷ port % 256 ∷ []) (omega (arith, within), (omega arith, tt))

pub printed_names : (text : List ℕ) (addr : SocketAddr) → IsSocketAddr addr → IsPlainSocket addr (socket_port addr)
    → PrintsSocket text addr → ReadsPlace text (record { addr = addr; peer = None })
printed_names text addr is plain h =
    let fit = fits addr is in
    let host = are_octets h.0 (socket_ip addr) h.2.0 h.1 fit.0 h.2.2 in
    let parts = host_part h.0 ∷ port_part (socket_port addr) ∷ [] in
    let values : AreValues parts = (host, ((refl, port_fits (socket_port addr) fit.1), tt)) in (
      parts,
      printed_is_read text parts values (omega arith) h.2,
      record {
        address = socket_address h.0 (socket_port addr);
        spelt = is_spelt h.0 (socket_port addr) (flat_map spelling parts) host.0 refl;
        host = h.0;
        port = socket_port addr;
        socket = record { tail = []; parts = refl; opaque = refl; peer = inl refl };
        same = h.1;
        plain = plain;
        peer = inl (refl, refl);
      },
    )
