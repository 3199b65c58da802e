-- The place that an address names: the socket and the peer that multiaddr gives of it, and why a text names none.
-- Source: multiformats multiaddr, "Specification", and its protocols ip4, ip6, tcp, dns, dns4, dns6 and p2p.
use Rattle.std.specs.Prelude.{◌≡◌, ◌⊎◌, ℕ, List, [], ◌∷◌}
use Rattle.std.specs.List.{flat_map}
use Rattle.std.specs.declared.net.ip_addr.IpAddr.{IpAddr}
use Rattle.std.specs.declared.net.socket_addr.SocketAddr.{SocketAddr}
use Rattle.std.specs.Net.Addr.{IsV4And, IsV6And, ipv4_octets, ipv6_segments, segments_of}
use Rattle.std.specs.Net.Socket.{socket_ip, socket_port, IsPlainSocket}
use Rattle.multiaddr.specs.Part.{Part, Address, SpellsAddress, spelling}
use Rattle.multiaddr.specs.Text.{ReadsParts, RefusesText, PrintsParts}
use Rattle.multiaddr.specs.Given.{IsSocket, GivesPeer, host_part, port_part}
use Rattle.multiaddr.specs.declared.protocol.Protocol.TheVariants.{Dns, Dns4, Dns6}
use Rattle.multiaddr.specs.declared.socket.Ip.{Ip}
use Rattle.multiaddr.specs.declared.socket.Ip.TheVariants.{V4, V6}
use Rattle.node_place.specs.declared.place.Place.{Place}
use Rattle.node_place.specs.declared.place.PlaceFault.{PlaceFault}
use Rattle.node_place.specs.declared.place.PlaceFault.TheVariants.{Addr, NeedsLookup, NoSocket}

-- This host has these octets.
abbrev pub IsHost : Ip → IpAddr → Type 0
IsHost (V4 octets) host = IsV4And host (λ ip. ipv4_octets ip ≡ octets)
IsHost (V6 octets) host = IsV6And host (λ ip. ipv6_segments ip ≡ segments_of octets)

-- The address of these bytes is that of a socket, and this is its place.
pub record NamesPlace (bytes : List ℕ) (place : Place) : Type 0 where
  pub address : Address
  pub spelt : SpellsAddress bytes address
  pub host : Ip
  pub port : ℕ
  pub socket : IsSocket address host port
  pub same : IsHost host (socket_ip place.addr)
  pub plain : IsPlainSocket place.addr port
  pub peer : GivesPeer address place.peer

-- The text names this place.
abbrev pub ReadsPlace : List ℕ → Place → Type 0
ReadsPlace text place = (parts : List Part) × ReadsParts text parts × NamesPlace (flat_map spelling parts) place

-- Parts that begin with a name, which would have to be looked up.
abbrev pub BeginsWithName : List Part → Type 0
BeginsWithName [] = ⊥
BeginsWithName (p ∷ parts) = (p.protocol ≡ Dns) ⊎ (p.protocol ≡ Dns4) ⊎ (p.protocol ≡ Dns6)

-- The address of these bytes is that of no socket.
abbrev pub IsNoSocket : List ℕ → Type 0
IsNoSocket bytes = (a : Address) × SpellsAddress bytes a × ((ip : Ip) (port : ℕ) → ¬ IsSocket a ip port)

-- Why a text names no place.
abbrev pub RefusesPlace : List ℕ → PlaceFault → Type 0
RefusesPlace text (Addr fault) = RefusesText text fault
RefusesPlace text NeedsLookup = (parts : List Part) × ReadsParts text parts × BeginsWithName parts
RefusesPlace text NoSocket =
    (parts : List Part) × ReadsParts text parts × IsNoSocket (flat_map spelling parts) × ¬ BeginsWithName parts

-- The text of a socket's address: its host, then its port.
abbrev pub PrintsSocket : List ℕ → SocketAddr → Type 0
PrintsSocket text addr = (host : Ip) × IsHost host (socket_ip addr)
    × PrintsParts text (host_part host ∷ port_part (socket_port addr) ∷ [])
