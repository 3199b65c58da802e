-- What an address gives: its socket and its peer. This project's profile.
use Rattle.std.specs.Prelude.{◌≡◌, ◌⊎◌, ℕ, ◌/◌, ◌%◌, List, [], ◌∷◌, Option, Some, None}
use Rattle.peer_ids.specs.PeerId.{IsMultihash}
use Rattle.multiaddr.specs.declared.protocol.Protocol.{Protocol}
use Rattle.multiaddr.specs.declared.protocol.Protocol.TheVariants.{Ip4, Tcp, Ip6, P2p}
use Rattle.multiaddr.specs.declared.socket.Ip.{Ip}
use Rattle.multiaddr.specs.declared.socket.Ip.TheVariants.{V4, V6}
use Rattle.multiaddr.specs.Part.{Part, part, spelling, IsOpaque, Address}

-- the part of a host, and the part of a port
abbrev pub host_part : Ip → Part
host_part (V4 octets) = part Ip4 octets
host_part (V6 octets) = part Ip6 octets

abbrev pub port_part : ℕ → Part
port_part port = part Tcp (port / 256 ∷ port % 256 ∷ [])

-- A host, a port, and then nothing or one peer.
pub record IsSocket (a : Address) (ip : Ip) (port : ℕ) : Type 0 where
  pub tail : List Part
  pub parts : a.parts ≡ host_part ip ∷ port_part port ∷ tail
  pub opaque : a.opaque ≡ []
  pub peer : (tail ≡ []) ⊎ ((id : List ℕ) × (tail ≡ part P2p id ∷ []))

-- The bytes behind a socket: none, or those of one peer.
abbrev pub EndsSocket : List ℕ → Type 0
EndsSocket bytes = (bytes ≡ []) ⊎ ((id : List ℕ) × IsMultihash id × (bytes ≡ spelling (part P2p id)))

-- The socket of an address, where it has one.
abbrev pub GivesSocket : Address → Option (Ip × ℕ) → Type 0
GivesSocket a (Some socket) = IsSocket a socket.0 socket.1
GivesSocket a None = (ip : Ip) (port : ℕ) → ¬ IsSocket a ip port

-- the value of a part of a peer
abbrev pub peer_in : Protocol → List ℕ → Option (List ℕ)
peer_in P2p value = Some value
peer_in protocol value = None

-- the peer of the last part, where that names one
abbrev pub last_peer : List Part → Option (List ℕ)
last_peer [] = None
last_peer (p ∷ []) = peer_in p.protocol p.value
last_peer (p ∷ q ∷ parts) = last_peer (q ∷ parts)

-- The peer of an address is that of its last part, and an opaque part names none.
abbrev pub GivesPeer : Address → Option (List ℕ) → Type 0
GivesPeer a peer = ((a.opaque ≡ []) × (peer ≡ last_peer a.parts)) ⊎ (IsOpaque a.opaque × (peer ≡ None))
