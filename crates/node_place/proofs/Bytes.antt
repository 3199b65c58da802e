-- The bytes of a socket's address.
use Rattle.std.proofs.Common.{arith, refl, ap, ◌≡◌, ℕ, ◌/◌, ◌%◌, ◌*◌, ◌+◌, ◌^◌, ◌<◌, List, [], ◌∷◌, ◌++◌, append_assoc, sym, ◌∙◌}
use Rattle.std.specs.List.{flat_map}
use Rattle.std.specs.Net.Addr.{segments_of, octets_of}
use Rattle.varint_proto.specs.Varint.{shortest, shortest_within}
use Rattle.multiaddr.specs.declared.socket.Ip.{Ip}
use Rattle.multiaddr.specs.declared.socket.Ip.TheVariants.{V4, V6}
use Rattle.multiaddr.specs.Part.{spelling}
use Rattle.multiaddr.specs.Given.{host_part, port_part}

-- the code of a host's protocol, and its octets
abbrev pub code_byte : Ip → ℕ
code_byte (V4 octets) = 4
code_byte (V6 octets) = 41

abbrev pub octets_in : Ip → List ℕ
octets_in (V4 octets) = octets
octets_in (V6 octets) = octets

host_spelling : (host : Ip) → spelling (host_part host) ≡ code_byte host ∷ octets_in host
unfolding shortest shortest_within
host_spelling (V4 octets) = refl
host_spelling (V6 octets) = refl

port_spelling : (port : ℕ) → spelling (port_part port) ≡ 6 ∷ port / 256 ∷ port % 256 ∷ []
unfolding shortest shortest_within
port_spelling port = refl

-- the high byte of a port is one
pub high_byte : (port : ℕ) → port < 2 ^ 16 → port / 256 % 256 ∷ port % 256 ∷ [] ≡ port / 256 ∷ port % 256 ∷ []
high_byte port within =
    let same : port / 256 % 256 ≡ port / 256 = omega (arith, within) in λ i. same i ∷ port % 256 ∷ []

-- a host's code and its octets, each put behind nothing
pub host_put : (host : Ip) (empty pushed bytes : List ℕ) → empty ≡ [] → pushed ≡ empty ++ code_byte host ∷ []
    → bytes ≡ pushed ++ octets_in host → bytes ≡ spelling (host_part host)
host_put host empty pushed bytes none code octets =
    octets ∙ ap (λ (t : List ℕ). t ++ octets_in host) (code ∙ ap (λ (t : List ℕ). t ++ code_byte host ∷ []) none)
    ∙ sym (host_spelling host)

-- a port's code and its two bytes, put behind a host
pub port_put : (host : Ip) (port : ℕ) (before pushed bytes : List ℕ) → before ≡ spelling (host_part host)
    → pushed ≡ before ++ 6 ∷ [] → bytes ≡ pushed ++ port / 256 ∷ port % 256 ∷ []
    → bytes ≡ flat_map spelling (host_part host ∷ port_part port ∷ [])
port_put host port before pushed bytes first code number =
    let two = port / 256 ∷ port % 256 ∷ [] in
    number ∙ ap (λ (t : List ℕ). t ++ two) (code ∙ ap (λ (t : List ℕ). t ++ 6 ∷ []) first)
    ∙ append_assoc (spelling (host_part host)) (6 ∷ []) two
    ∙ ap (λ (t : List ℕ). spelling (host_part host) ++ (t ++ [])) (sym (port_spelling port))

pub segments_again : (segments : List ℕ) → segments_of (octets_of segments) ≡ segments
segments_again [] = refl
segments_again (s ∷ segments) =
    let whole : s / 256 * 256 + s % 256 ≡ s = omega arith in
    λ i. whole i ∷ segments_again segments i
