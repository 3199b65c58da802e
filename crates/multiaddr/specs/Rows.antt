-- Worked rows of the definitions, each with its place in the standard, or in this project's profile.
use Rattle.std.specs.Prelude.{◌≡◌, ℕ, List, [], ◌∷◌, map, replicate, codes}
use Rattle.multiaddr.specs.declared.protocol.Protocol.{Protocol}
use Rattle.multiaddr.specs.declared.protocol.Protocol.TheVariants.{Ip4, Tcp, Ip6, Dns, Dns4, Dns6, P2p}
use Rattle.multiaddr.specs.declared.fault.AddrFault.TheVariants.{Empty, Cut}
use Rattle.multiaddr.specs.Part.{Part, IsValue, SpellsAddress, AddressFault, code_of, part, spelling}
use Rattle.multiaddr.specs.Ip6.{PrintsGroups}
use Rattle.multiaddr.specs.Text.{ReadsValue, ReadsParts, RefusesText, PrintsParts, name_of}

abbrev pub code_and_name : Protocol → ℕ × List ℕ
code_and_name p = (code_of p, name_of p)

-- the parts of /ip4/127.0.0.1/tcp/4001
abbrev pub local : Part
local = part Ip4 (127 ∷ 0 ∷ 0 ∷ 1 ∷ [])

abbrev pub port_4001 : Part
port_4001 = part Tcp (15 ∷ 161 ∷ [])

-- the bytes of /udp/4001, a protocol that isn't known here
abbrev pub udp : List ℕ
udp = 145 ∷ 2 ∷ 15 ∷ 161 ∷ []

pub record WorkedRows : Type 0 where
  -- multiformats multiaddr, table of protocols
  pub table : map code_and_name (Ip4 ∷ Tcp ∷ Ip6 ∷ Dns ∷ Dns4 ∷ Dns6 ∷ P2p ∷ [])
      ≡ (4, codes "ip4") ∷ (6, codes "tcp") ∷ (41, codes "ip6") ∷ (53, codes "dns") ∷ (54, codes "dns4")
      ∷ (55, codes "dns6") ∷ (421, codes "p2p") ∷ []
  -- multiformats multiaddr, encoding: the code as a varint, then the value, with its length where that varies
  pub bytes_of_a_socket : SpellsAddress (4 ∷ 127 ∷ 0 ∷ 0 ∷ 1 ∷ 6 ∷ 15 ∷ 161 ∷ [])
      (record { parts = local ∷ port_4001 ∷ []; opaque = [] })
  pub text_of_a_socket : ReadsParts (codes "/ip4/127.0.0.1/tcp/4001") (local ∷ port_4001 ∷ [])
      × PrintsParts (codes "/ip4/127.0.0.1/tcp/4001") (local ∷ port_4001 ∷ [])
  pub bytes_of_a_peer : spelling (part P2p (0 ∷ 0 ∷ [])) ≡ 165 ∷ 3 ∷ 2 ∷ 0 ∷ 0 ∷ []
  -- RFC 5952, section 4.2: the first of equal runs of zeros is shortened, and one zero group alone is not
  pub first_of_equal_runs : PrintsGroups (codes "::1:0:0:1:0:0") (0 ∷ 0 ∷ 1 ∷ 0 ∷ 0 ∷ 1 ∷ 0 ∷ 0 ∷ [])
  pub one_zero_group_stays : PrintsGroups (codes "2001:db8:0:1:1:1:1:1")
      (8193 ∷ 3512 ∷ 0 ∷ 1 ∷ 1 ∷ 1 ∷ 1 ∷ 1 ∷ [])
  -- profile: refusals and limits, and what is kept of an unknown protocol
  pub cut_by_a_byte : AddressFault (4 ∷ 127 ∷ 0 ∷ 0 ∷ 1 ∷ 6 ∷ 15 ∷ []) Cut
  pub empty_text : RefusesText [] Empty
  pub port_with_a_leading_zero : (value : List ℕ) → ¬ ReadsValue Tcp (codes "04001") value
  pub largest_port : ReadsValue Tcp (codes "65535") (255 ∷ 255 ∷ [])
      × ((value : List ℕ) → ¬ ReadsValue Tcp (codes "65536") value)
  pub longest_name : IsValue Dns (replicate 255 97) × ¬ IsValue Dns (replicate 256 97)
  pub unknown_protocol_is_kept : SpellsAddress (4 ∷ 127 ∷ 0 ∷ 0 ∷ 1 ∷ udp)
      (record { parts = local ∷ []; opaque = udp })
