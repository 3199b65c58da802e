-- The parts of an address, and their spellings (multiformats, "multiaddr"). An address ends with the first code that
-- isn't in the table, as one opaque part: this project's profile.
use Rattle.std.specs.Prelude.{◌≡◌, ◌≢◌, ◌⊎◌, ℕ, ◌+◌, ◌^◌, ◌<◌, ◌≤◌, List, [], ◌++◌, length, All, Ok, Err, None, IsUtf8}
use Rattle.std.specs.List.{flat_map, AllByRecursion}
use Rattle.varint_proto.specs.declared.fault.WireFault.{WireFault}
use Rattle.varint_proto.specs.Varint.{shortest, ReadsShortest}
use Rattle.peer_ids.specs.PeerId.{IsMultihash}
use Rattle.multiaddr.specs.declared.protocol.Protocol.{Protocol}
use Rattle.multiaddr.specs.declared.protocol.Protocol.TheVariants.{Ip4, Tcp, Ip6, Dns, Dns4, Dns6, P2p}
use Rattle.multiaddr.specs.declared.fault.AddrFault.{AddrFault}
use Rattle.multiaddr.specs.declared.fault.AddrFault.TheVariants.{Empty, UnknownProtocol, Cut, BadValue, OutOfMemory}

abbrev pub code_of : Protocol → ℕ
code_of Ip4 = 4
code_of Tcp = 6
code_of Ip6 = 41
code_of Dns = 53
code_of Dns4 = 54
code_of Dns6 = 55
code_of P2p = 421

-- A name of 1 to 255 bytes of UTF-8 with no slash.
pub record IsName (name : List ℕ) : Type 0 where
  pub some : 1 ≤ length name
  pub within : length name ≤ 255
  pub utf8 : IsUtf8 name
  pub whole : All (λ b. b ≢ 47) name

-- The values of a protocol.
abbrev pub IsValue : Protocol → List ℕ → Type 0
IsValue Ip4 value = length value ≡ 4
IsValue Tcp value = length value ≡ 2
IsValue Ip6 value = length value ≡ 16
IsValue P2p value = IsMultihash value
IsValue protocol value = IsName value

pub record Part : Type 0 where
  pub protocol : Protocol
  pub value : List ℕ

abbrev pub part : Protocol → List ℕ → Part
part protocol value = record { protocol = protocol; value = value }

-- the value, with its length before it where values differ in length
abbrev pub sized : Protocol → List ℕ → List ℕ
sized Ip4 value = value
sized Tcp value = value
sized Ip6 value = value
sized protocol value = shortest (length value) ++ value

abbrev pub spelling : Part → List ℕ
spelling p = shortest (code_of p.protocol) ++ sized p.protocol p.value

-- Bytes that begin with a well spelt code which isn't in the table.
abbrev pub IsOpaque : List ℕ → Type 0
IsOpaque bytes = (code : ℕ) × (rest : List ℕ) × (code < 2 ^ 63) × (bytes ≡ shortest code ++ rest)
    × ((p : Protocol) → code_of p ≢ code)

-- An address: parts, and the bytes of the opaque part behind them, or none.
pub record Address : Type 0 where
  pub parts : List Part
  pub opaque : List ℕ

pub record IsAddress (a : Address) : Type 0 where
  pub some : 0 < length a.parts + length a.opaque
  pub parts : AllByRecursion (λ p. IsValue p.protocol p.value) a.parts
  pub opaque : (a.opaque ≡ []) ⊎ IsOpaque a.opaque

abbrev pub bytes_of : Address → List ℕ
bytes_of a = flat_map spelling a.parts ++ a.opaque

-- ---- what keeps bytes from being an address

-- No well spelt number stands at the front.
abbrev pub NumberFault : List ℕ → AddrFault → Type 0
NumberFault bytes Cut = ReadsShortest bytes (Ok None)
NumberFault bytes BadValue = (fault : WireFault) × ReadsShortest bytes (Err fault)
NumberFault bytes Empty = ⊥
NumberFault bytes UnknownProtocol = ⊥
NumberFault bytes OutOfMemory = ⊥

-- No length and so many bytes stand at the front.
abbrev pub BodyFault : List ℕ → AddrFault → Type 0
BodyFault bytes fault = NumberFault bytes fault
    ⊎ ((fault ≡ Cut) × (len : ℕ) × (body : List ℕ) × (len < 2 ^ 63) × (bytes ≡ shortest len ++ body)
    × (length body < len))

-- What keeps the bytes behind a code from beginning with a value.
abbrev pub ValueFault : Protocol → List ℕ → AddrFault → Type 0
ValueFault Ip4 bytes fault = (fault ≡ Cut) × (length bytes < 4)
ValueFault Tcp bytes fault = (fault ≡ Cut) × (length bytes < 2)
ValueFault Ip6 bytes fault = (fault ≡ Cut) × (length bytes < 16)
ValueFault p bytes fault = BodyFault bytes fault
    ⊎ ((fault ≡ BadValue) × (value : List ℕ) × (rest : List ℕ) × (length value < 2 ^ 63)
    × (bytes ≡ sized p value ++ rest) × ¬ IsValue p value)

-- What keeps the bytes from beginning with a part.
abbrev pub PartFault : List ℕ → AddrFault → Type 0
PartFault bytes fault = NumberFault bytes fault
    ⊎ ((p : Protocol) × (rest : List ℕ) × (bytes ≡ shortest (code_of p) ++ rest) × ValueFault p rest fault)

-- Why bytes are no address: the first faulty part from the left decides.
abbrev pub AddressFault : List ℕ → AddrFault → Type 0
AddressFault bytes fault =
    ((fault ≡ Empty) × (bytes ≡ []))
    ⊎ ((parts : List Part) × (rest : List ℕ) × AllByRecursion (λ p. IsValue p.protocol p.value) parts
    × (bytes ≡ flat_map spelling parts ++ rest) × (0 < length rest) × PartFault rest fault)

abbrev pub SpellsAddress : List ℕ → Address → Type 0
SpellsAddress bytes a = IsAddress a × (bytes ≡ bytes_of a)

-- Why bytes are not read. Memory is asked for only where they are an address.
abbrev pub RefusesAddress : List ℕ → AddrFault → Type 0
RefusesAddress bytes OutOfMemory = (a : Address) × SpellsAddress bytes a
RefusesAddress bytes fault = AddressFault bytes fault
