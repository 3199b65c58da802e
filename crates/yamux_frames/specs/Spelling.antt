-- The header of a frame (hashicorp yamux specification, "Framing"): twelve bytes, every number big-endian.
use Rattle.std.specs.Prelude.{◌≡◌, ◌≢◌, ℕ, ◌<◌, ◌^◌, List, ◌∷◌, ◌++◌, length, get_or}
use Rattle.std.specs.Int.{w16, w32, to_be_bytes}
use Rattle.yamux_frames.specs.declared.header.Header.{Header}
use Rattle.yamux_frames.specs.declared.header.FrameKind.{FrameKind}
use Rattle.yamux_frames.specs.declared.header.FrameKind.TheVariants.{Payload, Window, Ping, GoAway}
use Rattle.yamux_frames.specs.declared.header.FrameFault.{FrameFault}
use Rattle.yamux_frames.specs.declared.header.FrameFault.TheVariants.{BadVersion, BadType}

-- Data, WindowUpdate, Ping, GoAway
abbrev pub type_number : FrameKind → ℕ
type_number Payload = 0
type_number Window = 1
type_number Ping = 2
type_number GoAway = 3

-- version 0 (1 byte), type (1), flags (2), stream (4), length (4)
abbrev pub header_bytes : Header → List ℕ
header_bytes h = 0 ∷ type_number h.kind ∷ (to_be_bytes w16 h.flags ++ to_be_bytes w32 h.stream
    ++ to_be_bytes w32 h.length)

-- the numbers fit their bytes
pub record IsHeader (h : Header) : Type 0 where
  pub flags : h.flags < 2 ^ 16
  pub stream : h.stream < 2 ^ 32
  pub length : h.length < 2 ^ 32

-- why these are twelve bytes that are no header: the version is looked at first
abbrev pub HasFault : List ℕ → FrameFault → Type 0
HasFault bytes BadVersion = (length bytes ≡ 12) × (get_or bytes 0 0 ≢ 0)
HasFault bytes BadType = (length bytes ≡ 12) × (get_or bytes 0 0 ≡ 0) × (3 < get_or bytes 1 0)

-- how many bytes follow a header: of Data alone it is the length
abbrev pub length_of : FrameKind → ℕ → ℕ
length_of Payload n = n
length_of Window n = 0
length_of Ping n = 0
length_of GoAway n = 0

abbrev pub payload_length : Header → ℕ
payload_length h = length_of h.kind h.length
