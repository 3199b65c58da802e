-- Worked rows of the definitions, each with its place in the standard, or in this project's profile.
use Rattle.std.specs.Prelude.{◌≡◌, ℕ, List, [], ◌∷◌, ◌++◌, replicate}
use Rattle.yamux_frames.specs.declared.header.Header.{Header}
use Rattle.yamux_frames.specs.declared.header.FrameKind.{FrameKind}
use Rattle.yamux_frames.specs.declared.header.FrameKind.TheVariants.{Payload, Window, Ping, GoAway}
use Rattle.yamux_frames.specs.declared.header.FrameFault.TheVariants.{BadVersion, BadType}
use Rattle.yamux_frames.specs.Spelling.{header_bytes, payload_length, HasFault}
use Rattle.yamux_frames.specs.Frames.{Reads, EndsWithin}
use Rattle.yamux_frames.specs.Frames.Arrival.{Head, Byte, Tail, Garbled}

abbrev pub header : FrameKind → ℕ → ℕ → ℕ → Header
header kind flags stream len = record { kind = kind; flags = flags; stream = stream; length = len }

-- twelve bytes: a version, a type, and zeros
abbrev pub twelve : ℕ → ℕ → List ℕ
twelve version kind = version ∷ kind ∷ replicate 10 0

-- a Ping of five, and Data of two bytes on stream 1
abbrev pub ping : Header
ping = header Ping 1 0 5

abbrev pub two : Header
two = header Payload 0 1 2

pub record WorkedRows : Type 0 where
  -- hashicorp yamux, "Framing": version 0, type, flags, stream and length, big-endian
  pub data_header : header_bytes (header Payload 258 16909060 5) ≡ 0 ∷ 0 ∷ 1 ∷ 2 ∷ 1 ∷ 2 ∷ 3 ∷ 4 ∷ 0 ∷ 0 ∷ 0 ∷ 5 ∷ []
  pub window_update_header : header_bytes (header Window 1 1 0) ≡ 0 ∷ 1 ∷ 0 ∷ 1 ∷ 0 ∷ 0 ∷ 0 ∷ 1 ∷ 0 ∷ 0 ∷ 0 ∷ 0 ∷ []
  pub ping_header : header_bytes (header Ping 2 0 7) ≡ 0 ∷ 2 ∷ 0 ∷ 2 ∷ 0 ∷ 0 ∷ 0 ∷ 0 ∷ 0 ∷ 0 ∷ 0 ∷ 7 ∷ []
  pub largest_header : header_bytes (header GoAway 65535 4294967295 4294967295) ≡ 0 ∷ 3 ∷ replicate 10 255
  -- hashicorp yamux, "Length Field": bytes follow the header of Data alone
  pub bytes_follow_data : payload_length (header Payload 0 1 5) ≡ 5
  pub no_bytes_follow_a_window_update : payload_length (header Window 0 1 5) ≡ 0
  -- hashicorp yamux, "Version Field" and "Type Field"; profile: the version is looked at first
  pub version_before_the_type : HasFault (twelve 1 4) BadVersion × ¬ HasFault (twelve 1 4) BadType
  pub last_type : ¬ HasFault (twelve 0 3) BadType × HasFault (twelve 0 4) BadType
  -- hashicorp yamux, "Framing": what an input is read as, the newest first, and what is left over
  pub data_frame : Reads (header_bytes two ++ 7 ∷ 8 ∷ 0 ∷ []) (Tail ∷ Byte 8 ∷ Byte 7 ∷ Head two ∷ []) (0 ∷ [])
  pub nothing_is_read_after_a_fault : Reads (twelve 0 4 ++ 9 ∷ []) (Garbled (twelve 0 4) ∷ []) (9 ∷ [])
  pub ends_within_a_payload : EndsWithin (header_bytes two ++ 7 ∷ [])
  pub ends_after_a_ping : ¬ EndsWithin (header_bytes ping)
