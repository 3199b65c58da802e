-- The list of a session: what arrived, and between it what this end did, each where it was done. Lists of items have
-- the newest first.
-- Source: hashicorp yamux, "Framing".
use Rattle.std.specs.Prelude.{ℕ, Bool, true, false, ◌==◌, ◌||◌, ◌&&◌, not, List, [], ◌∷◌, bit_and, ◌%◌}
use Rattle.yamux_frames.specs.declared.header.Header.{Header}
use Rattle.yamux_frames.specs.declared.header.FrameKind.{FrameKind}
use Rattle.yamux_frames.specs.declared.header.FrameKind.TheVariants as kinds
use Rattle.yamux_frames.specs.Frames.{Arrival}
use Rattle.yamux_frames.specs.Frames.Arrival.{Byte}
use Rattle.yamux_session.specs.declared.event.Role.{Role}
use Rattle.yamux_session.specs.declared.event.Role.TheVariants.{Client, Server}

-- What this end did; what was refused isn't listed. Start: a stream was opened. Write: these bytes went out, in frames
-- cut so. Taken: so many bytes of what arrived were taken.
pub data Act : Type 0 where
  Start : ℕ → Act
  Write : ℕ → List (List ℕ) → Act
  Taken : ℕ → ℕ → Act
  Close : ℕ → Act
  Reset : ℕ → Act
  GoAway : ℕ → Act

pub data Item : Type 0 where
  Came : Arrival → Item
  Did : Act → Item

-- what arrived
abbrev pub arrivals : List Item → List Arrival
arrivals [] = []
arrivals (Came x ∷ past) = x ∷ arrivals past
arrivals (Did act ∷ past) = arrivals past

-- the list with these bytes of a payload, one after another
abbrev pub came_bytes : List ℕ → List Item → List Item
came_bytes [] past = past
came_bytes (b ∷ bytes) past = came_bytes bytes (Came (Byte b) ∷ past)

-- the flags of a header
abbrev pub syn_flag : ℕ
syn_flag = 1

abbrev pub ack_flag : ℕ
ack_flag = 2

abbrev pub fin_flag : ℕ
fin_flag = 4

abbrev pub rst_flag : ℕ
rst_flag = 8

abbrev pub has_flag : ℕ → Header → Bool
has_flag flag h = not (bit_and h.flags flag == 0)

abbrev pub syn : Header → Bool
syn h = has_flag syn_flag h

abbrev pub ack : Header → Bool
ack h = has_flag ack_flag h

abbrev pub fin : Header → Bool
fin h = has_flag fin_flag h

abbrev pub rst : Header → Bool
rst h = has_flag rst_flag h

abbrev pub is_data : FrameKind → Bool
is_data kinds.Payload = true
is_data kind = false

abbrev pub is_update : FrameKind → Bool
is_update kinds.Window = true
is_update kind = false

abbrev pub is_ping : FrameKind → Bool
is_ping kinds.Ping = true
is_ping kind = false

abbrev pub is_go_away : FrameKind → Bool
is_go_away kinds.GoAway = true
is_go_away kind = false

-- Data and WindowUpdate are about a stream
abbrev pub is_of_stream : Header → Bool
is_of_stream h = is_data h.kind || is_update h.kind

-- the client's streams are odd, the server's even, and 0 is nobody's
abbrev pub is_own : Role → ℕ → Bool
is_own Client n = n % 2 == 1
is_own Server n = not (n == 0) && n % 2 == 0

abbrev pub is_remote : Role → ℕ → Bool
is_remote Client n = is_own Server n
is_remote Server n = is_own Client n
