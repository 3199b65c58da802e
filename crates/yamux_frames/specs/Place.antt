-- Where the bytes that came so far end.
-- Source: hashicorp yamux, "Framing".
use Rattle.std.specs.Prelude.{ℕ, Bool, false, ◌||◌, nat_lt, List, length, Option, Some, None}
use Rattle.yamux_frames.specs.declared.header.FrameFault.{FrameFault}

-- The bytes of an unfinished header; of an unfinished payload, its stream and how many bytes are still to come; the
-- fault, once there is one
pub record Place : Type 0 where
  pub part : List ℕ
  pub stream : ℕ
  pub left : ℕ
  pub fault : Option FrameFault

abbrev pub is_within_at : Option FrameFault → Place → Bool
is_within_at (Some fault) place = false
is_within_at None place = nat_lt 0 place.left || nat_lt 0 (length place.part)

-- without a fault, something of a header or a payload is missing
abbrev pub is_within : Place → Bool
is_within place = is_within_at place.fault place
