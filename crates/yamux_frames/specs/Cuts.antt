-- What a cutter may answer to a piece of bytes, from where it is, and where it then is. No history of bytes is spoken
-- of.
-- Inside: said of where a cutter stands; the frames themselves are in `Frames` (hashicorp yamux, "Framing").
use Rattle.std.specs.Prelude.{◌≡◌, ℕ, ◌-◌, ◌<◌, ◌≤◌, ◌↔◌, IsTrue, List, [], ◌++◌, length, take, Option, Some, None}
use Rattle.std.specs.Prelude.{Result, Ok, Err}
use Rattle.yamux_frames.specs.declared.header.Header.{Header}
use Rattle.yamux_frames.specs.declared.header.FrameFault.{FrameFault}
use Rattle.yamux_frames.specs.declared.cutter.Cut.{Cut}
use Rattle.yamux_frames.specs.declared.cutter.Cut.TheVariants.{More, Head, Part}
use Rattle.yamux_frames.specs.Spelling.{header_bytes, payload_length, IsHeader, HasFault}
use Rattle.yamux_frames.specs.Place.{Place}

-- all of the piece is part of a header, or there is none
pub record NeedsMore (old : Place) (piece : List ℕ) (used : ℕ) (new : Place) : Type 0 where
  pub used_is : used ≡ length piece
  pub new_is : new ≡ record { part = old.part ++ piece; stream = old.stream; left = old.left; fault = None }
  pub no_payload : 0 < old.left → piece ≡ []
  pub unfinished : length new.part < 12

-- a header is whole
pub record HasHead (old : Place) (piece : List ℕ) (used : ℕ) (header : Header) (new : Place) : Type 0 where
  pub some : 0 < used
  pub within : used ≤ length piece
  pub between : old.left ≡ 0
  pub bytes : old.part ++ take used piece ≡ header_bytes header
  pub fits : IsHeader header
  pub new_is : new ≡ record { part = []; stream = header.stream; left = payload_length header; fault = None }

-- payload from the prefix of the piece
pub record HasPart (old : Place) (piece : List ℕ) (used stream from to : ℕ) (new : Place) : Type 0 where
  pub within : used ≤ length piece
  pub some : 0 < used
  pub expected : used ≤ old.left
  pub most : used < old.left → used ≡ length piece
  pub stream_is : stream ≡ old.stream
  pub from_is : from ≡ 0
  pub to_is : to ≡ used
  pub new_is : new ≡ record { part = old.part; stream = old.stream; left = old.left - used; fault = None }

abbrev pub Answers : Place → List ℕ → ℕ → Cut → Place → Type 0
Answers old piece used More new = NeedsMore old piece used new
Answers old piece used (Head header) new = HasHead old piece used header new
Answers old piece used (Part stream from to last) new = HasPart old piece used stream from to new
    × (IsTrue last ↔ (used ≡ old.left))

-- twelve bytes are no header
pub record IsRefused (old : Place) (piece : List ℕ) (fault : FrameFault) (new : Place) : Type 0 where
  pub between : old.left ≡ 0
  pub bytes : (used : ℕ) × (used ≤ length piece) × HasFault (old.part ++ take used piece) fault
  pub fault_is : new.fault ≡ Some fault

-- after a fault it is given again, and nothing is used
abbrev pub CutsAt : Option FrameFault → Place → List ℕ → Result (ℕ × Cut) FrameFault → Place → Type 0
CutsAt (Some known) old piece result new = (result ≡ Err known) × (new ≡ old)
CutsAt None old piece (Ok answer) new = Answers old piece answer.0 answer.1 new
CutsAt None old piece (Err fault) new = IsRefused old piece fault new

abbrev pub Cuts : Place → List ℕ → Result (ℕ × Cut) FrameFault → Place → Type 0
Cuts old piece result new = CutsAt old.fault old piece result new
