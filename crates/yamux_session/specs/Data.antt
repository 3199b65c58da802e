-- The data of a stream since its opening: what arrived, and what this end wrote.
-- Source: hashicorp yamux, "Framing".
use Rattle.std.specs.Prelude.{ℕ, ◌==◌, if◌then◌else◌, List, [], ◌∷◌, ◌++◌}
use Rattle.std.specs.List.{concat}
use Rattle.yamux_frames.specs.Frames.Arrival.{Byte}
use Rattle.yamux_session.specs.declared.event.Role.{Role}
use Rattle.yamux_session.specs.History.{Item}
use Rattle.yamux_session.specs.History.Item.{Came, Did}
use Rattle.yamux_session.specs.History.Act.{Write}
use Rattle.yamux_session.specs.Openings.{opens, byte_belongs}
use Rattle.yamux_session.specs.Events.{when}

-- the data that arrived for the stream since its opening
abbrev pub byte_at : Role → List Item → Item → ℕ → List ℕ
byte_at role past (Came (Byte b)) n = when (byte_belongs role past n) b
byte_at role past x n = []

abbrev pub inbound : Role → List Item → ℕ → List ℕ
inbound role [] n = []
inbound role (x ∷ past) n = (if opens role past x n then [] else inbound role past n) ++ byte_at role past x n

-- what was let through for a stream since its opening
abbrev pub written_by : ℕ → Item → List ℕ
written_by n (Did (Write m pieces)) = if m == n then concat pieces else []
written_by n x = []

abbrev pub written : Role → List Item → ℕ → List ℕ
written role [] n = []
written role (x ∷ past) n = (if opens role past x n then [] else written role past n) ++ written_by n x
