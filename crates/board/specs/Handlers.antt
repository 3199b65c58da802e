-- The handlers that a connection holds, each with the number of its stream.
-- Source: libp2p connections, "Opening new streams over a connection"; which handlers are held is this project's
-- profile.
use Rattle.std.specs.Prelude.{ℕ, List, [], ◌∷◌, ◌++◌, Option, Some, None}
use Rattle.streams.specs.State.{Streaming, handler_of}
use Rattle.conn_log.specs.declared.earlier.Earlier.{Earlier}

-- a handler with the number of its stream, where there is one
abbrev pub numbered : {H : Type 0} → ℕ → Option H → List (ℕ × H)
numbered n None = []
numbered n (Some handler) = (n, handler) ∷ []

-- those of streams by their numbers, in their order
abbrev pub handlers_of : {H : Type 0} → List (ℕ × Streaming H) → List (ℕ × H)
handlers_of [] = []
handlers_of (it ∷ streams) = numbered it.0 (handler_of it.1.stage) ++ handlers_of streams

-- those of streams of earlier openings, in their order
abbrev pub handlers_past : {H : Type 0} → List (Earlier H) → List (ℕ × H)
handlers_past [] = []
handlers_past (it ∷ past) = numbered it.number (handler_of it.stream.stage) ++ handlers_past past
