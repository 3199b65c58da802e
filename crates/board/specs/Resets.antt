-- What is told of a stream that the other end has reset.
-- Source: hashicorp yamux, "Flag Field"; what a connection tells is this project's profile.
use Rattle.std.specs.Prelude.{ℕ, if◌then◌else◌, List, [], ◌∷◌, Option, Some, None}
use Rattle.streams.specs.declared.stop.Cause.TheVariants as causes
use Rattle.streams.specs.State.{Streaming, was_handed_out}
use Rattle.conn_log.specs.declared.event.ConnEvent.{ConnEvent}
use Rattle.conn_log.specs.declared.event.ConnEvent.TheVariants as event

-- that it is given up, where it is held, be its talk over or not, unless its handler was handed out
abbrev pub told_of_reset : {H : Type 0} → ℕ → Option (Streaming H) → List (ConnEvent H)
told_of_reset n None = []
told_of_reset n (Some it) = if was_handed_out it.stage then [] else event.Broken n causes.Reset ∷ []
