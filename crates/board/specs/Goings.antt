-- Which streams a board lets go.
-- Source: hashicorp yamux, "Flag Field": once both ends have ended their directions a stream is live no more; what is
-- held of it then is this project's profile.
use Rattle.std.specs.Prelude.{◌≡◌, ◌⊎◌, ℕ, ◌-◌, Bool, true, List, length, Option, Some, IfSome, slice_get}
use Rattle.yamux_session.specs.declared.event.Event.{Event}
use Rattle.streams.specs.State.{Streaming, was_handed_out}

-- the last of what a frame told is the end of the stream's data, or credit for it
abbrev pub IsLastOf : ℕ → List Event → Type 0
IsLastOf n events = (slice_get events (length events - 1) ≡ Some (Event.Ended n))
    ⊎ (slice_get events (length events - 1) ≡ Some (Event.Credit n))

-- one whose handler was handed out is held only while it is live
abbrev pub IsHeldAlive : {H : Type 0} → Bool → Option (Streaming H) → Type 0
IsHeldAlive live held = IfSome held (λ it. was_handed_out it.stage ≡ true → live ≡ true)
