-- The data that a stream's events hand out.
-- Source: hashicorp yamux, "Data", and this project's law on events.
use Rattle.std.specs.Prelude.{◌≡◌, ◌≢◌, ◌⊎◌, ℕ, ◌==◌, if◌then◌else◌, List, [], ◌∷◌, ◌++◌}
use Rattle.std.specs.List.{AllByRecursion, flat_map}
use Rattle.yamux_session.specs.declared.event.Role.{Role}
use Rattle.yamux_session.specs.History.{Item}
use Rattle.yamux_session.specs.Faults.{HasNoFault}
use Rattle.yamux_session.specs.Events.{Told, events}
use Rattle.yamux_session.specs.Data.{inbound}
use Rattle.yamux_session.specs.Acts.{AreAnswered}

-- the data of a stream that an event hands out
abbrev pub data_in : ℕ → Told → List ℕ
data_in n (Told.Payload m b) = if m == n then b ∷ [] else []
data_in n other = []

-- the events behind the last that opened the stream, or all where none did
pub record AreSinceOpening (n : ℕ) (told since : List Told) : Type 0 where
  pub before : List Told
  pub parts : (told ≡ before ++ Told.Opened n ∷ since) ⊎ (told ≡ since)
  pub opens_none : AllByRecursion (λ t. t ≢ Told.Opened n) since

-- what the events since its opening hand out for a stream, joined, is what arrived for it
abbrev pub ReceivedData : Type 0
ReceivedData = (role : Role) (past : List Item) (n : ℕ) (since : List Told) → AreAnswered role past
    → HasNoFault role past
    → AreSinceOpening n (events role past) since → flat_map (data_in n) since ≡ inbound role past n

-- there are always such events
abbrev pub SomeSince : Type 0
SomeSince = (n : ℕ) (told : List Told) → (since : List Told) × AreSinceOpening n told since
