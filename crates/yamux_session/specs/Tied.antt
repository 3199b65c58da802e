-- Two sessions joined, as their calls leave them (hashicorp yamux, over pipes that deliver what was sent; what a
-- session does that is out of memory is this project's profile).
use Rattle.std.specs.Prelude.{◌≡◌, ℕ, ◌<◌, List, ◌∷◌, ◌++◌, map}
use Rattle.std.specs.List.{AllByRecursion}
use mathlib.Core.List.{IsPrefix}
use Rattle.yamux_frames.specs.Frames.{Arrival}
use Rattle.yamux_session.specs.declared.event.Role.{Role}
use Rattle.yamux_session.specs.declared.event.Role.TheVariants.{Client, Server}
use Rattle.yamux_session.specs.declared.event.Event.{Event}
use Rattle.yamux_session.specs.History.{Act}
use Rattle.yamux_session.specs.History.Item.{Came, Did}
use Rattle.yamux_session.specs.Output.{output}
use Rattle.yamux_session.specs.State.{State, Stands, Feeds, RunsOut}
use Rattle.yamux_session.specs.Joined.{End, Joined}

abbrev pub other : Role → Role
other Client = Server
other Server = Client

-- two joined ends, the first of this role
abbrev pub AreJoined : Role → End → End → Type 0
AreJoined Client here there = Joined here there
AreJoined Server here there = Joined there here

-- a session stands at the first of two joined ends, and these bytes are what the other end has sent next
pub record IsNext (role : Role) (here there : End) (bytes sent : List ℕ) (session : State) : Type 0 where
  pub joined : AreJoined role here there
  pub stands : Stands role here.items here.fed sent session
  pub are_bytes : AllByRecursion (λ b. b < 256) (here.fed ++ bytes)
  pub was_sent : IsPrefix (here.fed ++ bytes) (output (other role) there.items)

-- the session has met no fault, and stands at an end that was fed all of the bytes and is joined still
pub record GoesOnBehind (role : Role) (here there : End) (bytes sent : List ℕ) (session : State) : Type 0 where
  pub next : End
  pub joined : AreJoined role next there
  pub came : (more : List Arrival) × (next.items ≡ map Came more ++ here.items)
  pub fed : next.fed ≡ here.fed ++ bytes
  pub stands : Stands role next.items next.fed sent session

abbrev pub FeedGoesOn : Type 0
FeedGoesOn = (role : Role) (here there : End) (bytes sent : List ℕ) (old new : State) (told : List Event)
    → IsNext role here there bytes sent old → Feeds old bytes told new
    → GoesOnBehind role here there bytes sent new

-- so does a call of its owner that is answered
abbrev pub ActGoesOn : Type 0
ActGoesOn = (role : Role) (here there : End) (act : Act) (sent : List ℕ) (new : State)
    → AreJoined role here there → Stands role (Did act ∷ here.items) here.fed sent new
    → AreJoined role (record { items = Did act ∷ here.items; fed = here.fed }) there

-- A session that ran out of memory has sent what an end has that was fed a first part of the bytes, without a fault,
-- and is joined still
pub record StopsWithin (role : Role) (here there : End) (bytes sent : List ℕ) (session : State) : Type 0 where
  pub next : End
  pub joined : AreJoined role next there
  pub came : (more : List Arrival) × (next.items ≡ map Came more ++ here.items)
  pub fed : IsPrefix next.fed (here.fed ++ bytes)
  pub output_is : sent ++ session.pending ≡ output role next.items

abbrev pub WantOfMemoryStops : Type 0
WantOfMemoryStops = (role : Role) (here there : End) (bytes sent : List ℕ) (old new : State)
    → IsNext role here there bytes sent old → RunsOut old bytes new → StopsWithin role here there bytes sent new
