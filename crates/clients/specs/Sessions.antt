-- What two joined sessions hear of one another.
-- Source: hashicorp yamux, over pipes that deliver what was sent, as a caller of it.
use Rattle.std.specs.Prelude.{◌≡◌, ℕ, ◌<◌, false, List, [], ◌∷◌, ◌++◌, map, take}
use Rattle.std.specs.List.{AllByRecursion, concat, flat_map}
use mathlib.Core.List.{IsPrefix}
use Rattle.yamux_frames.specs.Frames.{Arrival}
use Rattle.yamux_session.specs.declared.event.Role.{Role}
use Rattle.yamux_session.specs.declared.event.Role.TheVariants.{Client}
use Rattle.yamux_session.specs.History.{Item}
use Rattle.yamux_session.specs.History.Item.{Came, Did}
use Rattle.yamux_session.specs.History.Act.{Start, Write}
use Rattle.yamux_session.specs.Events.{Told, events}
use Rattle.yamux_session.specs.Output.{output}
use Rattle.yamux_session.specs.Arrives.{tellings}
use Rattle.yamux_session.specs.Received.{AreSinceOpening, data_in}
use Rattle.yamux_session.specs.State.{State, Stands}
use Rattle.yamux_session.specs.Joined.{End, at_first}
use Rattle.yamux_session.specs.Tied.{other, AreJoined, StopsWithin}
use Rattle.clients.specs.declared.sessions.Conversation.{Conversation}
use Rattle.clients.specs.declared.sessions.Stopped.{Stopped}

-- what the server was told, and what the client
abbrev pub told_server : Conversation → List Told
told_server talk = tellings talk.first.items ++ tellings talk.rest.items

abbrev pub told_client : Conversation → List Told
told_client talk = tellings talk.early.items ++ tellings talk.late.items

-- a fact of the data of a stream since its opening, as these events hand it out
abbrev pub IsHeard : ℕ → List Told → (List ℕ → Type 0) → Type 0
IsHeard n told Fact = (since : List Told) → AreSinceOpening n told since → Fact (flat_map (data_in n) since)

-- Neither session has failed. The server was told all that the client's window let through of the question, and the
-- client nothing but the beginning of what the server's let through of the answer.
pub record BothHear (question answer : List ℕ) (talk : Conversation) : Type 0 where
  pub client : talk.client.failed ≡ false
  pub server : talk.server.failed ≡ false
  pub asked : IsHeard talk.stream (told_server talk) (λ heard. heard ≡ take talk.asked question)
  pub answered : IsHeard talk.stream (told_client talk) (λ heard. IsPrefix heard (take talk.answered answer))

-- ---- on the way there

abbrev pub end : List Item → List ℕ → End
end items fed = record { items = items; fed = fed }

-- a session stands at the first of two joined ends
pub record IsJoined (role : Role) (here there : End) (sent : List ℕ) (session : State) : Type 0 where
  pub joined : AreJoined role here there
  pub stands : Stands role here.items here.fed sent session
  pub are_bytes : AllByRecursion (λ b. b < 256) here.fed

-- an end that has opened a stream, and has written on it
abbrev pub writes : ℕ → List (List ℕ) → List Item
writes n pieces = Did (Write n pieces) ∷ Did (Start n) ∷ []

-- a new client has opened a stream, and has written these bytes on it
pub record Asks (n : ℕ) (bytes : List ℕ) (client : State) : Type 0 where
  pub pieces : List (List ℕ)
  pub written : concat pieces ≡ bytes
  pub is_joined : IsJoined Client (end (writes n pieces) []) at_first [] client

-- so does one that was fed these bytes since, behind them, and it was told this
pub record HearsOn (role : Role) (here there : End) (bytes sent : List ℕ) (told : List Told) (session : State)
    : Type 0 where
  pub came : List Arrival
  pub is_joined : IsJoined role (end (map Came came ++ here.items) (here.fed ++ bytes)) there sent session
  pub told_is : events role (map Came came ++ here.items) ≡ events role here.items ++ told

-- what a call does that feeds a session what the other one has sent, and is answered
abbrev pub Hears : State → List ℕ → List Told → State → Type 0
Hears old bytes told new =
    (role : Role) (here there : End) (sent : List ℕ) → IsJoined role here there sent old
    → IsPrefix (here.fed ++ bytes) (output (other role) there.items) → HearsOn role here there bytes sent told new

-- what a call does that feeds a session what the other one has sent, whether it is answered or runs out of memory: the
-- session has sent what a joined end has
abbrev pub Stops : State → List ℕ → State → Type 0
Stops old bytes new = (role : Role) (here there : End) (sent : List ℕ) → IsJoined role here there sent old
    → IsPrefix (here.fed ++ bytes) (output (other role) there.items) → StopsWithin role here there bytes sent new

-- The client hasn't failed, and each end heard a prefix of what was let through at the other.
pub record HearPrefixes (question answer : List ℕ) (stopped : Stopped) : Type 0 where
  pub client : stopped.client.failed ≡ false
  pub asked : IsHeard stopped.stream (tellings stopped.first.items) (λ heard.
      IsPrefix heard (take stopped.asked question))
  pub answered : IsHeard stopped.stream (tellings stopped.heard.items) (λ heard.
      IsPrefix heard (take stopped.answered answer))
