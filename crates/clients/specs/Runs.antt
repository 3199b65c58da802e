-- What a server hears that is fed all the output of a client.
-- Source: hashicorp yamux, over a pipe that delivers what was sent, as a caller of it.
use Rattle.std.specs.Prelude.{◌≡◌, ℕ, true, All, List, [], ◌∷◌, ◌++◌, map}
use mathlib.Core.List.{IsPrefix}
use Rattle.yamux_frames.specs.Frames.{Arrival, Reads}
use Rattle.yamux_session.specs.declared.event.Role.TheVariants.{Client, Server}
use Rattle.yamux_session.specs.declared.event.Event.{Event}
use Rattle.yamux_session.specs.declared.event.Event.TheVariants as event
use Rattle.yamux_session.specs.declared.event.ActRefused.TheVariants.{OutOfMemory}
use Rattle.yamux_session.specs.declared.calls.Act.{Act}
use Rattle.yamux_session.specs.declared.calls.Act.TheVariants as act
use Rattle.yamux_session.specs.declared.calls.ActAnswer.{ActAnswer}
use Rattle.yamux_session.specs.declared.calls.ActAnswer.TheVariants.{Events, Refused}
use Rattle.yamux_session.specs.declared.calls.Ran.{Ran}
use Rattle.yamux_session.specs.History.{Item}
use Rattle.yamux_session.specs.History.Item.{Came}
use Rattle.yamux_session.specs.Openings.{is_live}
use Rattle.yamux_session.specs.Events.{Told, events}
use Rattle.yamux_session.specs.Data.{written}
use Rattle.yamux_session.specs.Output.{output}
use Rattle.yamux_session.specs.Arrives.{tellings}
use Rattle.yamux_session.specs.Runs.{AnswersAll}
use Rattle.yamux_session.specs.Runs.Point.{At}
use Rattle.clients.specs.Sessions.{IsHeard}

-- a call other than a feed
abbrev pub IsOwn : Act → Type 0
IsOwn (act.Feed bytes) = ⊥
IsOwn call = Unit {0}

-- an event other than a fault
abbrev pub IsNoFault : Event → Type 0
IsNoFault (event.Fault fault) = ⊥
IsNoFault other = Unit {0}

-- The events are those of all frames that the client sent, without a fault. Of each stream they hand out a prefix of
-- what the client's writes let through, and all of it where the stream is live or its end was reported
pub record HearsAll (past : List Item) (sent : List ℕ) (told : List Event) : Type 0 where
  pub arrived : List Arrival
  pub read : (rest : List ℕ) × Reads sent arrived rest
  pub told_is : tellings told ≡ events Server (map Came arrived)
  pub no_fault : All IsNoFault told
  pub heard : (n : ℕ) → IsHeard n (tellings told) (λ heard. IsPrefix heard (written Client past n))
  pub live : (n : ℕ) → is_live Server (map Came arrived) n ≡ true
      → IsHeard n (tellings told) (λ heard. heard ≡ written Client past n)
  pub ended : (n : ℕ) (before after : List Told) → tellings told ≡ before ++ Told.Ended n ∷ after
      → IsHeard n (tellings told) (λ heard. heard ≡ written Client past n)

-- what a server answers that is fed this output of a client: events, or that it is out of memory
abbrev pub HearsOrStops : List Item → List ℕ → ActAnswer → Type 0
HearsOrStops past sent (Events told) = HearsAll past sent told.items
HearsOrStops past sent (Refused why) = why ≡ OutOfMemory
HearsOrStops past sent answer = ⊥

-- the answers of a server that is fed this output of a client, in one feed
abbrev pub HearsSent : List Item → List ℕ → List ActAnswer → Type 0
HearsSent past sent answers = (answer : ActAnswer) × (answers ≡ answer ∷ []) × HearsOrStops past sent answer

-- The client's calls lead to a history in which nothing was fed. The output of that history is what the server was fed
pub record HearsRun (acts : List Act) (client server : Ran) : Type 0 where
  pub past : List Item
  pub calls : AnswersAll Client (At [] []) acts client.answers.items (At past [])
  pub sent : client.output.items ≡ output Client past
  pub heard : HearsSent past client.output.items server.answers.items
