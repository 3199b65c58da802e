-- How a connection that is up fails by what the other end sends.
-- Source: hashicorp yamux, "Framing" and "Go Away"; what a connection tells is this project's profile.
use Rattle.std.specs.Prelude.{◌≡◌, ℕ, ◌≤◌, Bool, List, [], ◌∷◌, ◌++◌, map, length, take, Option}
use Rattle.handlers.specs.Calls.{HandlerCall, Asked}
use Rattle.yamux_frames.specs.Frames.{Arrival}
use Rattle.yamux_session.specs.declared.event.Role.{Role}
use Rattle.yamux_session.specs.History.{Item, arrivals}
use Rattle.yamux_session.specs.History.Item.{Came}
use Rattle.yamux_session.specs.declared.event.Fault.{Fault}
use Rattle.yamux_session.specs.Events.{Told, events}
use Rattle.yamux_session.specs.Output.{output}
use Rattle.yamux_session.specs.State.{State, FirstFaults, EndsWith}
use Rattle.streams.specs.State.{Streaming}
use Rattle.conn_log.specs.declared.earlier.Earlier.{Earlier}
use Rattle.conn_log.specs.declared.event.ConnEvent.{ConnEvent}
use Rattle.conn_log.specs.Entries.{Entry, items, said, asks}
use Rattle.conn_log.specs.Rests.{AreAtRest, AreRested}

-- The first fault was met behind a list at whose end all streams are at rest: by a front of these bytes, and by what
-- this end was asked for, the list grew, what it says was told, and its handlers were made so; by what follows them
-- the other end broke the rules of the session. The output is that of the list up to the fault, with its GoAway. The
-- streams are held as the list left them.
pub record Faults {P H : Type 0} (step : H → HandlerCall → H → Type 0) (fails : H → Asked → ℕ → Type 0)
    (is_closed is_finished : H → Bool) (inbound_makes outbound_makes : P → ℕ → List ℕ → H → Type 0)
    (eager : ℕ → Bool) (names : List (List ℕ)) (peer : List ℕ) (role : Role)
    (making : List (Entry H) → List (Entry H) → Type 0) (log : List (Entry H)) (asked : List (ℕ × ℕ))
    (before after : List (ConnEvent H)) (fed bytes sent pending : List ℕ) (streams : ℕ → Option (Streaming H))
    (past : List (Earlier H)) : Type 0 where
  pub newer : List (Entry H)
  pub told_is : after ≡ before ++ said newer
  pub asks_are : asks newer ≡ asked
  pub makes : making log (newer ++ log)
  -- all streams were at rest before each frame and its payload, and before each stream that this end opened
  pub rested : AreRested step fails is_closed is_finished inbound_makes outbound_makes eager names peer role log
      → AreRested step fails is_closed is_finished inbound_makes outbound_makes eager names peer role (newer ++ log)
  pub front : List ℕ
  pub rest : List ℕ
  pub bytes_are : bytes ≡ front ++ rest
  pub session : State
  pub at_rest : AreAtRest step fails is_closed is_finished inbound_makes outbound_makes eager names peer role
      (newer ++ log) (fed ++ front) sent session streams past
  pub now : List Item
  pub came : (more : List Arrival) × (now ≡ map Came more ++ items (newer ++ log))
  pub fault : FirstFaults role now
  -- the fault is all that was told behind the list
  pub alone : (why : Fault) × (events role now ≡ events role (items (newer ++ log)) ++ Told.Fault why ∷ [])
  pub frames : (used : ℕ) × (used ≤ length rest) × EndsWith ((fed ++ front) ++ take used rest) (arrivals now)
  pub output_is : sent ++ pending ≡ output role now
