-- What an end has written where memory was refused to it.
-- Source: this project's profile of a connection.
use Rattle.std.specs.Prelude.{◌≡◌, ℕ, Bool, false, List, [], ◌++◌, Option, None, Ok}
use Rattle.handlers.specs.Calls.{HandlerCall, Asked}
use Rattle.peer_ids.specs.Key.{Key}
use Rattle.upgrade.specs.declared.role.ConnRole.{ConnRole}
use Rattle.upgrade.specs.Upgrades.{Upgrades, RunsOut}
use Rattle.yamux_session.specs.State.{State}
use Rattle.streams.specs.State.{Streaming}
use Rattle.conn_log.specs.declared.earlier.Earlier.{Earlier}
use Rattle.conn_log.specs.declared.event.ConnEvent.{ConnEvent}
use Rattle.conn_log.specs.Entries.{Entry}
use Rattle.conn_core.specs.Connects.{IsUp, Ends, IsGrown}

module _ {P H : Type 0} (step : H → HandlerCall → H → Type 0) (fails : H → Asked → ℕ → Type 0)
    (is_closed is_finished : H → Bool) (inbound_makes outbound_makes : P → ℕ → List ℕ → H → Type 0)
    (listed : P → List (List ℕ)) (is_eager : P → ℕ → Bool)
    (inbound_leads outbound_leads : P → ℕ → List ℕ → H → P → Type 0) (start : P) (role : ConnRole) (own : Key)
    (input piece : List ℕ) (log : List (Entry H)) (told : List (ConnEvent H)) (written : List ℕ) where
  -- It had come up: by this input and a first part of this piece it is up and has written this, or by all of the piece
  -- it is over and has. What it had told it told first, and its list has grown.
  pub data WroteOn : Type 0 where
    Up : (first rest : List ℕ) (now : List (Entry H)) (more : List (ConnEvent H)) (session : State)
        (streams : ℕ → Option (Streaming H)) (past : List (Earlier H)) → piece ≡ first ++ rest → IsGrown [] log now
        → IsUp step fails is_closed is_finished inbound_makes outbound_makes listed is_eager inbound_leads
        outbound_leads start role own (input ++ first) now (told ++ more) written session streams past → WroteOn
    Over : (now : List (Entry H)) (more : List (ConnEvent H)) → IsGrown [] log now
        → Ends step fails is_closed is_finished inbound_makes outbound_makes listed is_eager inbound_leads
        outbound_leads start role own (input ++ piece) false now (told ++ more) written → WroteOn

  -- Or it was coming up: it had heard no part of the piece, or its upgrade ran out of memory.
  pub data Wrote : Type 0 where
    Coming : log ≡ [] → told ≡ [] → Upgrades role own input (Ok None) written → Wrote
    Upgrade : (pending : List ℕ) → log ≡ [] → told ≡ [] → RunsOut role own input piece pending written → Wrote
    Later : WroteOn → Wrote
