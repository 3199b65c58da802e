-- The handlers of a node's streams: each call is that of the handler of its kind.
-- Source: libp2p identify 1.0.0 and ping 1.0.0, whose handlers these are; that a connection knows them as one kind of
-- value is this project's profile.
use Rattle.std.specs.Prelude.{◌≡◌, ℕ, ◌==◌, ◌&&◌, Bool, true, Option, None, is_some, length}
use Rattle.handlers.specs.Calls.{HandlerCall, Asked}
use Rattle.identify_h.specs.Messages.{Message}
use Rattle.identify_h.specs.Reading as reading
use Rattle.identify_h.specs.Reading.{ReadStep, ReadFails}
use Rattle.identify_h.specs.Sending as sending
use Rattle.identify_h.specs.Sending.{SendStep, SendFails}
use Rattle.ping_h.specs.Echoes as echoes
use Rattle.ping_h.specs.Echoes.{EchoStep, EchoFails}
use Rattle.ping_h.specs.Rounds as rounds
use Rattle.ping_h.specs.Rounds.{RoundStep, RoundFails}
use Rattle.node_protocols.specs.declared.handler.NodeHandler.{NodeHandler}
use Rattle.node_protocols.specs.declared.handler.NodeHandler.TheVariants.{Reads, Sends, Pings, Echoes}

-- one call that is answered: the handler stays of its kind
abbrev pub NodeStep : NodeHandler → HandlerCall → NodeHandler → Type 0
NodeStep (Reads r) call (Reads s) = ReadStep r call s
NodeStep (Sends r) call (Sends s) = SendStep r call s
NodeStep (Pings r) call (Pings s) = RoundStep r call s
NodeStep (Echoes r) call (Echoes s) = EchoStep r call s
NodeStep old call new = ⊥

-- why a call fails: the number is that of the kind's own table
abbrev pub NodeFails : NodeHandler → Asked → ℕ → Type 0
NodeFails (Reads r) asked n = ReadFails r asked n
NodeFails (Sends r) asked n = SendFails r asked n
NodeFails (Pings r) asked n = RoundFails r asked n
NodeFails (Echoes r) asked n = EchoFails r asked n

-- it has failed
abbrev pub has_failed : NodeHandler → Bool
has_failed (Reads r) = r.failed
has_failed (Sends r) = r.failed
has_failed (Pings r) = r.failed
has_failed (Echoes r) = r.failed

-- nothing more may be handed over
abbrev pub is_over : NodeHandler → Bool
is_over (Reads r) = reading.is_over r
is_over (Sends r) = sending.is_over r
is_over (Pings r) = rounds.is_over r
is_over (Echoes r) = echoes.is_over r

-- what a fault leaves: a handler of the same kind, which has failed
abbrev pub Stops : NodeHandler → NodeHandler → Type 0
Stops (Reads r) (Reads s) = (s.failed ≡ true) × (s.message ≡ None)
Stops (Sends r) (Sends s) = s ≡ record r { failed = true }
Stops (Pings r) (Pings s) = s ≡ record r { failed = true }
Stops (Echoes r) (Echoes s) = s ≡ record r { failed = true }
Stops old new = ⊥

-- it gives no more: a reader never gives
abbrev pub is_closed : NodeHandler → Bool
is_closed (Reads r) = true
is_closed (Sends r) = length r.unsent == 0
is_closed (Pings r) = length r.awaited == 0
is_closed (Echoes r) = r.ended && (length r.owed == 0)

-- its work is done
abbrev pub is_finished : NodeHandler → Bool
is_finished (Reads r) = is_some r.message
is_finished (Sends r) = length r.unsent == 0
is_finished (Pings r) = (length r.awaited == 0) && r.ended
is_finished (Echoes r) = r.ended && (length r.owed == 0)

-- what was read: that of a reader whose work is done, and of no other handler
abbrev pub message_of : NodeHandler → Option Message
message_of (Reads r) = r.message
message_of handler = None
