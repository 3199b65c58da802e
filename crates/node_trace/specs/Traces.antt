-- What `node trace` plays.
-- Source: this project's profile, `node trace`.
use Rattle.std.specs.Prelude.{◌≡◌, ℕ, ◌==◌, List, codes}
use Rattle.peer_ids.specs.Key.{Key}
use Rattle.upgrade.specs.declared.role.ConnRole.{ConnRole}
use Rattle.node_protocols.specs.declared.handler.NodeHandler.{NodeHandler}
use Rattle.node_protocols.specs.declared.payloads.FixedPayload.{FixedPayload}
use Rattle.node_protocols.specs.Handlers.{NodeStep, NodeFails, is_closed, is_finished}
use Rattle.node_protocols.specs.Makes.{Node, MakesInbound, MakesOutbound, LeadsInbound, LeadsOutbound}
use Rattle.node_protocols.specs.Own.{protocol_names, own_message}
use Rattle.trace_script.specs.Played.{Place, at_first, Plays}

-- A node of this key, which names its program, and whose pings send these bytes.
abbrev pub IsNode : Key → List ℕ → Node FixedPayload → Type 0
IsNode key payload node =
    (node.own ≡ own_message key (codes "node/0.1.0")) × (node.payloads.payload ≡ payload)

-- The lines, played on a new end of a connection of that node, print this: identify and its push read and send what a
-- node says of itself, and ping, which alone is eager, sends what may be given.
abbrev pub TracePlays : (FixedPayload → List ℕ → Type 0) → (FixedPayload → List ℕ → FixedPayload → Type 0)
    → Node FixedPayload → ConnRole → Key → List (List ℕ) → List ℕ → Place NodeHandler → Type 0
TracePlays gives steps node role key texts printed to = Plays NodeStep NodeFails is_closed is_finished
    (λ node. MakesInbound node.own) (λ node. MakesOutbound node.own (gives node.payloads))
    (λ node. protocol_names) (λ node index. index == 2) LeadsInbound (LeadsOutbound steps)
    node role key at_first texts printed to
