-- Which handlers a node makes: 0 is identify, 1 its push, 2 ping.
-- Source: libp2p identify 1.0.0, "identify" and "identify/push": of the first the end that opens the stream is told, of
-- the second it tells; ping 1.0.0: it sends, and is answered. The order of the indexes is this project's profile.
use Rattle.std.specs.Prelude.{◌≡◌, ◌⊎◌, ℕ, List}
use Rattle.identify_h.specs.Messages.{Message, written}
use Rattle.identify_h.specs.Sending.{framed, sending}
use Rattle.identify_h.specs.Reading.{Reader, IsFresh}
use Rattle.ping_h.specs.Echoes.{fresh}
use Rattle.ping_h.specs.Rounds.{round}
use Rattle.node_protocols.specs.declared.handler.NodeHandler.{NodeHandler}
use Rattle.node_protocols.specs.declared.handler.NodeHandler.TheVariants.{Reads, Sends, Pings, Echoes}

-- what its protocols know: what the node says of itself, and where its pings' bytes come from
pub record Node (R : Type 0) : Type 0 where
  pub own : Message
  pub payloads : R

-- it sends what the node says of itself, none of which was sent
abbrev pub Tells : Message → NodeHandler → Type 0
Tells own handler = handler ≡ Sends (sending (framed (written own)))

-- it reads what this peer says of itself, and has read nothing yet
abbrev pub Hears : List ℕ → NodeHandler → Type 0
Hears peer handler = (reader : Reader) × (handler ≡ Reads reader) × IsFresh peer reader

-- the handler of a stream that the peer opened: it asks, pushes, or pings
abbrev pub MakesInbound : Message → ℕ → List ℕ → NodeHandler → Type 0
MakesInbound own index peer handler =
    ((index ≡ 0) × Tells own handler) ⊎ ((index ≡ 1) × Hears peer handler) ⊎ ((index ≡ 2) × (handler ≡ Echoes fresh))

-- the handler of a stream that this end opened: it asks, pushes, or pings with bytes that may be given
abbrev pub MakesOutbound : Message → (List ℕ → Type 0) → ℕ → List ℕ → NodeHandler → Type 0
MakesOutbound own gives index peer handler =
    ((index ≡ 0) × Hears peer handler) ⊎ ((index ≡ 1) × Tells own handler)
    ⊎ ((index ≡ 2) × ((payload : List ℕ) × gives payload × (handler ≡ Pings (round payload))))

-- making it changes nothing that they know
abbrev pub LeadsInbound : {R : Type 0} → Node R → ℕ → List ℕ → NodeHandler → Node R → Type 0
LeadsInbound node index peer handler next = MakesInbound node.own index peer handler × (next ≡ node)

-- nor does it on a stream that this end opened, but that a ping asks for its bytes once
abbrev pub LeadsOutbound : {R : Type 0} → (R → List ℕ → R → Type 0) → Node R → ℕ → List ℕ → NodeHandler → Node R
    → Type 0
LeadsOutbound steps node index peer handler next =
    ((index ≡ 0) × Hears peer handler × (next ≡ node)) ⊎ ((index ≡ 1) × Tells node.own handler × (next ≡ node))
    ⊎ ((index ≡ 2) × ((payload : List ℕ) × steps node.payloads payload next.payloads
    × (handler ≡ Pings (round payload)) × (next.own ≡ node.own)))
