-- A handler stays of its kind.
use Rattle.std.proofs.Common.{◌≡◌, ℕ, Bool, List, [], ◌∷◌, IfSome, refl, sym, subst}
use Rattle.handlers.specs.Calls.{HandlerCall, Arises, WasHanded}
use Rattle.identify_h.specs.Streams.{Reads as SaysAll}
use Rattle.identify_h.proofs.Read as reading
use Rattle.identify_h.specs.Reading.{Reader, ReadStep}
use Rattle.identify_h.specs.Sending.{Sending, SendStep}
use Rattle.ping_h.specs.Rounds.{Round, RoundStep}
use Rattle.ping_h.specs.Echoes.{Echo, EchoStep}
use Rattle.node_protocols.specs.declared.handler.NodeHandler.{NodeHandler}
use Rattle.node_protocols.specs.declared.handler.NodeHandler.TheVariants.{Reads, Sends, Pings, Echoes}
use Rattle.node_protocols.specs.Handlers.{NodeStep, message_of}
use Rattle.node_protocols.specs.Makes.{Hears}

-- of one kind, whose calls are answered so
module _ {A : Type 0} (kind : A → NodeHandler) (step : A → HandlerCall → A → Type 0)
    (one : (old : A) (call : HandlerCall) (new : NodeHandler) → NodeStep (kind old) call new
    → (next : A) × (new ≡ kind next) × step old call next) where
  pub stays : (made : A) (calls : List HandlerCall) (value : NodeHandler) → Arises NodeStep (kind made) calls value
      → (last : A) × (value ≡ kind last) × Arises step made calls last
  stays made [] value came = (made, sym came, refl)
  stays made (call ∷ calls) value came =
      let first = one made call came.0 came.1 in
      let rest = stays first.0 calls value (subst (λ (h : NodeHandler). Arises NodeStep h calls value) first.1 came.2) in
      (rest.0, rest.1, (first.0, first.2, rest.2))

one_read : (old : Reader) (call : HandlerCall) (new : NodeHandler) → NodeStep (Reads old) call new
    → (next : Reader) × (new ≡ Reads next) × ReadStep old call next
one_read old call (Reads next) step = (next, refl, step)
one_read old call (Sends next) step = absurd step
one_read old call (Pings next) step = absurd step
one_read old call (Echoes next) step = absurd step

one_send : (old : Sending) (call : HandlerCall) (new : NodeHandler) → NodeStep (Sends old) call new
    → (next : Sending) × (new ≡ Sends next) × SendStep old call next
one_send old call (Sends next) step = (next, refl, step)
one_send old call (Reads next) step = absurd step
one_send old call (Pings next) step = absurd step
one_send old call (Echoes next) step = absurd step

one_ping : (old : Round) (call : HandlerCall) (new : NodeHandler) → NodeStep (Pings old) call new
    → (next : Round) × (new ≡ Pings next) × RoundStep old call next
one_ping old call (Pings next) step = (next, refl, step)
one_ping old call (Reads next) step = absurd step
one_ping old call (Sends next) step = absurd step
one_ping old call (Echoes next) step = absurd step

one_echo : (old : Echo) (call : HandlerCall) (new : NodeHandler) → NodeStep (Echoes old) call new
    → (next : Echo) × (new ≡ Echoes next) × EchoStep old call next
one_echo old call (Echoes next) step = (next, refl, step)
one_echo old call (Reads next) step = absurd step
one_echo old call (Sends next) step = absurd step
one_echo old call (Pings next) step = absurd step

pub reads : (made : Reader) (calls : List HandlerCall) (value : NodeHandler) → Arises NodeStep (Reads made) calls value
    → (reader : Reader) × (value ≡ Reads reader) × Arises ReadStep made calls reader
reads = stays Reads ReadStep one_read

pub sends : (made : Sending) (calls : List HandlerCall) (value : NodeHandler) → Arises NodeStep (Sends made) calls value
    → (out : Sending) × (value ≡ Sends out) × Arises SendStep made calls out
sends = stays Sends SendStep one_send

pub pings : (made : Round) (calls : List HandlerCall) (value : NodeHandler) → Arises NodeStep (Pings made) calls value
    → (out : Round) × (value ≡ Pings out) × Arises RoundStep made calls out
pings = stays Pings RoundStep one_ping

pub echoes : (made : Echo) (calls : List HandlerCall) (value : NodeHandler) → Arises NodeStep (Echoes made) calls value
    → (echo : Echo) × (value ≡ Echoes echo) × Arises EchoStep made calls echo
echoes = stays Echoes EchoStep one_echo

-- what was read is what the whole stream says
pub says : (peer bytes : List ℕ) (ended : Bool) (made value : NodeHandler) → Hears peer made → WasHanded NodeStep made bytes ended value
    → IfSome (message_of value) (SaysAll peer bytes)
says peer bytes ended made value hears handed =
    let arises = subst (λ (h : NodeHandler). Arises NodeStep h handed.calls value) hears.1 handed.arises in
    let came = reads hears.0 handed.calls value arises in
    let said = reading.reads peer handed.calls ended hears.0 came.0 hears.2 handed.ends came.2 in
    let here = subst (λ (t : List ℕ). IfSome came.0.message (SaysAll peer t)) handed.joined said in
    subst (λ (h : NodeHandler). IfSome (message_of h) (SaysAll peer bytes)) (sym came.1) here
