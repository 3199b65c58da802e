-- The lines of a script of two nodes, and what each says.
-- Source: this project's profile, the lines of `node run`.
use Rattle.std.specs.Prelude.{◌≡◌, ℕ, ◌<◌, List, ◌++◌, Option, Some, None, codes, ⊤}
use Rattle.pool_texts.specs.Lines.{IsNumber, ArePair, IsStream, tail_of}
use Rattle.node_lines.specs.declared.script.Act.{Act}
use Rattle.node_lines.specs.declared.script.Act.TheVariants as act
use Rattle.node_lines.specs.declared.script.Awaited.{Awaited}
use Rattle.node_lines.specs.declared.script.Awaited.TheVariants as awaited
use Rattle.node_lines.specs.declared.script.Name.{Name}
use Rattle.node_lines.specs.declared.script.Name.TheVariants as name

-- The index of a protocol, from 0 to 2, and a count of streams.
unfoldable pub IsDone : List ℕ → ℕ → ℕ → Type 0
IsDone words index count = (first : List ℕ) × (second : List ℕ) × ArePair words first second
    × IsNumber 8 first index × (index < 3) × IsNumber 64 second count

-- What is awaited: its name, and what stands behind that.
abbrev pub await_name : Awaited → List ℕ
await_name (awaited.Live count) = codes "live"
await_name awaited.None = codes "none"
await_name (awaited.Done index count) = codes "done"
await_name (awaited.Agent count) = codes "agent"

abbrev pub AwaitsRest : Option (List ℕ) → Awaited → Type 0
AwaitsRest None awaited.None = ⊤
AwaitsRest (Some rest) (awaited.Live count) = IsNumber 64 rest count
AwaitsRest (Some rest) (awaited.Done index count) = IsDone rest index count
AwaitsRest (Some rest) (awaited.Agent count) = IsNumber 64 rest count
AwaitsRest rest it = ⊥

unfoldable pub Awaits : List ℕ → Awaited → Type 0
Awaits words it = (rest : Option (List ℕ)) × (words ≡ await_name it ++ tail_of rest) × AwaitsRest rest it

-- What a node is to do: its name, and what stands behind that.
abbrev pub act_name : Act → List ℕ
act_name act.Listen = codes "listen"
act_name act.Dial = codes "dial"
act_name (act.Ask conn index) = codes "ask"
act_name act.List = codes "list"
act_name act.HangUp = codes "hangup"
act_name act.Block = codes "block"
act_name act.Unblock = codes "unblock"
act_name (act.Await it) = codes "await"

abbrev pub ActsRest : Option (List ℕ) → Act → Type 0
ActsRest None act.Listen = ⊤
ActsRest None act.Dial = ⊤
ActsRest None act.List = ⊤
ActsRest None act.HangUp = ⊤
ActsRest None act.Block = ⊤
ActsRest None act.Unblock = ⊤
ActsRest (Some rest) (act.Ask conn index) = IsStream rest conn index
ActsRest (Some rest) (act.Await it) = Awaits rest it
ActsRest rest it = ⊥

unfoldable pub Acts : List ℕ → Act → Type 0
Acts words it = (rest : Option (List ℕ)) × (words ≡ act_name it ++ tail_of rest) × ActsRest rest it

-- Which node is meant.
abbrev pub node_name : Name → List ℕ
node_name name.A = codes "a"
node_name name.B = codes "b"

-- The line says that this node is to do this.
abbrev pub SaysAct : List ℕ → Name → Act → Type 0
SaysAct text node it = (words : List ℕ) × ArePair text (node_name node) words × Acts words it
