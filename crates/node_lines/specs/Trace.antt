-- The lines of a trace, and what each says.
-- Source: this project's profile, the lines of `node trace`.
use Rattle.std.specs.Prelude.{◌≡◌, ◌⊎◌, ℕ, ◌<◌, List, ◌++◌, Option, Some, None, Ok, codes, vec_items, ⊤}
use Rattle.hex.specs.Hex.{decode_of}
use Rattle.pool_texts.specs.Lines.{IsNumber, ArePair, tail_of}
use Rattle.node_lines.specs.declared.trace.TraceLine.{TraceLine}
use Rattle.node_lines.specs.declared.trace.TraceLine.TheVariants as trace

-- Hexadecimal digits of these bytes, in either case.
abbrev pub SpellsBytes : List ℕ → List ℕ → Type 0
SpellsBytes word bytes = decode_of word ≡ Ok bytes

-- The size of a piece, which is above zero, and bytes.
unfoldable pub IsCut : List ℕ → ℕ → List ℕ → Type 0
IsCut words size bytes = (first : List ℕ) × (second : List ℕ) × ArePair words first second
    × IsNumber 64 first size × (0 < size) × SpellsBytes second bytes

-- What comes, or is asked for: its name, and what stands behind that.
abbrev pub trace_name : TraceLine → List ℕ
trace_name (trace.Feed bytes) = codes "feed"
trace_name (trace.Cut size bytes) = codes "cut"
trace_name (trace.Ask index) = codes "ask"
trace_name trace.Out = codes "out"
trace_name trace.End = codes "end"

abbrev pub TraceRest : Option (List ℕ) → TraceLine → Type 0
TraceRest (Some rest) (trace.Feed bytes) = SpellsBytes rest (vec_items bytes)
TraceRest (Some rest) (trace.Cut size bytes) = IsCut rest size (vec_items bytes)
TraceRest (Some rest) (trace.Ask index) = IsNumber 64 rest index
TraceRest None trace.Out = ⊤
TraceRest None trace.End = ⊤
TraceRest rest it = ⊥

unfoldable pub SaysTrace : List ℕ → TraceLine → Type 0
SaysTrace text it = (rest : Option (List ℕ)) × (text ≡ trace_name it ++ tail_of rest) × TraceRest rest it

-- Bytes stand in the line: for them alone memory is asked.
abbrev pub RestHoldsBytes : List ℕ → List ℕ → Type 0
RestHoldsBytes name rest = ((name ≡ codes "feed") × (bytes : List ℕ) × SpellsBytes rest bytes)
    ⊎ ((name ≡ codes "cut") × (size : ℕ) × (bytes : List ℕ) × IsCut rest size bytes)

abbrev pub HoldsBytes : List ℕ → Type 0
HoldsBytes text = (name : List ℕ) × (rest : List ℕ) × ArePair text name rest × RestHoldsBytes name rest
