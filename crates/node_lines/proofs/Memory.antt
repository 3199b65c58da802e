-- A line that took memory holds bytes.
use Rattle.std.proofs.Common.{ℕ, List, Result, Ok, Err}
use Rattle.std.specs.Prelude.{IfErr}
use Rattle.pool_texts.specs.Lines.{ArePair}
use Rattle.node_lines.specs.Trace.{RestHoldsBytes, HoldsBytes}

pub holds_bytes : {X E : Type 0} (text name rest : List ℕ) → ArePair text name rest → (read : Result X E)
    → IfErr read (λ e. RestHoldsBytes name rest) → IfErr read (λ e. HoldsBytes text)
holds_bytes text name rest pair (Ok found) h = tt
holds_bytes text name rest pair (Err e) h = (name, rest, pair, h)
