-- What a line asks for.
use Rattle.std.proofs.Common.{ℕ, ◌<◌, List, None, Some}
use Rattle.std.specs.Global.{Vec}
use Rattle.node_lines.specs.declared.trace.TraceLine.TheVariants as line
use Rattle.node_lines.specs.Trace.{SaysTrace, IsCut}

-- pieces of none are not asked for
pub cut_some : (text : List ℕ) (size : ℕ) (bytes : Vec ℕ) → SaysTrace text (line.Cut size bytes) → 0 < size
unfolding SaysTrace IsCut
cut_some text size bytes (None, is, says) = absurd says
cut_some text size bytes (Some rest, is, (first, second, pair, number, some, spelt)) = some
