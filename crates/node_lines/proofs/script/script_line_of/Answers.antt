use Rattle.std.proofs.Common.{ℕ, List, sym, subst}
use Rattle.node_lines.specs.Script.{SaysAct}
use Rattle.node_lines.proofs.script.script_line_of.Goals as goal

pub returns-in-Ok-clause-only : goal.returns-in-Ok-clause-only
returns-in-Ok-clause-only c = λ node it utf8 says.
    c.said_of.ensures.only node it (subst (λ (text : List ℕ). SaysAct text node it) (sym c.in-Ok.ensures.cases.0) says)
