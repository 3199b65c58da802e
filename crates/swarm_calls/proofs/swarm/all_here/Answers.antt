use Rattle.std.proofs.Common.{sym, ◌∙◌, rules}
use Rattle.swarm_calls.proofs.swarm.all_here.Goals as goal

pub returns-then-not-is_here-clause-no : goal.returns-then-not-is_here-clause-no
returns-then-not-is_here-clause-no g c same all =
    let here = all c.loop-caller.caller (search rules) (search rules) in
    let not_here = sym c.is_here.ensures ∙ c.if-not-is_here.true in cc (here, not_here)
