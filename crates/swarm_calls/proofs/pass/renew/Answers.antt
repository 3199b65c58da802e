use Rattle.std.proofs.Common.{sym, ◌∙◌}
use Rattle.swarm_calls.proofs.Legal.{mine_same}
use Rattle.swarm_calls.proofs.pass.renew.Goals as goal

pub returns-clause-own : goal.returns-clause-own
returns-clause-own g c =
    let s = c.args.kept.now.beginning.log in
    let o = c.args.other.now.beginning.log in
    let mine_of_kept = c.requires.kept.calls_are.each c.args.caller c.requires.caller.0 c.requires.caller.1 in
    let mine_of_other = c.requires.other.calls_are.each c.args.caller c.requires.caller.0 c.requires.caller.1 in
    rw (c.catch_up.ensures.whole) (mine_same c.args.caller s o c.begins.ensures (sym mine_of_other ∙ (sym c.if-kept-caller.false ∙ mine_of_kept)))
