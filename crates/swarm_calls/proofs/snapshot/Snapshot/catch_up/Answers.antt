use Rattle.std.proofs.Common.{Option, subst, arith}
use Rattle.std.specs.Option.{IfSome}
use Rattle.pool_state.specs.History.{Entry}
use Rattle.swarm_calls.specs.Snapshots.{EndsWith}
use Rattle.swarm_calls.proofs.Showing.{caught_up}
use Rattle.swarm_calls.proofs.snapshot.Snapshot.catch_up.Goals as goal

pub returns-in-Some-clause-shown : goal.returns-in-Some-clause-shown
returns-in-Some-clause-shown g c =
    let all = c.args.all.now in
    let ends : EndsWith all.beginning.log c.in-Some.entry = subst (λ (o : Option Entry). IfSome o (λ e. EndsWith all.beginning.log e)) c.in-Some.is c.requires.all.last_is in
    rw (c.follow.ensures) (caught_up c.added_is_shown.ensures c.last_reply.ensures g.J.Identity.book g.J.Identity.config g.J.Identity.callers c.args.self.now all c.in-Some.entry c.requires.kept c.requires.all c.requires.begins ends (omega (arith, c.if-self-all.true, c.if-missing-eq1.true)))
