use Rattle.std.proofs.Common.{subst}
use Rattle.std.proofs.lemmas.Result.{err_from_is_err_and}
use Rattle.std.specs.Prelude.{Option, ℕ, IfSome, ◌≤◌, length}
use Rattle.upgrade.specs.Upgrades.{side_of, yamux}
use Rattle.upgrade.proofs.Leading.{mux_fails, mux_waits, mux_agrees}
use Rattle.upgrade.proofs.stages.mux.Goals as goal

pub returns-in_err-hear-clause-leads : goal.returns-in_err-hear-clause-leads
returns-in_err-hear-clause-leads c = λ role own input taken here.
    let p = err_from_is_err_and c.from_residual.result c.from_residual.ensures.1 in
    rw (p.1, p.2) (mux_fails role own c.args.proven c.hear.new.talk input c.args.piece.now taken c.args.output.now.items c.hear.new.output.items c.in_err-hear.field-0.0 here.0
    (c.in_err-hear.ensures.heard (side_of role yamux) here.0.second here.0.talk here.1))

pub behind-requires : goal.behind-requires
behind-requires c = subst (λ (o : Option ℕ). IfSome o (λ n. n ≤ length c.args.piece.now)) c.in-Some.is c.in_ok-hear.ensures.within

pub returns-in-None-clause-leads : goal.returns-in-None-clause-leads
returns-in-None-clause-leads c = λ role own input taken here.
    mux_waits role own c.args.proven c.hear.new.talk input c.args.piece.now taken c.args.output.now.items c.hear.new.output.items c.in_ok-hear.field-0 here.0 c.in-None.is
    (c.in_ok-hear.ensures.heard (side_of role yamux) here.0.second here.0.talk here.1)

pub returns-in-Some-clause-leads : goal.returns-in-Some-clause-leads
returns-in-Some-clause-leads c = λ role own input taken here.
    mux_agrees role own c.args.proven c.hear.new.talk input c.args.piece.now taken c.args.output.now.items c.hear.new.output.items c.behind.result.now c.in_ok-hear.field-0 c.in-Some.used here.0 c.in-Some.is c.behind.ensures
    (c.in_ok-hear.ensures.heard (side_of role yamux) here.0.second here.0.talk here.1)
