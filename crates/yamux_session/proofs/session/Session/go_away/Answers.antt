use Rattle.std.proofs.Common.{not, refl, sym, ap, ◌∙◌, subst}
use Rattle.yamux_session.specs.Table.{table_of}
use Rattle.yamux_session.specs.History.{Act}
use Rattle.yamux_session.specs.State.{State, Stands}
use Rattle.yamux_session.proofs.Refusals.{on_ok}
use Rattle.yamux_session.proofs.Keeping.{did, gone_away}
use Rattle.yamux_session.proofs.session.Session.go_away.Goals as goal

pub returns-clause-ok : goal.returns-clause-ok
returns-clause-ok c = λ role past fed sent stands.
    let at = subst (λ (s : State). Stands role past fed sent s) (sym c.self.view_is) stands in
    did role past fed sent (Act.GoAway c.args.code) _ _ at c.ranges.code.fits
    (gone_away role past c.args.code (table_of c.self.inside.streams) _ at.table refl)
    refl c.if-self.false
    (on_ok c.append_frame.result c.append_frame.ensures.ok (c.is_err.ensures.negation ∙ ap not c.if-is_err.false))
