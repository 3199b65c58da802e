use Rattle.std.proofs.Common.{sym, subst}
use Rattle.yamux_session.specs.History.{arrivals}
use Rattle.yamux_session.specs.State.{State, Stands}
use Rattle.yamux_session.proofs.session.Session.mid_frame.Goals as goal

pub returns-clause-live : goal.returns-clause-live
returns-clause-live c = λ role past fed sent stands.
    let at = subst (λ (s : State). Stands role past fed sent s) (sym c.self.view_is) stands in
    c.is_mid_frame.ensures.within fed (arrivals past) at.frames
