use Rattle.conn_future.proofs.OverLink.{up_over_link as it}
use Rattle.conn_future.proofs.laws.up_over_link.Goals as goal

pub returns : goal.returns
returns g c start role own first log gave conn mux follows live phase_is =
    it g.L.Link g.P.Protocols g.P.H.Handler start role own first log gave conn.link conn.core conn.unsent.items conn.held.items conn.stage mux follows live phase_is
