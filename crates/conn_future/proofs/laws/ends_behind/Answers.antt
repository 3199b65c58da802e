use Rattle.conn_future.proofs.Standing.{stays_end}
use Rattle.conn_future.proofs.laws.ends_behind.Goals as goal

pub returns : goal.returns
returns g c start role own first log gave last conn follows ends =
    stays_end g.L.Link g.P.Protocols g.P.H.Handler start role own first log gave last conn.link conn.core conn.unsent.items conn.held.items conn.stage follows ends
