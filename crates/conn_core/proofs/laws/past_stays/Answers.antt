use Rattle.conn_core.proofs.Counting.{past_stays as it}
use Rattle.conn_core.proofs.laws.past_stays.Goals as goal

pub returns : goal.returns
returns g c = λ start role own.
    let H = g.P.H.Handler in
    let makes = g.P.Protocols in
    it H.steps H.fails H.is_closed H.is_finished makes.makes_inbound makes.makes_outbound makes.listed makes.is_eager makes.leads_inbound makes.leads_outbound start role own
