use Rattle.conn_core.proofs.InTurn.{comes_in_turn as it}
use Rattle.conn_core.proofs.laws.comes_in_turn.Goals as goal

pub returns : goal.returns
returns g c = λ start role own.
    let H = g.P.H.Handler in
    let makes = g.P.Protocols in
    it H.steps H.fails H.is_closed H.is_finished makes.makes_inbound makes.makes_outbound makes.listed makes.is_eager makes.leads_inbound makes.leads_outbound start role own
