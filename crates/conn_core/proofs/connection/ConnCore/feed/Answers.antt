use Rattle.std.proofs.Common.{ℕ, List, ◌++◌, sym, subst}
use Rattle.conn_core.specs.declared.connection.Phase.{Phase}
use Rattle.conn_core.specs.Connects.{waiting_in}
use Rattle.conn_core.specs.Wanting.{Wrote}
use Rattle.conn_core.proofs.Wanting.{wrote_before}
use Rattle.conn_core.proofs.connection.ConnCore.feed.Goals as goal

-- no byte was heard
pub returns-in-Err-clause-wrote : goal.returns-in-Err-clause-wrote
returns-in-Err-clause-wrote g c = λ role own start input taken log told stands going.
    let H = g.P.H.Handler in
    let makes = g.P.Protocols in
    let core = c.args.self.now in
    subst (λ (x : Phase _ _). Wrote H.steps H.fails H.is_closed H.is_finished makes.makes_inbound makes.makes_outbound makes.listed makes.is_eager makes.leads_inbound makes.leads_outbound start role own
    input c.args.bytes.now log told (taken ++ waiting_in x c.take_output.result.items)) (sym c.replace.ensures.after)
    (subst (λ (t : List ℕ). Wrote H.steps H.fails H.is_closed H.is_finished makes.makes_inbound makes.makes_outbound makes.listed makes.is_eager makes.leads_inbound makes.leads_outbound start role own
    input c.args.bytes.now log told (taken ++ t)) (sym c.take_output.ensures.taken)
    (wrote_before H.steps H.fails H.is_closed H.is_finished makes.makes_inbound makes.makes_outbound makes.listed makes.is_eager makes.leads_inbound makes.leads_outbound start role own
    input c.args.bytes.now log told taken core.phase core.owed.items core.output.items stands.1 going))
