use Rattle.std.proofs.Common.{◌≡◌, ℕ, List, ◌++◌, map, sym, ◌∙◌, subst}
use Rattle.std.specs.Prelude.{OnOk}
use Rattle.std.specs.Ordering.{nat_cmp}
use Rattle.std.specs.BTreeMap as tree
use Rattle.yamux_session.specs.declared.event.Event.{Event}
use Rattle.yamux_session.specs.Arrives.{telling}
use Rattle.yamux_session.specs.Events.{Told}
use Rattle.conn_log.specs.Routes.{IsFor, Awaits, Routes, Routed}
use Rattle.board.proofs.Stepping.{data_came_to, routed_over}
use Rattle.board.specs.Boards.{MakesOnBoard}
use Rattle.board.proofs.Holding.{in_order}
use Rattle.board.proofs.board.Board.route_event.Goals as goal

pub returns-in-Payload-clause-routes : goal.returns-in-Payload-clause-routes
returns-in-Payload-clause-routes g c = λ log fed sent n rest is_for awaits no_data.
    let H = g.P.H.Handler in
    let makes = g.P.Protocols in
    let board = c.args.self.now in
    let known = subst (λ (e : Event). IsFor n e) c.in-Payload.is is_for in
    let waits = subst (λ (e : Event). Awaits H.steps H.fails H.is_closed H.is_finished makes.makes_inbound makes.makes_outbound (makes.is_eager board.protocols) (makes.listed board.protocols)
    board.peer board.role log fed sent c.args.session.now (tree.get nat_cmp board.streams) board.past.items n (telling e ++ rest)) c.in-Payload.is awaits in
    let number = c.in-Payload.number in
    let bytes : List ℕ = c.in-Payload.bytes in
    let streams = tree.get nat_cmp board.streams in
    let waits_here = subst (λ (k : ℕ). Awaits H.steps H.fails H.is_closed H.is_finished makes.makes_inbound makes.makes_outbound (makes.is_eager board.protocols) (makes.listed board.protocols)
    board.peer board.role log fed sent c.args.session.now streams board.past.items k (map (Told.Payload number) bytes ++ rest)) (sym known.0) waits in
    let came = data_came_to H.steps H.fails H.is_closed H.is_finished makes.makes_inbound makes.makes_outbound (makes.is_eager board.protocols) (makes.listed board.protocols) board.peer board.role
    log fed sent c.args.session.now streams board.past.items number bytes rest known.1 waits_here in
    let given : bytes ≡ c.as_slice.result.now = sym c.as_slice.ensures in
    subst (λ (k : ℕ). OnOk c.data.result (Routed H.steps H.fails H.is_closed H.is_finished makes.makes_inbound makes.makes_outbound (makes.is_eager board.protocols) (makes.listed board.protocols)
    board.peer board.role
    (MakesOnBoard makes.leads_inbound makes.leads_outbound board c.data.new.self) log c.args.told.now.items c.data.new.told.items fed sent c.data.new.session (tree.get nat_cmp c.data.new.self.streams) c.data.new.self.past.items k rest)) known.0
    (c.data.ensures.routes log fed sent came.0 rest
    (subst (λ (b : List ℕ). Routes H.steps H.fails H.is_closed H.is_finished makes.makes_inbound makes.makes_outbound (makes.is_eager board.protocols) (makes.listed board.protocols)
    board.peer board.role log fed sent c.args.session.now streams board.past.items number came.0 (map (Told.Payload number) b ++ rest)) given came.1)
    (λ none. known.1 (given ∙ none)) no_data)

pub returns-in-Accepted-clause-routes : goal.returns-in-Accepted-clause-routes
returns-in-Accepted-clause-routes g c = λ log fed sent n rest is_for awaits no_data.
    let H = g.P.H.Handler in
    let makes = g.P.Protocols in
    let board = c.args.self.now in
    let waits = subst (λ (e : Event). Awaits H.steps H.fails H.is_closed H.is_finished makes.makes_inbound makes.makes_outbound (makes.is_eager board.protocols) (makes.listed board.protocols)
    board.peer board.role log fed sent c.args.session.now (tree.get nat_cmp board.streams) board.past.items n (telling e ++ rest)) c.in-Accepted.is awaits in
    routed_over H.steps H.fails H.is_closed H.is_finished makes.makes_inbound makes.makes_outbound (makes.is_eager board.protocols) (makes.listed board.protocols) board.peer board.role
    log fed sent c.args.session.now (tree.get nat_cmp board.streams) board.past.items n
    (MakesOnBoard makes.leads_inbound makes.leads_outbound board board) (in_order makes.leads_inbound makes.leads_outbound board.peer board.role board.protocols board.order log) c.args.told.now.items (Told.Accepted _) rest tt (λ left e. absurd (cc e)) waits

pub returns-in-GoAway-clause-routes : goal.returns-in-GoAway-clause-routes
returns-in-GoAway-clause-routes g c = λ log fed sent n rest is_for awaits no_data.
    let H = g.P.H.Handler in
    let makes = g.P.Protocols in
    let board = c.args.self.now in
    let waits = subst (λ (e : Event). Awaits H.steps H.fails H.is_closed H.is_finished makes.makes_inbound makes.makes_outbound (makes.is_eager board.protocols) (makes.listed board.protocols)
    board.peer board.role log fed sent c.args.session.now (tree.get nat_cmp board.streams) board.past.items n (telling e ++ rest)) c.in-GoAway.is awaits in
    routed_over H.steps H.fails H.is_closed H.is_finished makes.makes_inbound makes.makes_outbound (makes.is_eager board.protocols) (makes.listed board.protocols) board.peer board.role
    log fed sent c.args.session.now (tree.get nat_cmp board.streams) board.past.items n
    (MakesOnBoard makes.leads_inbound makes.leads_outbound board board) (in_order makes.leads_inbound makes.leads_outbound board.peer board.role board.protocols board.order log) c.args.told.now.items (Told.GoAway _) rest tt (λ left e. absurd (cc e)) waits

pub returns-in-Fault-clause-routes : goal.returns-in-Fault-clause-routes
returns-in-Fault-clause-routes g c = λ log fed sent n rest is_for awaits no_data.
    let H = g.P.H.Handler in
    let makes = g.P.Protocols in
    let board = c.args.self.now in
    let waits = subst (λ (e : Event). Awaits H.steps H.fails H.is_closed H.is_finished makes.makes_inbound makes.makes_outbound (makes.is_eager board.protocols) (makes.listed board.protocols)
    board.peer board.role log fed sent c.args.session.now (tree.get nat_cmp board.streams) board.past.items n (telling e ++ rest)) c.in-Fault.is awaits in
    routed_over H.steps H.fails H.is_closed H.is_finished makes.makes_inbound makes.makes_outbound (makes.is_eager board.protocols) (makes.listed board.protocols) board.peer board.role
    log fed sent c.args.session.now (tree.get nat_cmp board.streams) board.past.items n
    (MakesOnBoard makes.leads_inbound makes.leads_outbound board board) (in_order makes.leads_inbound makes.leads_outbound board.peer board.role board.protocols board.order log) c.args.told.now.items (Told.Fault _) rest tt (λ left e. absurd (cc e)) waits
