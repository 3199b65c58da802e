use Rattle.std.proofs.Common.{◌≡◌, ℕ, List, ◌∷◌, ◌++◌, sym, ap, ◌∙◌, subst}
use Rattle.std.proofs.lemmas.List.{append_assoc}
use Rattle.std.specs.Ordering.{nat_cmp}
use Rattle.std.specs.BTreeMap as tree
use Rattle.peer_ids.specs.PeerId.{id_of}
use Rattle.yamux_session.specs.Output.{output}
use Rattle.conn_log.specs.Entries.{items, said}
use Rattle.conn_log.specs.Entries.Entry.{Asks}
use Rattle.conn_log.specs.Rests.{AreAtRest}
use Rattle.conn_log.specs.Asked.{Asked}
use Rattle.held_order.specs.Orders.{newest_held}
use Rattle.board.specs.Boards.{MakesInOrder}
use Rattle.conn_core.specs.Connects.{IsUp, session_role}
use Rattle.conn_core.proofs.Going.{as_known}
use Rattle.conn_core.proofs.Asking.{up_asked}
use Rattle.conn_core.proofs.Growing.{opens}
use Rattle.conn_core.proofs.connection.open.Goals as goal

pub returns-in-Ok-collect-clause-opens : goal.returns-in-Ok-collect-clause-opens
returns-in-Ok-collect-clause-opens g c = λ role own start input taken log told upw.
    let H = g.P.H.Handler in
    let makes = g.P.Protocols in
    let mux = c.args.mux.now in
    let board = mux.board in
    let index = c.args.index in
    let number = c.in-Ok.number in
    let up = upw.3.0 in
    let sent = output (session_role role) (items log) in
    let streams = tree.get nat_cmp board.streams in
    let after = c.ask.new.self in
    let later = tree.get nat_cmp after.board.streams in
    let by_board = as_known (makes.is_eager board.protocols) (makes.is_eager start) (makes.listed board.protocols) (makes.listed start) board.peer (id_of up.key) board.role (session_role role) upw.1 upw.0 upw.3.1 upw.2
    (λ e n p r. AreAtRest H.steps H.fails H.is_closed H.is_finished makes.makes_inbound makes.makes_outbound e n p r log up.rest sent mux.session streams board.past.items
    → Asked H.steps H.fails H.is_closed H.is_finished makes.makes_inbound makes.makes_outbound e n p r (MakesInOrder makes.leads_inbound makes.leads_outbound p r board.protocols after.board.protocols board.order after.board.order) number index log c.args.owed.now.items c.ask.new.owed.items up.rest sent after.session
    later after.board.past.items)
    (c.in-Ok.ensures.asks log up.rest sent) up.at_rest in
    let a = subst (λ q. Asked H.steps H.fails H.is_closed H.is_finished makes.makes_inbound makes.makes_outbound (makes.is_eager start) (makes.listed start) (id_of up.key) (session_role role)
    (MakesInOrder makes.leads_inbound makes.leads_outbound (id_of up.key) (session_role role) q after.board.protocols board.order after.board.order) number index log c.args.owed.now.items c.ask.new.owed.items up.rest sent after.session
    later after.board.past.items) upw.3.2 by_board in
    let there = c.in-Ok-collect.ensures.stands (session_role role) (items (a.later ++ Asks number index ∷ log)) up.rest sent a.at_rest.session_stands in
    let it = up_asked H.steps H.fails H.is_closed H.is_finished makes.makes_inbound makes.makes_outbound makes.listed makes.is_eager makes.leads_inbound makes.leads_outbound start role own
    input log number index told c.args.owed.now.items c.ask.new.owed.items (taken ++ c.args.output.now.items) mux.session after.session c.collect.new.session streams later board.past.items
    after.board.past.items up after.board.protocols board.order after.board.order a upw.3.3 there in
    let written : (taken ++ c.args.output.now.items) ++ after.session.pending ≡ taken ++ c.collect.new.output.items =
    append_assoc taken c.args.output.now.items after.session.pending ∙ ap (λ (t : List ℕ). taken ++ t) (sym c.in-Ok-collect.ensures.moved) in
    let keeps = c.in-Ok.ensures.keeps in
    let all = subst (λ (t : List ℕ). (x : IsUp H.steps H.fails H.is_closed H.is_finished makes.makes_inbound makes.makes_outbound makes.listed makes.is_eager makes.leads_inbound makes.leads_outbound start role own
    input (a.later ++ Asks number index ∷ log) (told ++ c.ask.new.owed.items) t c.collect.new.session later after.board.past.items) × (after.board.peer ≡ id_of x.key) × (after.board.protocols ≡ x.now) × (after.board.order ≡ newest_held (session_role role) (a.later ++ Asks number index ∷ log))) written
    (it.0, keeps.peer_is ∙ upw.3.1 ∙ sym (ap id_of it.1), sym it.2, it.3) in
    (a.later ++ Asks number index ∷ log, opens number index a.later log a.alone, (keeps.names_are ∙ upw.0, keeps.eager_are ∙ upw.1, keeps.role_is ∙ upw.2, all))

pub returns-in-Ok-collect-clause-owes : goal.returns-in-Ok-collect-clause-owes
returns-in-Ok-collect-clause-owes g c = λ role own start input written log told upw.
    let up = upw.3.0 in
    let board = c.args.mux.now.board in
    let H = g.P.H.Handler in
    let makes = g.P.Protocols in
    let mux = c.args.mux.now in
    let sent = output (session_role role) (items log) in
    let streams = tree.get nat_cmp board.streams in
    let after = c.ask.new.self in
    let later = tree.get nat_cmp after.board.streams in
    let a = as_known (makes.is_eager board.protocols) (makes.is_eager start) (makes.listed board.protocols) (makes.listed start) board.peer (id_of up.key) board.role (session_role role) upw.1 upw.0 upw.3.1 upw.2
    (λ e n p r. AreAtRest H.steps H.fails H.is_closed H.is_finished makes.makes_inbound makes.makes_outbound e n p r log up.rest sent mux.session streams board.past.items
    → Asked H.steps H.fails H.is_closed H.is_finished makes.makes_inbound makes.makes_outbound e n p r (MakesInOrder makes.leads_inbound makes.leads_outbound p r board.protocols after.board.protocols board.order after.board.order) c.in-Ok.number c.args.index log c.args.owed.now.items c.ask.new.owed.items up.rest sent after.session
    later after.board.past.items)
    (c.in-Ok.ensures.asks log up.rest sent) up.at_rest in
    (said a.later, a.only_broken, a.told_is)
