use Rattle.std.proofs.Common.{[], ◌∷◌, refl, subst}
use Rattle.std.specs.Ordering.{nat_cmp}
use Rattle.std.specs.BTreeMap as tree
use Rattle.routing.specs.declared.delivered.Outcome.{Outcome}
use Rattle.conn_log.specs.declared.event.ConnEvent.TheVariants as event
use Rattle.conn_log.specs.Entries.Entry.{Says}
use Rattle.conn_log.specs.Routes.{Comes}
use Rattle.board.proofs.Telling.{on_ok, told_none, told_at, told_then}
use Rattle.board.specs.Boards.{MakesInOrder, MakesOnBoard}
use Rattle.board.proofs.Holding.{in_order, lets}
use Rattle.board.proofs.board.Board.settle.Goals as goal

pub returns-in-Going-clause-settles : goal.returns-in-Going-clause-settles
returns-in-Going-clause-settles g c = λ log fed sent view rest comes is_held.
    let H = g.P.H.Handler in
    let makes = g.P.Protocols in
    let board = c.args.self.now in
    let there = subst (λ (o : Outcome _). Comes H.steps H.fails H.is_closed H.is_finished makes.makes_inbound makes.makes_outbound (makes.is_eager board.protocols) (makes.listed board.protocols)
    board.peer board.role log fed sent c.args.session.now (tree.get nat_cmp board.streams) board.past.items c.args.number view rest o) c.in-Going.is comes in
    told_none H.steps H.fails H.is_closed H.is_finished makes.makes_inbound makes.makes_outbound (makes.is_eager board.protocols) (makes.listed board.protocols) board.peer board.role log
    c.args.told.now.items c.args.told.now.items fed sent c.args.session.now (tree.get nat_cmp board.streams) board.past.items c.args.number rest
    (MakesOnBoard makes.leads_inbound makes.leads_outbound board board) (in_order makes.leads_inbound makes.leads_outbound board.peer board.role board.protocols board.order log) view refl there

pub returns-in-Done-clause-settles : goal.returns-in-Done-clause-settles
returns-in-Done-clause-settles g c = λ log fed sent view rest comes is_held.
    let H = g.P.H.Handler in
    let makes = g.P.Protocols in
    let board = c.args.self.now in
    let there = subst (λ (o : Outcome _). Comes H.steps H.fails H.is_closed H.is_finished makes.makes_inbound makes.makes_outbound (makes.is_eager board.protocols) (makes.listed board.protocols)
    board.peer board.role log fed sent c.args.session.now (tree.get nat_cmp board.streams) board.past.items c.args.number view rest o) c.in-Done.is comes in
    on_ok c.tell.result
    (λ is. told_at H.steps H.fails H.is_closed H.is_finished makes.makes_inbound makes.makes_outbound (makes.is_eager board.protocols) (makes.listed board.protocols) board.peer board.role log
    c.args.told.now.items c.tell.new.told.items fed sent c.args.session.now (tree.get nat_cmp board.streams) board.past.items c.args.number rest
    (MakesInOrder makes.leads_inbound makes.leads_outbound board.peer board.role board.protocols board.protocols board.order c.let_go.new.order) view (event.Done c.args.number c.in-Done.handler)
    ((λ first was. was), (λ so_far. lets board.role log c.args.number c.args.is_held board.order c.let_go.new.order c.let_go.ensures (is_held there.around.due.0.1) so_far)) is there)
    c.tell.ensures

pub returns-in_ok-give_up-in-Refused-clause-settles :
    goal.returns-in_ok-give_up-in-Refused-clause-settles
returns-in_ok-give_up-in-Refused-clause-settles g c = λ log fed sent view rest comes is_held.
    let H = g.P.H.Handler in
    let makes = g.P.Protocols in
    let board = c.args.self.now in
    let there = subst (λ (o : Outcome _). Comes H.steps H.fails H.is_closed H.is_finished makes.makes_inbound makes.makes_outbound (makes.is_eager board.protocols) (makes.listed board.protocols)
    board.peer board.role log fed sent c.args.session.now (tree.get nat_cmp board.streams) board.past.items c.args.number view rest o) c.in-Refused.is comes in
    on_ok c.tell-in-Refused.result
    (λ is. told_then H.steps H.fails H.is_closed H.is_finished makes.makes_inbound makes.makes_outbound (makes.is_eager board.protocols) (makes.listed board.protocols) board.peer board.role log
    c.args.told.now.items c.tell-in-Refused.new.told.items fed sent c.give_up.new.session (tree.get nat_cmp c.give_up.new.self.streams) c.give_up.new.self.past.items c.args.number rest
    (MakesOnBoard makes.leads_inbound makes.leads_outbound board c.give_up.new.self)
    (MakesInOrder makes.leads_inbound makes.leads_outbound board.peer board.role board.protocols c.give_up.new.self.protocols c.let_go-in-Refused.new.order c.give_up.new.self.order)
    (event.Refused c.args.number)
    (λ longer made. (made.0, (λ so_far. made.1 (lets board.role log c.args.number c.args.is_held board.order c.let_go-in-Refused.new.order c.let_go-in-Refused.ensures (is_held there.due.0.1) so_far)))) is
    (c.in_ok-give_up-in-Refused.ensures.gives_up (Says (event.Refused c.args.number) ∷ log) fed sent view rest [] there refl))
    c.tell-in-Refused.ensures

pub returns-in_ok-give_up-in-Broken-clause-settles :
    goal.returns-in_ok-give_up-in-Broken-clause-settles
returns-in_ok-give_up-in-Broken-clause-settles g c = λ log fed sent view rest comes is_held.
    let H = g.P.H.Handler in
    let makes = g.P.Protocols in
    let board = c.args.self.now in
    let there = subst (λ (o : Outcome _). Comes H.steps H.fails H.is_closed H.is_finished makes.makes_inbound makes.makes_outbound (makes.is_eager board.protocols) (makes.listed board.protocols)
    board.peer board.role log fed sent c.args.session.now (tree.get nat_cmp board.streams) board.past.items c.args.number view rest o) c.in-Broken.is comes in
    on_ok c.tell-in-Broken.result
    (λ is. told_then H.steps H.fails H.is_closed H.is_finished makes.makes_inbound makes.makes_outbound (makes.is_eager board.protocols) (makes.listed board.protocols) board.peer board.role log
    c.args.told.now.items c.tell-in-Broken.new.told.items fed sent c.give_up-in-Broken.new.session (tree.get nat_cmp c.give_up-in-Broken.new.self.streams) c.give_up-in-Broken.new.self.past.items
    c.args.number rest
    (MakesOnBoard makes.leads_inbound makes.leads_outbound board c.give_up-in-Broken.new.self)
    (MakesInOrder makes.leads_inbound makes.leads_outbound board.peer board.role board.protocols c.give_up-in-Broken.new.self.protocols c.let_go-in-Broken.new.order c.give_up-in-Broken.new.self.order)
    (event.Broken c.args.number c.in-Broken.cause)
    (λ longer made. (made.0, (λ so_far. made.1 (lets board.role log c.args.number c.args.is_held board.order c.let_go-in-Broken.new.order c.let_go-in-Broken.ensures (is_held there.0.due.0.0) so_far)))) is
    (c.in_ok-give_up-in-Broken.ensures.gives_up (Says (event.Broken c.args.number c.in-Broken.cause) ∷ log) fed sent view rest [] there.0 (refl, there.1)))
    c.tell-in-Broken.ensures
