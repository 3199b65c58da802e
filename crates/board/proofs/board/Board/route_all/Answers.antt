use Rattle.std.proofs.Common.{◌≡◌, suc, ◌+◌, List, [], ◌∷◌, ◌++◌, drop, refl, sym, ap, ◌∙◌, subst, arith, add-one}
use Rattle.std.proofs.Math.Seq.{drop-cons}
use Rattle.std.proofs.lemmas.List.{drop_all}
use Rattle.std.specs.List.{AllByRecursion}
use Rattle.yamux_session.specs.declared.event.Event.{Event}
use Rattle.std.specs.Ordering.{nat_cmp}
use Rattle.std.specs.BTreeMap as tree
use Rattle.yamux_session.specs.Arrives.{telling, tellings}
use Rattle.conn_log.specs.Routes.{IsFor, IsNoData, Awaits, Routed, IsUnderWay}
use Rattle.conn_log.proofs.Rested.{begun, went_on, all_routed}
use Rattle.board.specs.Boards.{MakesInOrder, MakesOnBoard}
use Rattle.board.proofs.Stepping.{keeps_all, keeps_on, kept_on, all_head, told_later}
use Rattle.board.proofs.Holding.{in_order, in_order_then}
use Rattle.board.proofs.board.Board.route_all.Goals as goal

pub loop-event-init : goal.loop-event-init
loop-event-init g c =
    let H = g.P.H.Handler in
    let makes = g.P.Protocols in
    let board = c.args.self.now in
    record {
      keeps = keeps_all makes.listed makes.is_eager board;
      under_way = λ log fed sent n all awaits no_data. begun H.steps H.fails H.is_closed H.is_finished makes.makes_inbound makes.makes_outbound (makes.is_eager board.protocols)
          (makes.listed board.protocols) board.peer board.role log c.args.told.now.items c.args.told.now.items c.args.told.now.items fed sent c.args.session.now c.args.session.now
          (tree.get nat_cmp board.streams) (tree.get nat_cmp board.streams) board.past.items board.past.items n (tellings c.args.events.now) []
          (MakesOnBoard makes.leads_inbound makes.leads_outbound board board) (in_order makes.leads_inbound makes.leads_outbound board.peer board.role board.protocols board.order log) refl awaits;
    }

pub returns-in_err-route_event-clause-keeps : goal.returns-in_err-route_event-clause-keeps
returns-in_err-route_event-clause-keeps g c =
    keeps_on g.P.Protocols.listed g.P.Protocols.is_eager c.args.self.now c.loop-event.self c.route_event.new.self c.loop-event.invariant.keeps c.route_event.ensures.keeps

pub loop-event-preserved : goal.loop-event-preserved
loop-event-preserved g c =
    let H = g.P.H.Handler in
    let makes = g.P.Protocols in
    let board = c.args.self.now in
    let events = c.args.events.now in
    let i = c.loop-event.event-index in
    let event = c.event-item.result in
    let left : drop i events ≡ event ∷ drop (i + 1) events =
    rw (add-one) (drop-cons events i event c.loop-event-test.true ∙ ap (λ (e : Event). e ∷ drop (suc i) events) (sym c.event-item.is)) in
    record {
      keeps = keeps_on makes.listed makes.is_eager board c.loop-event.self c.route_event.new.self c.loop-event.invariant.keeps c.route_event.ensures.keeps;
      under_way = λ log fed sent n all awaits no_data.
          let u = c.loop-event.invariant.under_way log fed sent n all awaits no_data in
          let so_far = u.newer ++ log in
          let for_it : IsFor n event = all_head (IsFor n) events i event (drop (i + 1) events) left all in
          let waits = subst (λ (t : List Event). Awaits H.steps H.fails H.is_closed H.is_finished makes.makes_inbound makes.makes_outbound (makes.is_eager board.protocols)
          (makes.listed board.protocols) board.peer board.role so_far fed sent c.loop-event.session (tree.get nat_cmp c.loop-event.self.streams) c.loop-event.self.past.items n (tellings t)) left u.awaits in
          let routes = kept_on makes.listed makes.is_eager board c.loop-event.self c.loop-event.invariant.keeps
          (λ eager names peer role. IsFor n event
          → Awaits H.steps H.fails H.is_closed H.is_finished makes.makes_inbound makes.makes_outbound eager names peer role so_far fed sent
          c.loop-event.session (tree.get nat_cmp c.loop-event.self.streams) c.loop-event.self.past.items n (telling event ++ tellings (drop (i + 1) events))
          → AllByRecursion IsNoData (tellings (drop (i + 1) events))
          → Routed H.steps H.fails H.is_closed H.is_finished makes.makes_inbound makes.makes_outbound eager names peer role
          (MakesInOrder makes.leads_inbound makes.leads_outbound peer role c.loop-event.self.protocols c.route_event.new.self.protocols c.loop-event.self.order c.route_event.new.self.order) so_far c.loop-event.told.items c.route_event.new.told.items fed sent
          c.route_event.new.session (tree.get nat_cmp c.route_event.new.self.streams) c.route_event.new.self.past.items n (tellings (drop (i + 1) events)))
          (c.in_ok-route_event.ensures.routes so_far fed sent n (tellings (drop (i + 1) events))) in
          went_on H.steps H.fails H.is_closed H.is_finished makes.makes_inbound makes.makes_outbound (makes.is_eager board.protocols)
          (makes.listed board.protocols) board.peer board.role log c.args.told.now.items c.loop-event.told.items c.route_event.new.told.items fed sent c.loop-event.session c.route_event.new.session
          (tree.get nat_cmp c.loop-event.self.streams) (tree.get nat_cmp c.route_event.new.self.streams) c.loop-event.self.past.items c.route_event.new.self.past.items n
          (tellings (drop i events)) (tellings (drop (i + 1) events))
          (MakesOnBoard makes.leads_inbound makes.leads_outbound board c.route_event.new.self)
          (MakesOnBoard makes.leads_inbound makes.leads_outbound board c.loop-event.self)
          (MakesInOrder makes.leads_inbound makes.leads_outbound board.peer board.role c.loop-event.self.protocols c.route_event.new.self.protocols c.loop-event.self.order c.route_event.new.self.order)
          (λ longer last made one. in_order_then makes.leads_inbound makes.leads_outbound board.peer board.role board.protocols c.loop-event.self.protocols c.route_event.new.self.protocols board.order c.loop-event.self.order c.route_event.new.self.order log longer last made one) u (routes for_it waits (told_later IsNoData i events no_data));
    }

pub returns-clause-keeps : goal.returns-clause-keeps
returns-clause-keeps g c = c.loop-event.invariant.keeps

pub returns-clause-routes : goal.returns-clause-routes
returns-clause-routes g c = λ log fed sent n all awaits no_data.
    let H = g.P.H.Handler in
    let makes = g.P.Protocols in
    let board = c.args.self.now in
    all_routed H.steps H.fails H.is_closed H.is_finished makes.makes_inbound makes.makes_outbound (makes.is_eager board.protocols)
    (makes.listed board.protocols) board.peer board.role (MakesOnBoard makes.leads_inbound makes.leads_outbound board c.loop-event.self)
    log c.args.told.now.items c.loop-event.told.items fed sent c.loop-event.session
    (tree.get nat_cmp c.loop-event.self.streams) c.loop-event.self.past.items n
    (subst (λ (t : List Event). IsUnderWay H.steps H.fails H.is_closed H.is_finished makes.makes_inbound makes.makes_outbound (makes.is_eager board.protocols)
    (makes.listed board.protocols) board.peer board.role (MakesOnBoard makes.leads_inbound makes.leads_outbound board c.loop-event.self)
    log c.args.told.now.items c.loop-event.told.items fed sent c.loop-event.session
    (tree.get nat_cmp c.loop-event.self.streams) c.loop-event.self.past.items n (tellings t))
    (drop_all c.loop-event.event-index c.args.events.now (let over = c.loop-event-test.false in omega arith))
    (c.loop-event.invariant.under_way log fed sent n all awaits no_data))
