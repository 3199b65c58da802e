use Rattle.std.proofs.Common.{◌≡◌, ℕ, ◌∷◌, ◌++◌, Option, Some, IsSome, refl, sym, ap, ◌∙◌, subst}
use Rattle.std.specs.Prelude.{IfSome}
use Rattle.std.specs.Ordering.{nat_cmp}
use Rattle.std.specs.BTreeMap as tree
use Rattle.std.specs.List.{AllByRecursion}
use Rattle.yamux_session.specs.Events.{Told}
use Rattle.yamux_session.specs.Seen.{IsQuiet}
use Rattle.streams.specs.State.{Streaming}
use Rattle.conn_log.specs.Entries.{items}
use Rattle.conn_log.specs.Routes.{IsMoving, Routed}
use Rattle.conn_log.proofs.Arriving.{quiet_behind}
use Rattle.conn_log.proofs.Ending.{end_came, end_is_told, has_ended}
use Rattle.conn_log.proofs.Settling.{routed_on}
use Rattle.board.proofs.Tables.{elsewhere, here}
use Rattle.board.proofs.Telling.{on_ok, end_dropped}
use Rattle.board.specs.Boards.{MakesOnBoard}
use Rattle.board.proofs.Holding.{held_still, holds_since, in_order, in_order_then, by_acts}
use Rattle.board.proofs.board.Board.end.Goals as goal

pub returns-in_default-clause-routes : goal.returns-in_default-clause-routes
returns-in_default-clause-routes g c = λ log fed sent view rest r.
    let H = g.P.H.Handler in
    let makes = g.P.Protocols in
    let board = c.args.self.now in
    subst (λ (f : ℕ → Option (Streaming _)). Routed H.steps H.fails H.is_closed H.is_finished makes.makes_inbound makes.makes_outbound (makes.is_eager board.protocols) (makes.listed board.protocols)
    board.peer board.role (MakesOnBoard makes.leads_inbound makes.leads_outbound board board)
    log c.args.told.now.items c.args.told.now.items fed sent c.args.session.now f board.past.items c.args.number rest)
    (ap (tree.get nat_cmp) (sym c.get_mut.follows.holds-at-none))
    (end_dropped H.steps H.fails H.is_closed H.is_finished makes.makes_inbound makes.makes_outbound (makes.is_eager board.protocols) (makes.listed board.protocols) board.peer board.role log
    c.args.told.now.items c.args.told.now.items fed sent c.args.session.now (tree.get nat_cmp board.streams) board.past.items c.args.number rest
    (MakesOnBoard makes.leads_inbound makes.leads_outbound board board) (in_order makes.leads_inbound makes.leads_outbound board.peer board.role board.protocols board.order log) view refl (sym c.in_default.ensures.value) r)

pub returns-clause-routes : goal.returns-clause-routes
returns-clause-routes g c = λ log fed sent view rest r.
    let H = g.P.H.Handler in
    let makes = g.P.Protocols in
    let board = c.args.self.now in
    let n = c.args.number in
    let old = tree.get nat_cmp board.streams in
    let found : old n ≡ Some c.in-Some.stream.now = sym c.in-Some.ensures.value in
    let some : IsSome (old n) = rw found refl in
    let updates = (c.get_mut.follows.holds c.deliver_end.new.stream).3 some in
    let moving = subst (λ (t : Option (Streaming _)). IfSome t (λ it. IsMoving H.steps H.fails H.is_closed H.is_finished makes.makes_inbound makes.makes_outbound (makes.is_eager board.protocols)
    (makes.listed board.protocols) board.peer board.role log n view (Told.Ended n ∷ rest) it)) found r.own in
    let around = end_came H.steps H.fails H.is_closed H.is_finished makes.makes_inbound makes.makes_outbound (makes.is_eager board.protocols) (makes.listed board.protocols) board.peer board.role log
    fed sent c.args.session.now old board.past.items n view rest r.around in
    let going = r.around.ends_last.0 in
    let quiet : AllByRecursion (IsQuiet n) (Told.Ended n ∷ rest) = (tt, quiet_behind n rest around.opens_none around.ends_last r.around.ends_last.2) in
    let ends = c.in_ok-outcome.ensures.ends board.role (items log) fed sent moving.held.so_far around.session_stands moving.held.stands (moving.held.ended_is ∙ going) moving.held.served moving.held.sent_is in
    let now = has_ended H.steps H.fails H.is_closed H.is_finished makes.makes_inbound makes.makes_outbound (makes.is_eager board.protocols) (makes.listed board.protocols) board.peer board.role
    c.acts_tell.ensures.seen c.acts_tell.ensures.windows log fed sent c.args.session.now c.deliver_end.new.session old _ board.past.items n view rest c.in-Some.stream.now c.deliver_end.new.stream
    around moving.held going moving.unfinished (moving.settled quiet) (moving.asked quiet)
    (end_is_told H.steps H.fails H.is_closed H.is_finished makes.makes_inbound makes.makes_outbound (makes.is_eager board.protocols) (makes.listed board.protocols) board.peer board.role log
    fed sent c.args.session.now old board.past.items n view rest r.around) r.around.ends_last.2 moving.handed (elsewhere old _ n (Some c.deliver_end.new.stream) updates.0) (here old _ n (Some c.deliver_end.new.stream) updates.0)
    c.in_ok-outcome.outcome ends in
    on_ok c.settle.result
    (λ routed. routed_on H.steps H.fails H.is_closed H.is_finished makes.makes_inbound makes.makes_outbound (makes.is_eager board.protocols) (makes.listed board.protocols) board.peer board.role log
    now.newer c.args.told.now.items c.settle.new.told.items fed sent c.settle.new.session (tree.get nat_cmp c.settle.new.self.streams) c.settle.new.self.past.items n rest
    (MakesOnBoard makes.leads_inbound makes.leads_outbound board c.settle.new.self)
    (MakesOnBoard makes.leads_inbound makes.leads_outbound board c.settle.new.self)
    (λ longer made. in_order_then makes.leads_inbound makes.leads_outbound board.peer board.role board.protocols board.protocols c.settle.new.self.protocols board.order board.order c.settle.new.self.order log (now.newer ++ log) longer
    (by_acts makes.leads_inbound makes.leads_outbound board.peer board.role board.protocols board.order log now.newer now.unmade now.none_said) made)
    now.none_said now.untold now.same_turn routed)
    (c.settle.ensures.settles (now.newer ++ log) fed sent now.seen_now rest now.comes
    (held_still H.steps H.fails H.is_closed H.is_finished makes.makes_inbound makes.makes_outbound (makes.is_eager board.protocols) (makes.listed board.protocols) board.peer board.role log n
    now.newer fed sent c.deliver_end.new.session _ board.past.items now.seen_now rest c.in_ok-outcome.outcome now.comes now.same_turn now.unmade c.holds_handler-is_held.result
    (holds_since H.steps H.is_closed H.is_finished (makes.listed board.protocols) board.role log n _ _ c.in-Some.stream.now c.holds_handler-is_held.result c.holds_handler-is_held.ensures moving.held)))
