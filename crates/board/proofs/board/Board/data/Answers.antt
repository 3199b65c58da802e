use Rattle.std.proofs.Common.{◌≡◌, ℕ, Bool, false, List, ◌++◌, map, Option, Some, IsSome, refl, sym, ap, ◌∙◌, subst}
use Rattle.std.specs.Prelude.{IfSome, OnOk, is_some}
use Rattle.std.specs.Ordering.{nat_cmp}
use Rattle.std.specs.BTreeMap as tree
use Rattle.yamux_session.specs.Events.{Told}
use Rattle.streams.specs.State.{Streaming}
use Rattle.dispatch.specs.declared.direction.Direction.{Direction}
use Rattle.dispatch.specs.Dispatch.{IsKnown, makes_once}
use Rattle.routing.specs.Routing.{Delivers}
use Rattle.conn_log.specs.Entries.{items, agreement, is_over, made_of}
use Rattle.conn_log.specs.Routes.{IsMoving, Routed, Comes}
use Rattle.conn_log.proofs.Views.{no_data_behind}
use Rattle.conn_log.proofs.Data.{with_bytes, data_came, before_the_end, no_credit_behind, is_known, delivered_to}
use Rattle.conn_log.proofs.Crediting.{quiet_rest, anew_by_data}
use Rattle.conn_log.proofs.Settling.{routed_behind}
use Rattle.board.proofs.Tables.{elsewhere, here}
use Rattle.board.proofs.Telling.{on_ok, data_dropped}
use Rattle.board.specs.Boards.{MakesInOrder, MakesOnBoard}
use Rattle.board.proofs.Holding.{in_order, in_order_then, holds_since, held_by, agrees_on}
use Rattle.board.proofs.board.Board.data.Goals as goal

pub returns-in_default-clause-routes : goal.returns-in_default-clause-routes
returns-in_default-clause-routes g c = λ log fed sent view rest r some no_data.
    let H = g.P.H.Handler in
    let makes = g.P.Protocols in
    let board = c.args.self.now in
    subst (λ (f : ℕ → Option (Streaming _)). Routed H.steps H.fails H.is_closed H.is_finished makes.makes_inbound makes.makes_outbound (makes.is_eager board.protocols) (makes.listed board.protocols)
    board.peer board.role (MakesOnBoard makes.leads_inbound makes.leads_outbound board board)
    log c.args.told.now.items c.args.told.now.items fed sent c.args.session.now f board.past.items c.args.number rest)
    (ap (tree.get nat_cmp) (sym c.get_mut.follows.holds-at-none))
    (data_dropped H.steps H.fails H.is_closed H.is_finished makes.makes_inbound makes.makes_outbound (makes.is_eager board.protocols) (makes.listed board.protocols) board.peer board.role log
    c.args.told.now.items c.args.told.now.items fed sent c.args.session.now (tree.get nat_cmp board.streams) board.past.items c.args.number rest
    (MakesOnBoard makes.leads_inbound makes.leads_outbound board board) (in_order makes.leads_inbound makes.leads_outbound board.peer board.role board.protocols board.order log) view c.args.bytes.now refl
    (sym c.in_default.ensures.value) r)

pub returns-clause-routes : goal.returns-clause-routes
returns-clause-routes g c = λ log fed sent view rest r some_data no_data.
    let H = g.P.H.Handler in
    let makes = g.P.Protocols in
    let board = c.args.self.now in
    let n = c.args.number in
    let old = tree.get nat_cmp board.streams in
    let found : old n ≡ Some c.in-Some.stream.now = sym c.in-Some.ensures.value in
    let some : IsSome (old n) = rw found refl in
    let updates = (c.get_mut.follows.holds c.deliver.new.stream).3 some in
    let moving = subst (λ (t : Option (Streaming _)). IfSome t (λ it. IsMoving H.steps H.fails H.is_closed H.is_finished makes.makes_inbound makes.makes_outbound (makes.is_eager board.protocols)
    (makes.listed board.protocols) board.peer board.role log n view (map (Told.Payload n) c.args.bytes.now ++ rest) it)) found r.own in
    let around = data_came H.steps H.fails H.is_closed H.is_finished makes.makes_inbound makes.makes_outbound (makes.is_eager board.protocols) (makes.listed board.protocols) board.peer board.role log
    fed sent c.args.session.now old board.past.items n view c.args.bytes.now rest r.around in
    let going = before_the_end view.ended n c.args.bytes.now rest some_data r.around.ends_last in
    let known = subst (λ (d : Direction). IsKnown (makes.listed board.protocols) d moving.held.so_far.side) (sym c.direction_of-direction.ensures)
    (is_known board.role (makes.listed board.protocols) log n moving.held.so_far.side moving.held.side_is) in
    let delivers = subst (λ (d : Direction). Delivers H.steps H.fails H.is_closed H.is_finished board.role (items log) fed sent n
    (makes_once makes.makes_inbound makes.makes_outbound makes.leads_inbound makes.leads_outbound d board.peer board.protocols c.deliver.new.protocols)
    (c.deliver.new.protocols ≡ board.protocols) moving.held.so_far c.args.bytes.now c.in-Some.stream.now c.args.session.now
    c.in_ok-delivered.delivered c.deliver.new.session c.deliver.new.stream) c.direction_of-direction.ensures
    (c.in_ok-delivered.ensures.delivers board.role (items log) fed sent moving.held.so_far around.session_stands moving.held.stands (moving.held.ended_is ∙ going) moving.held.served known
    moving.held.sent_is) in
    let now = delivered_to H.steps H.fails H.is_closed H.is_finished makes.makes_inbound makes.makes_outbound (makes.is_eager board.protocols) (makes.listed board.protocols) board.peer board.role
    c.acts_tell.ensures.seen c.acts_tell.ensures.windows fed sent c.args.session.now c.deliver.new.session old _ board.past.items n (with_bytes c.args.bytes.now view) rest c.deliver.new.stream
    moving.over_by_end (no_data_behind n (with_bytes c.args.bytes.now view) rest around.opens_none no_data)
    (quiet_rest n rest around.opens_none no_data (no_credit_behind view.ended n c.args.bytes.now rest some_data r.around.ends_last)) (elsewhere old _ n (Some c.deliver.new.stream) updates.0) (here old _ n (Some c.deliver.new.stream) updates.0)
    makes.leads_inbound makes.leads_outbound board.protocols c.deliver.new.protocols log c.args.bytes.now c.in-Some.stream.now view.came around refl going moving.held moving.unfinished some_data (anew_by_data n c.args.bytes.now rest some_data moving.anew) moving.handed c.in_ok-delivered.delivered delivers in
    let held_so = holds_since H.steps H.is_closed H.is_finished (makes.listed board.protocols) board.role log n _ _ c.in-Some.stream.now c.holds_handler-was_held.result c.holds_handler-was_held.ensures moving.held in
    let held_now = held_by H.steps H.fails H.is_closed H.is_finished makes.makes_inbound makes.makes_outbound (makes.is_eager board.protocols) (makes.listed board.protocols) board.peer board.role log n
    now.newer fed sent c.deliver.new.session _ board.past.items now.seen_now rest c.in_ok-delivered.delivered.outcome c.in_ok-delivered.delivered.agreed now.comes now.same_turn now.mades_are c.holds_handler-was_held.result held_so in
    let table = tree.get nat_cmp (c.get_mut.follows.lender c.deliver.new.stream) in
    on_ok c.settle.result
    (λ routed. routed_behind H.steps H.fails H.is_closed H.is_finished makes.makes_inbound makes.makes_outbound (makes.is_eager board.protocols) (makes.listed board.protocols) board.peer board.role log
    now.newer c.args.told.now.items c.tell_agreement.new.told.items c.settle.new.told.items (agreement n c.in_ok-delivered.delivered.agreed) fed sent c.settle.new.session
    (tree.get nat_cmp c.settle.new.self.streams) c.settle.new.self.past.items n rest
    (MakesOnBoard makes.leads_inbound makes.leads_outbound board c.settle.new.self)
    (MakesInOrder makes.leads_inbound makes.leads_outbound board.peer board.role c.deliver.new.protocols c.settle.new.self.protocols c.agree.new.order c.settle.new.self.order)
    (λ longer made. in_order_then makes.leads_inbound makes.leads_outbound board.peer board.role board.protocols c.deliver.new.protocols c.settle.new.self.protocols board.order c.agree.new.order c.settle.new.self.order log (now.newer ++ log) longer (
      now.makes,
      agrees_on board.role log n now.newer c.in-Some.stream.now.stage c.holds_handler-was_held.result c.in_ok-delivered.delivered.agreed board.order c.agree.new.order now.said_is now.mades_are
          (λ off. (delivers.1 off).0) (λ kept. held_so (moving.held.over ∙ kept)) c.in_ok-is_held.ensures.order,
    ) made) now.said_is c.in_ok-tell_agreement.ensures now.untold now.same_turn routed)
    (subst
    (λ (e : ℕ → Bool). Comes H.steps H.fails H.is_closed H.is_finished makes.makes_inbound makes.makes_outbound e (makes.listed board.protocols) board.peer board.role (now.newer ++ log) fed sent
    c.deliver.new.session table board.past.items n now.seen_now rest c.in_ok-delivered.delivered.outcome
    → (is_over board.role (now.newer ++ log) n ≡ false → c.in_ok-is_held.is_held ≡ is_some (made_of board.role (now.newer ++ log) n))
    → OnOk c.settle.result (Routed H.steps H.fails H.is_closed H.is_finished makes.makes_inbound makes.makes_outbound e (makes.listed board.protocols) board.peer board.role
    (MakesInOrder makes.leads_inbound makes.leads_outbound board.peer board.role c.deliver.new.protocols c.settle.new.self.protocols c.agree.new.order c.settle.new.self.order) (now.newer ++ log)
    c.tell_agreement.new.told.items c.settle.new.told.items fed sent c.settle.new.session (tree.get nat_cmp c.settle.new.self.streams) c.settle.new.self.past.items n rest))
    c.in_ok-delivered.ensures.eager
    (subst
    (λ (names : List (List ℕ)). Comes H.steps H.fails H.is_closed H.is_finished makes.makes_inbound makes.makes_outbound (makes.is_eager c.deliver.new.protocols) names board.peer board.role
    (now.newer ++ log) fed sent c.deliver.new.session table board.past.items n now.seen_now rest c.in_ok-delivered.delivered.outcome
    → (is_over board.role (now.newer ++ log) n ≡ false → c.in_ok-is_held.is_held ≡ is_some (made_of board.role (now.newer ++ log) n))
    → OnOk c.settle.result (Routed H.steps H.fails H.is_closed H.is_finished makes.makes_inbound makes.makes_outbound (makes.is_eager c.deliver.new.protocols) names board.peer board.role
    (MakesInOrder makes.leads_inbound makes.leads_outbound board.peer board.role c.deliver.new.protocols c.settle.new.self.protocols c.agree.new.order c.settle.new.self.order) (now.newer ++ log) c.tell_agreement.new.told.items c.settle.new.told.items fed sent c.settle.new.session (tree.get nat_cmp c.settle.new.self.streams) c.settle.new.self.past.items n rest))
    c.in_ok-delivered.ensures.names
    (c.settle.ensures.settles (now.newer ++ log) fed sent now.seen_now rest))
    now.comes (λ going. c.in_ok-is_held.ensures.held ∙ held_now going))
