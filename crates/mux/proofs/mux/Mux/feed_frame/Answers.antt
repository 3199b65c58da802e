use Rattle.std.proofs.Common.{◌≡◌, ℕ, true, false, List, ◌++◌, take, drop, sym, ap, ◌∙◌, subst}
use Rattle.std.specs.List.{AllByRecursion}
use Rattle.std.specs.Ordering.{nat_cmp}
use Rattle.std.specs.BTreeMap as tree
use Rattle.yamux_session.specs.declared.event.Event.{Event}
use Rattle.yamux_session.specs.Arrives.{added, tellings}
use Rattle.conn_log.specs.Entries.{Entry, items}
use Rattle.conn_log.specs.Routes.{IsFor, IsNoData, Awaits}
use Rattle.conn_log.specs.Rests.{AreAtRest, Grows}
use Rattle.conn_log.proofs.Facing.{SessionLaws}
use Rattle.conn_log.proofs.Arriving.{arrived}
use Rattle.board.specs.Boards.{MakesOnBoard}
use Rattle.board.proofs.Holding.{in_order, in_order_then, by_arrivals}
use Rattle.mux.proofs.Framing.{framed, faulted, grows_behind, no_data_told}
use Rattle.mux.proofs.mux.Mux.feed_frame.Goals as goal

pub returns-then-has_failed-clause-faults : goal.returns-then-has_failed-clause-faults
returns-then-has_failed-clause-faults g c = λ log fed sent rests failed.
    let H = g.P.H.Handler in
    let makes = g.P.Protocols in
    let board = c.args.self.now.board in
    let bytes = take c.in-Ok.used (drop c.args.at c.args.piece.now) in
    let led = c.in-Ok.ensures.fed board.role (items log) fed sent rests.session_stands in
    faulted H.steps H.fails H.is_closed H.is_finished makes.makes_inbound makes.makes_outbound (makes.is_eager board.protocols) (makes.listed board.protocols) board.peer board.role
    log fed bytes sent c.args.self.now.session c.feed_frame.new.self (tree.get nat_cmp board.streams) board.past.items rests led.0
    (added c.clear.new.self.items c.feed_frame.new.told.items) led.1
    (MakesOnBoard makes.leads_inbound makes.leads_outbound board board) (in_order makes.leads_inbound makes.leads_outbound board.peer board.role board.protocols board.order log) c.args.told.now.items failed (c.in-Ok.ensures.fault_alone rests.session_stands.going failed)

-- what the frame told was routed
went : (g : Rattle.mux.proofs.mux.Mux.feed_frame.Given.Over) (c : goal.In_ok-route g) (log : List (Entry g.row.P-H.Denot)) (fed sent : List ℕ)
    → AreAtRest {P = g.row.P.Denot} {H = g.row.P-H.Denot} g.P.H.Handler.steps g.P.H.Handler.fails g.P.H.Handler.is_closed g.P.H.Handler.is_finished g.P.Protocols.makes_inbound
    g.P.Protocols.makes_outbound (g.P.Protocols.is_eager c.args.self.now.board.protocols) (g.P.Protocols.listed c.args.self.now.board.protocols) c.args.self.now.board.peer
    c.args.self.now.board.role log fed sent c.args.self.now.session (tree.get nat_cmp c.args.self.now.board.streams) c.args.self.now.board.past.items
    → Grows {P = g.row.P.Denot} {H = g.row.P-H.Denot} g.P.H.Handler.steps g.P.H.Handler.fails g.P.H.Handler.is_closed g.P.H.Handler.is_finished g.P.Protocols.makes_inbound
    g.P.Protocols.makes_outbound (g.P.Protocols.is_eager c.args.self.now.board.protocols) (g.P.Protocols.listed c.args.self.now.board.protocols) c.args.self.now.board.peer
    c.args.self.now.board.role (MakesOnBoard {P = g.row.P.Denot} {H = g.row.P-H.Denot} g.P.Protocols.leads_inbound g.P.Protocols.leads_outbound c.args.self.now.board c.route.new.self)
    log c.args.told.now.items c.route.new.told.items (fed ++ take c.in-Ok.used (drop c.args.at c.args.piece.now)) sent c.route.new.session
    (tree.get nat_cmp c.route.new.self.streams) c.route.new.self.past.items
went g c log fed sent rests =
    let H = g.P.H.Handler in
    let makes = g.P.Protocols in
    let board = c.args.self.now.board in
    let bytes = take c.in-Ok.used (drop c.args.at c.args.piece.now) in
    let old = c.clear.new.self.items in
    let told = added old c.feed_frame.new.told.items in
    let told_is : told ≡ c.deref.result.now =
    sym (c.in-Ok.ensures.kept ∙ ap (λ (t : List Event). t ++ told) c.clear.ensures.items) ∙ sym c.deref.ensures.value in
    let laws : SessionLaws = record {
      events_tell = c.events_tell.ensures;
      credit_is_told = c.credit_is_told.ensures;
      openings_are_told = c.openings_are_told.ensures.told;
      opened_by_the_other = c.openings_are_told.ensures.theirs;
      opened_anew = c.openings_are_told.ensures.anew;
      ends_are_last = c.ends_are_last.ensures.once;
    } in
    let led = c.in-Ok.ensures.fed board.role (items log) fed sent rests.session_stands in
    let still : c.feed_frame.new.self.failed ≡ false = sym c.has_failed.ensures ∙ c.if-has_failed.false in
    let it = framed H.steps H.fails H.is_closed H.is_finished makes.makes_inbound makes.makes_outbound (makes.is_eager board.protocols) (makes.listed board.protocols) board.peer board.role
    log fed bytes sent c.args.self.now.session c.feed_frame.new.self (tree.get nat_cmp board.streams) board.past.items rests led.0 told led.1 laws still led.2
    (c.in-Ok.ensures.one_stream board.role (items log) fed sent rests.session_stands) (c.in-Ok.ensures.filled board.role (items log) fed sent rests.session_stands) in
    let then = arrived it.came ++ log in
    grows_behind H.steps H.fails H.is_closed H.is_finished makes.makes_inbound makes.makes_outbound (makes.is_eager board.protocols) (makes.listed board.protocols) board.peer board.role
    log it.came c.args.told.now.items c.route.new.told.items (fed ++ bytes) sent c.route.new.session (tree.get nat_cmp c.route.new.self.streams) c.route.new.self.past.items
    (MakesOnBoard makes.leads_inbound makes.leads_outbound board c.route.new.self)
    (MakesOnBoard makes.leads_inbound makes.leads_outbound board c.route.new.self)
    (λ longer made. in_order_then makes.leads_inbound makes.leads_outbound board.peer board.role board.protocols board.protocols c.route.new.self.protocols board.order board.order c.route.new.self.order log (arrived it.came ++ log) longer
    (by_arrivals makes.leads_inbound makes.leads_outbound board.peer board.role board.protocols board.order log it.came) made)
    it.rested
    (c.in_ok-route.ensures.routes then (fed ++ bytes) sent it.stream
    (subst (λ (t : List Event). AllByRecursion (IsFor it.stream) t) told_is it.all_for)
    (subst (λ (t : List Event). Awaits H.steps H.fails H.is_closed H.is_finished makes.makes_inbound makes.makes_outbound (makes.is_eager board.protocols) (makes.listed board.protocols)
    board.peer board.role then (fed ++ bytes) sent c.feed_frame.new.self (tree.get nat_cmp board.streams) board.past.items it.stream (tellings t)) told_is it.awaits)
    (subst (λ (t : List Event). AllByRecursion IsNoData (tellings (drop 1 t))) told_is (no_data_told (drop 1 told) c.in-Ok.ensures.data_first)))

pub returns-clause-goes : goal.returns-clause-goes
unfolding went
returns-clause-goes g c = λ log fed sent rests going. went g c log fed sent rests

-- behind which the session goes on
pub returns-clause-faults : goal.returns-clause-faults
unfolding went
returns-clause-faults g c = λ log fed sent rests failed.
    absurd (let goes : c.route.new.session.failed ≡ false = (went g c log fed sent rests).at_rest.session_stands.going in
    let both : true ≡ false = sym failed ∙ goes in cc both)
