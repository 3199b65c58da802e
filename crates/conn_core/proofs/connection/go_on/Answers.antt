use Rattle.std.proofs.Common.{◌≡◌, ℕ, true, false, List, [], ◌∷◌, ◌++◌, refl, sym, ap, ◌∙◌, subst}
use Rattle.std.proofs.lemmas.List.{append_assoc, append-nil}
use Rattle.std.specs.Ordering.{nat_cmp}
use Rattle.std.specs.BTreeMap as tree
use Rattle.peer_ids.specs.PeerId.{id_of}
use Rattle.yamux_session.specs.Output.{output}
use Rattle.yamux_session.specs.State.{State}
use Rattle.conn_log.specs.declared.event.ConnEvent.{ConnEvent}
use Rattle.conn_log.specs.declared.event.ConnEvent.TheVariants as event
use Rattle.conn_log.specs.declared.event.ConnFault.TheVariants as fault
use Rattle.conn_log.specs.Entries.{items, said}
use Rattle.held_order.specs.Orders.{newest_held}
use Rattle.conn_core.specs.Connects.{IsUp, IsFaulty, TellsFirst, session_role}
use Rattle.conn_core.specs.Connects.Ends.{Session}
use Rattle.conn_core.specs.Wanting.{WroteOn}
use Rattle.conn_core.specs.Wanting.WroteOn.{Over}
use Rattle.conn_core.proofs.Going.{grown_as_known, up_on, up_breaks}
use Rattle.conn_core.proofs.Waiting.{if_err}
use Rattle.conn_core.proofs.Wanting.{wrote_up}
use Rattle.conn_core.proofs.connection.go_on.Goals as goal

pub returns-then-has_failed-clause-goes : goal.returns-then-has_failed-clause-goes
returns-then-has_failed-clause-goes g c = λ role own start input taken log before upw.
    let H = g.P.H.Handler in
    let makes = g.P.Protocols in
    let piece = c.args.piece.now in
    let failed : c.feed.new.self.session.failed ≡ true = sym (ap (λ (s : State). s.failed) c.in_ok-collect.ensures.rest) ∙ sym c.has_failed.ensures ∙ c.if-has_failed.true in
    let it = up_breaks H.steps H.fails H.is_closed H.is_finished makes.makes_inbound makes.makes_outbound makes.listed makes.is_eager makes.leads_inbound makes.leads_outbound start role own
    input piece taken c.args.output.now.items c.collect.new.output.items log before c.args.told.now.items c.feed.new.told.items c.args.mux.now c.feed.new.self upw c.in-Ok.ensures.faults failed c.in_ok-collect.ensures.moved in (
      it.0,
      it.1,
      (
        refl,
        Session (subst (λ (t : List (ConnEvent _)). IsFaulty H.steps H.fails H.is_closed H.is_finished makes.makes_inbound makes.makes_outbound makes.listed makes.is_eager makes.leads_inbound makes.leads_outbound start role own
            (input ++ piece) it.0 (before ++ t) (taken ++ c.collect.new.output.items)) (sym c.in_ok-tell.ensures.told) it.2),
      ),
    )

pub returns-in_default-clause-wrote : goal.returns-in_default-clause-wrote
returns-in_default-clause-wrote g c = λ role own start input taken log before upw.
    let H = g.P.H.Handler in
    let makes = g.P.Protocols in
    let mux = c.args.mux.now in
    wrote_up H.steps H.fails H.is_closed H.is_finished makes.makes_inbound makes.makes_outbound makes.listed makes.is_eager makes.leads_inbound makes.leads_outbound start role own
    input c.args.piece.now log before c.args.told.now.items (taken ++ c.args.output.now.items) mux.session (tree.get nat_cmp mux.board.streams) mux.board.past.items upw.3.0

pub returns-in_err-collect-clause-wrote : goal.returns-in_err-collect-clause-wrote
returns-in_err-collect-clause-wrote g c = λ role own start input taken log before upw.
    let H = g.P.H.Handler in
    let makes = g.P.Protocols in
    let mux = c.args.mux.now in
    if_err c.from_residual.result
    (subst (λ (t : List ℕ). WroteOn H.steps H.fails H.is_closed H.is_finished makes.makes_inbound makes.makes_outbound makes.listed makes.is_eager makes.leads_inbound makes.leads_outbound start role own
    input c.args.piece.now log before (taken ++ t)) (sym c.in_err-collect.ensures.kept)
    (wrote_up H.steps H.fails H.is_closed H.is_finished makes.makes_inbound makes.makes_outbound makes.listed makes.is_eager makes.leads_inbound makes.leads_outbound start role own
    input c.args.piece.now log before c.args.told.now.items (taken ++ c.args.output.now.items) mux.session (tree.get nat_cmp mux.board.streams) mux.board.past.items upw.3.0))

pub returns-in_err-tell-clause-wrote : goal.returns-in_err-tell-clause-wrote
returns-in_err-tell-clause-wrote g c = λ role own start input taken log before upw.
    let H = g.P.H.Handler in
    let makes = g.P.Protocols in
    let failed : c.feed.new.self.session.failed ≡ true = sym (ap (λ (s : State). s.failed) c.in_ok-collect.ensures.rest) ∙ sym c.has_failed.ensures ∙ c.if-has_failed.true in
    let it = up_breaks H.steps H.fails H.is_closed H.is_finished makes.makes_inbound makes.makes_outbound makes.listed makes.is_eager makes.leads_inbound makes.leads_outbound start role own
    input c.args.piece.now taken c.args.output.now.items c.collect.new.output.items log before c.args.told.now.items c.feed.new.told.items c.args.mux.now c.feed.new.self upw c.in-Ok.ensures.faults failed c.in_ok-collect.ensures.moved in
    if_err c.from_residual-in_err-tell.result (Over it.0 (c.feed.new.told.items ++ event.Fault fault.Mux ∷ []) it.1 (Session it.2))

pub returns-clause-goes : goal.returns-clause-goes
returns-clause-goes g c = λ role own start input taken log before upw.
    let H = g.P.H.Handler in
    let makes = g.P.Protocols in
    let mux = c.args.mux.now in
    let board = mux.board in
    let piece = c.args.piece.now in
    let up = upw.3.0 in
    let sent = output (session_role role) (items log) in
    let streams = tree.get nat_cmp board.streams in
    let after = c.feed.new.self in
    let later = tree.get nat_cmp after.board.streams in
    let still : after.session.failed ≡ false = sym (ap (λ (s : State). s.failed) c.in_ok-collect.ensures.rest) ∙ sym c.has_failed.ensures ∙ c.if-has_failed.false in
    let grown = grown_as_known H.steps H.fails H.is_closed H.is_finished makes.makes_inbound makes.makes_outbound makes.listed makes.is_eager makes.leads_inbound makes.leads_outbound start role own
    input taken c.args.output.now.items piece log before c.args.told.now.items c.feed.new.told.items mux after upw c.in-Ok.ensures.goes still in
    let there = c.in_ok-collect.ensures.stands (session_role role) (items (grown.newer ++ log)) (up.rest ++ piece) sent grown.at_rest.session_stands in
    let it = up_on H.steps H.fails H.is_closed H.is_finished makes.makes_inbound makes.makes_outbound makes.listed makes.is_eager makes.leads_inbound makes.leads_outbound start role own
    input piece log before c.args.told.now.items c.feed.new.told.items (taken ++ c.args.output.now.items) mux.session after.session c.collect.new.session streams later board.past.items after.board.past.items
    up after.board.protocols board.order after.board.order grown upw.3.3 there in
    let written : (taken ++ c.args.output.now.items) ++ after.session.pending ≡ taken ++ c.collect.new.output.items =
    append_assoc taken c.args.output.now.items after.session.pending ∙ ap (λ (t : List ℕ). taken ++ t) (sym c.in_ok-collect.ensures.moved) in
    let told : before ++ c.feed.new.told.items ≡ (before ++ c.feed.new.told.items) ++ [] = sym (append-nil (before ++ c.feed.new.told.items)) in
    let keeps = c.in-Ok.ensures.keeps in
    let all = subst (λ (t : List ℕ). (x : IsUp H.steps H.fails H.is_closed H.is_finished makes.makes_inbound makes.makes_outbound makes.listed makes.is_eager makes.leads_inbound makes.leads_outbound start role own
    (input ++ piece) (grown.newer ++ log) ((before ++ c.feed.new.told.items) ++ []) t c.collect.new.session later after.board.past.items) × (after.board.peer ≡ id_of x.key) × (after.board.protocols ≡ x.now) × (after.board.order ≡ newest_held (session_role role) (grown.newer ++ log))) written
    (subst (λ (t : List (ConnEvent _)). (x : IsUp H.steps H.fails H.is_closed H.is_finished makes.makes_inbound makes.makes_outbound makes.listed makes.is_eager makes.leads_inbound makes.leads_outbound start role own
    (input ++ piece) (grown.newer ++ log) t ((taken ++ c.args.output.now.items) ++ after.session.pending) c.collect.new.session later after.board.past.items) × (after.board.peer ≡ id_of x.key) × (after.board.protocols ≡ x.now) × (after.board.order ≡ newest_held (session_role role) (grown.newer ++ log))) told
    (it.0, keeps.peer_is ∙ upw.3.1 ∙ sym (ap id_of it.1), sym it.2, it.3)) in
    (grown.newer ++ log, record { newer = grown.newer; now_is = refl; opened_are = grown.unasked }, (refl, (keeps.names_are ∙ upw.0, keeps.eager_are ∙ upw.1, keeps.role_is ∙ upw.2, all)))

pub returns-then-has_failed-clause-owed_first : goal.returns-then-has_failed-clause-owed_first
returns-then-has_failed-clause-owed_first g c = λ role own start input taken log before upw.
    let H = g.P.H.Handler in
    let makes = g.P.Protocols in
    let failed : c.feed.new.self.session.failed ≡ true = sym (ap (λ (s : State). s.failed) c.in_ok-collect.ensures.rest) ∙ sym c.has_failed.ensures ∙ c.if-has_failed.true in
    let it = up_breaks H.steps H.fails H.is_closed H.is_finished makes.makes_inbound makes.makes_outbound makes.listed makes.is_eager makes.leads_inbound makes.leads_outbound start role own
    input c.args.piece.now taken c.args.output.now.items c.collect.new.output.items log before c.args.told.now.items c.feed.new.told.items c.args.mux.now c.feed.new.self upw c.in-Ok.ensures.faults failed c.in_ok-collect.ensures.moved in
    subst (λ (t : List (ConnEvent _)). TellsFirst c.args.told.now.items t) (sym c.in_ok-tell.ensures.told) it.3

pub returns-clause-owed_first : goal.returns-clause-owed_first
returns-clause-owed_first g c = λ role own start input taken log before upw.
    let H = g.P.H.Handler in
    let makes = g.P.Protocols in
    let still : c.feed.new.self.session.failed ≡ false = sym (ap (λ (s : State). s.failed) c.in_ok-collect.ensures.rest) ∙ sym c.has_failed.ensures ∙ c.if-has_failed.false in
    let grown = grown_as_known H.steps H.fails H.is_closed H.is_finished makes.makes_inbound makes.makes_outbound makes.listed makes.is_eager makes.leads_inbound makes.leads_outbound start role own
    input taken c.args.output.now.items c.args.piece.now log before c.args.told.now.items c.feed.new.told.items c.args.mux.now c.feed.new.self upw c.in-Ok.ensures.goes still in
    (said grown.newer, grown.told_is)
