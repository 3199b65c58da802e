use Rattle.std.proofs.Common.{◌≡◌, ℕ, ◌+◌, true, false, List, [], ◌++◌, length, ◌≤◌, take, drop, sym, ap, ◌∙◌, subst, arith, refl}
use Rattle.mux.specs.declared.mux.Mux.{Mux}
use Rattle.std.proofs.lemmas.List.{append_assoc, take_all, take-append-drop}
use Rattle.std.specs.Ordering.{nat_cmp}
use Rattle.std.specs.BTreeMap as tree
use Rattle.yamux_session.proofs.Pieces.{take_on}
use Rattle.conn_log.specs.Rests.{AreAtRest, Grows}
use Rattle.board.specs.Boards.{MakesInOrder, MakesOnBoard}
use Rattle.board.proofs.Holding.{in_order, in_order_then}
use Rattle.board.proofs.Stepping.{keeps_all, keeps_on, kept_on}
use Rattle.mux.specs.Faults.{Faults}
use Rattle.mux.proofs.Framing.{grows_on, grows_none, faults_behind, faults_before}
use Rattle.mux.proofs.mux.Mux.feed.Goals as goal
use Rattle.mux.proofs.mux.Mux.feed.Goals.{then-loop-at-test+else-not-has_failed, else-loop-at-test}

pub loop-at-init : goal.loop-at-init
loop-at-init g c =
    let H = g.P.H.Handler in
    let makes = g.P.Protocols in
    let board = c.args.self.now.board in
    record {
      within = omega arith;
      keeps = keeps_all makes.listed makes.is_eager board;
      goes = λ log fed sent rests still. grows_none H.steps H.fails H.is_closed H.is_finished makes.makes_inbound makes.makes_outbound (makes.is_eager board.protocols) (makes.listed board.protocols) board.peer
          board.role (MakesOnBoard makes.leads_inbound makes.leads_outbound board board) log (in_order makes.leads_inbound makes.leads_outbound board.peer board.role board.protocols board.order log) c.args.told.now.items fed sent c.args.self.now.session (tree.get nat_cmp board.streams) board.past.items rests;
      faults = λ log fed sent rests failed. absurd (let both : true ≡ false = sym failed ∙ rests.session_stands.going in cc both);
      failed = λ was. (refl, refl);
    }

pub loop-at-preserved : goal.loop-at-preserved
loop-at-preserved g c =
    let H = g.P.H.Handler in
    let makes = g.P.Protocols in
    let board = c.args.self.now.board in
    let piece = c.args.piece.now in
    let at = c.loop-at.at in
    let used = c.in_ok-at.field-0 in
    let more = take used (drop at piece) in
    let inv = c.loop-at.invariant in
    let going : c.loop-at.self.session.failed ≡ false = sym c.has_failed.ensures ∙ c.if-not-has_failed.true in
    let bytes : take at piece ++ more ≡ take (at + used) piece = sym (take_on piece at used inv.within) in
    record {
      failed = λ was. absurd (let both : true ≡ false = sym was ∙ ap (λ (m : Mux _ _). m.session.failed) (sym (inv.failed was).0) ∙ going in cc both);
      within = (let fits = c.in_ok-at.ensures.within in omega (arith, inv.within));
      keeps = keeps_on makes.listed makes.is_eager board c.loop-at.self.board c.feed_frame.new.self.board inv.keeps c.in_ok-at.ensures.keeps;
      goes = λ log fed sent rests still.
          let before = inv.goes log fed sent rests going in
          let frame = kept_on makes.listed makes.is_eager board c.loop-at.self.board inv.keeps
          (λ eager names peer role. AreAtRest H.steps H.fails H.is_closed H.is_finished makes.makes_inbound makes.makes_outbound eager names peer role (before.newer ++ log) (fed ++ take at piece) sent
          c.loop-at.self.session (tree.get nat_cmp c.loop-at.self.board.streams) c.loop-at.self.board.past.items → c.feed_frame.new.self.session.failed ≡ false
          → Grows H.steps H.fails H.is_closed H.is_finished makes.makes_inbound makes.makes_outbound eager names peer role
          (MakesInOrder makes.leads_inbound makes.leads_outbound peer role c.loop-at.self.board.protocols c.feed_frame.new.self.board.protocols c.loop-at.self.board.order c.feed_frame.new.self.board.order) (before.newer ++ log) c.loop-at.told.items c.feed_frame.new.told.items
          ((fed ++ take at piece) ++ more) sent c.feed_frame.new.self.session (tree.get nat_cmp c.feed_frame.new.self.board.streams) c.feed_frame.new.self.board.past.items)
          (c.in_ok-at.ensures.goes (before.newer ++ log) (fed ++ take at piece) sent) in
          subst (λ (t : List ℕ). Grows H.steps H.fails H.is_closed H.is_finished makes.makes_inbound makes.makes_outbound (makes.is_eager board.protocols) (makes.listed board.protocols) board.peer
          board.role (MakesOnBoard makes.leads_inbound makes.leads_outbound board c.feed_frame.new.self.board) log c.args.told.now.items c.feed_frame.new.told.items t sent c.feed_frame.new.self.session (tree.get nat_cmp c.feed_frame.new.self.board.streams)
          c.feed_frame.new.self.board.past.items) (append_assoc fed (take at piece) more ∙ ap (λ (t : List ℕ). fed ++ t) bytes)
          (grows_on H.steps H.fails H.is_closed H.is_finished makes.makes_inbound makes.makes_outbound (makes.is_eager board.protocols) (makes.listed board.protocols) board.peer board.role
          log c.args.told.now.items c.loop-at.told.items c.feed_frame.new.told.items ((fed ++ take at piece) ++ more) (fed ++ take at piece) sent c.loop-at.self.session c.feed_frame.new.self.session
          (tree.get nat_cmp c.loop-at.self.board.streams) (tree.get nat_cmp c.feed_frame.new.self.board.streams) c.loop-at.self.board.past.items c.feed_frame.new.self.board.past.items
          (MakesOnBoard makes.leads_inbound makes.leads_outbound board c.feed_frame.new.self.board) (MakesOnBoard makes.leads_inbound makes.leads_outbound board c.loop-at.self.board)
          (MakesInOrder makes.leads_inbound makes.leads_outbound board.peer board.role c.loop-at.self.board.protocols c.feed_frame.new.self.board.protocols c.loop-at.self.board.order c.feed_frame.new.self.board.order) (λ longer last made one. in_order_then makes.leads_inbound makes.leads_outbound board.peer board.role board.protocols c.loop-at.self.board.protocols c.feed_frame.new.self.board.protocols board.order c.loop-at.self.board.order c.feed_frame.new.self.board.order log longer last made one) before (frame before.at_rest still));
      faults = λ log fed sent rests failed.
          let before = inv.goes log fed sent rests going in
          let frame = kept_on makes.listed makes.is_eager board c.loop-at.self.board inv.keeps
          (λ eager names peer role. AreAtRest H.steps H.fails H.is_closed H.is_finished makes.makes_inbound makes.makes_outbound eager names peer role (before.newer ++ log) (fed ++ take at piece) sent
          c.loop-at.self.session (tree.get nat_cmp c.loop-at.self.board.streams) c.loop-at.self.board.past.items → c.feed_frame.new.self.session.failed ≡ true
          → Faults H.steps H.fails H.is_closed H.is_finished makes.makes_inbound makes.makes_outbound eager names peer role
          (MakesInOrder makes.leads_inbound makes.leads_outbound peer role c.loop-at.self.board.protocols c.feed_frame.new.self.board.protocols c.loop-at.self.board.order c.feed_frame.new.self.board.order) (before.newer ++ log) [] c.loop-at.told.items c.feed_frame.new.told.items
          (fed ++ take at piece) more sent c.feed_frame.new.self.session.pending (tree.get nat_cmp c.feed_frame.new.self.board.streams) c.feed_frame.new.self.board.past.items)
          (c.in_ok-at.ensures.faults (before.newer ++ log) (fed ++ take at piece) sent) in
          subst (λ (t : List ℕ). Faults H.steps H.fails H.is_closed H.is_finished makes.makes_inbound makes.makes_outbound (makes.is_eager board.protocols) (makes.listed board.protocols) board.peer
          board.role (MakesOnBoard makes.leads_inbound makes.leads_outbound board c.feed_frame.new.self.board) log [] c.args.told.now.items c.feed_frame.new.told.items fed t sent c.feed_frame.new.self.session.pending (tree.get nat_cmp c.feed_frame.new.self.board.streams) c.feed_frame.new.self.board.past.items) bytes
          (faults_behind H.steps H.fails H.is_closed H.is_finished makes.makes_inbound makes.makes_outbound (makes.is_eager board.protocols) (makes.listed board.protocols) board.peer board.role
          log c.args.told.now.items c.loop-at.told.items c.feed_frame.new.told.items fed (take at piece) more sent c.feed_frame.new.self.session.pending c.loop-at.self.session
          (tree.get nat_cmp c.loop-at.self.board.streams) (tree.get nat_cmp c.feed_frame.new.self.board.streams) c.loop-at.self.board.past.items c.feed_frame.new.self.board.past.items
          (MakesOnBoard makes.leads_inbound makes.leads_outbound board c.feed_frame.new.self.board) (MakesOnBoard makes.leads_inbound makes.leads_outbound board c.loop-at.self.board)
          (MakesInOrder makes.leads_inbound makes.leads_outbound board.peer board.role c.loop-at.self.board.protocols c.feed_frame.new.self.board.protocols c.loop-at.self.board.order c.feed_frame.new.self.board.order) (λ longer last made one. in_order_then makes.leads_inbound makes.leads_outbound board.peer board.role board.protocols c.loop-at.self.board.protocols c.feed_frame.new.self.board.protocols board.order c.loop-at.self.board.order c.feed_frame.new.self.board.order log longer last made one) before (frame before.at_rest failed));
    }

pub returns-clause-faults : goal.returns-clause-faults
returns-clause-faults g c = λ log fed sent rests failed.
    let H = g.P.H.Handler in
    let makes = g.P.Protocols in
    let board = c.args.self.now.board in
    let piece = c.args.piece.now in
    subst (λ (t : List ℕ). Faults H.steps H.fails H.is_closed H.is_finished makes.makes_inbound makes.makes_outbound (makes.is_eager board.protocols) (makes.listed board.protocols) board.peer
    board.role (MakesOnBoard makes.leads_inbound makes.leads_outbound board c.loop-at.self.board) log [] c.args.told.now.items c.loop-at.told.items fed t sent c.loop-at.self.session.pending (tree.get nat_cmp c.loop-at.self.board.streams) c.loop-at.self.board.past.items) (take-append-drop c.loop-at.at piece)
    (faults_before H.steps H.fails H.is_closed H.is_finished makes.makes_inbound makes.makes_outbound (makes.is_eager board.protocols) (makes.listed board.protocols) board.peer board.role
    (MakesOnBoard makes.leads_inbound makes.leads_outbound board c.loop-at.self.board) log c.args.told.now.items c.loop-at.told.items fed (take c.loop-at.at piece) (drop c.loop-at.at piece) sent c.loop-at.self.session.pending (tree.get nat_cmp c.loop-at.self.board.streams) c.loop-at.self.board.past.items
    (c.loop-at.invariant.faults log fed sent rests failed))

-- a loop that ended in no fault has read the whole piece
read_all : (g : Rattle.mux.proofs.mux.Mux.feed.Given.Over) (c : goal.After-drop-events-2 g) → c.loop-at.self.session.failed ≡ false → length c.args.piece.now ≤ c.loop-at.at
read_all g c still = elim c.loop-at-test.branch [
  | then-loop-at-test+else-not-has_failed w ↦ absurd (let both : true ≡ false = sym w.if-not-has_failed.false ∙ w.has_failed.ensures ∙ still in cc both)
  | else-loop-at-test w ↦ (let all = w.loop-at-test in let size = c.len.ensures.value in omega arith)
]

pub returns-clause-goes : goal.returns-clause-goes
returns-clause-goes g c = λ log fed sent rests still.
    let H = g.P.H.Handler in
    let makes = g.P.Protocols in
    let board = c.args.self.now.board in
    subst (λ (t : List ℕ). Grows H.steps H.fails H.is_closed H.is_finished makes.makes_inbound makes.makes_outbound (makes.is_eager board.protocols) (makes.listed board.protocols) board.peer
    board.role (MakesOnBoard makes.leads_inbound makes.leads_outbound board c.loop-at.self.board) log c.args.told.now.items c.loop-at.told.items (fed ++ t) sent c.loop-at.self.session (tree.get nat_cmp c.loop-at.self.board.streams) c.loop-at.self.board.past.items)
    (take_all c.loop-at.at c.args.piece.now (read_all g c still))
    (c.loop-at.invariant.goes log fed sent rests still)

pub returns-clause-failed : goal.returns-clause-failed
returns-clause-failed g c = λ was. let same = c.loop-at.invariant.failed was in (refl, same.0, same.1)
