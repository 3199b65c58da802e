use Rattle.std.proofs.Common.{◌≡◌, ◌++◌, ℕ, sym, subst}
use Rattle.std.specs.Ordering.{nat_cmp}
use Rattle.std.specs.BTreeMap as tree
use Rattle.yamux_session.specs.Openings.{is_live}
use Rattle.conn_log.specs.Rests.{AreAtRest}
use Rattle.board.specs.Goings.{IsHeldAlive}
use Rattle.board.proofs.Stepping.{kept_on}
use Rattle.board.specs.Boards.{MakesInOrder}
use Rattle.board.proofs.board.Board.route.Goals as goal

pub returns-in-Some-clause-routes : goal.returns-in-Some-clause-routes
returns-in-Some-clause-routes g c = λ log fed sent n all awaits no_data.
    let H = g.P.H.Handler in
    let makes = g.P.Protocols in
    let board = c.args.self.now in
    let middle = c.route_all.new.self in
    let grows = c.in_ok-route_all.ensures.routes log fed sent n all awaits no_data in
    let rests = kept_on makes.listed makes.is_eager board middle c.route_all.ensures.keeps
    (λ eager names peer role. AreAtRest H.steps H.fails H.is_closed H.is_finished makes.makes_inbound makes.makes_outbound eager names peer role (grows.newer ++ log) fed sent
    c.route_all.new.session (tree.get nat_cmp middle.streams) middle.past.items
    → AreAtRest H.steps H.fails H.is_closed H.is_finished makes.makes_inbound makes.makes_outbound eager names peer role (grows.newer ++ log) fed sent
    c.route_all.new.session (tree.get nat_cmp c.let_go.new.self.streams) c.let_go.new.self.past.items)
    (c.let_go.ensures.rests (grows.newer ++ log) fed sent) in
    record {
      newer = grows.newer;
      told_is = grows.told_is;
      unasked = grows.unasked;
      makes = subst (λ p. MakesInOrder makes.leads_inbound makes.leads_outbound board.peer board.role board.protocols p board.order c.let_go.new.self.order log (grows.newer ++ log)) (sym c.let_go.ensures.made)
          (subst (λ o. MakesInOrder makes.leads_inbound makes.leads_outbound board.peer board.role board.protocols middle.protocols board.order o log (grows.newer ++ log)) (sym c.let_go.ensures.order) grows.makes);
      rested = grows.rested;
      at_rest = rests grows.at_rest;
    }

pub returns-in-Some-clause-gone : goal.returns-in-Some-clause-gone
returns-in-Some-clause-gone g c = λ n last role past fed sent at.
    let same : c.in-Some.number ≡ n = (let is = c.ending.ensures n last in cc (is, c.in-Some.is)) in
    subst (λ (k : ℕ). IsHeldAlive (is_live role past k) (tree.get nat_cmp c.let_go.new.self.streams k)) same (c.let_go.ensures.gone role past fed sent at)

pub returns-in_default-clause-gone : goal.returns-in_default-clause-gone
returns-in_default-clause-gone g c = λ n last role past fed sent at. absurd (let is = c.ending.ensures n last in cc (is, c.in_default.is))
