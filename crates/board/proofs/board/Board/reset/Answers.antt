use Rattle.std.proofs.Common.{◌≡◌, Bool, true, false, ◌||◌, ◌∷◌, Option, None, refl, sym, ap, ◌∙◌, subst}
use Rattle.std.specs.Prelude.{IfSome}
use Rattle.std.specs.Ordering.{nat_cmp}
use Rattle.std.specs.BTreeMap as tree
use Rattle.yamux_session.specs.Events.{Told}
use Rattle.streams.specs.declared.stop.Cause.TheVariants as causes
use Rattle.streams.specs.State.{Streaming}
use Rattle.conn_log.specs.declared.event.ConnEvent.TheVariants as event
use Rattle.conn_log.specs.Due.{told_reset}
use Rattle.conn_log.specs.Routes.{IsMoving}
use Rattle.conn_log.proofs.Views.{same, gone}
use Rattle.conn_log.proofs.Resetting.{forgotten, was_broken}
use Rattle.board.proofs.Tables.{elsewhere, here, not_some}
use Rattle.board.proofs.Telling.{on_ok, told_none, told_at}
use Rattle.board.specs.Boards.{MakesInOrder, MakesOnBoard}
use Rattle.board.proofs.Holding.{in_order, holds_since, lets}
use Rattle.board.proofs.board.Board.reset.Goals as goal

over_by : (b : Bool) → (b ≡ false → ⊥) → b ≡ true
over_by true f = refl
over_by false f = absurd (f refl)

pub returns-in_default-clause-routes : goal.returns-in_default-clause-routes
returns-in_default-clause-routes g c = λ log fed sent session view rest r.
    let H = g.P.H.Handler in
    let makes = g.P.Protocols in
    let board = c.args.self.now in
    let n = c.args.number in
    let old = tree.get nat_cmp board.streams in
    told_none H.steps H.fails H.is_closed H.is_finished makes.makes_inbound makes.makes_outbound (makes.is_eager board.protocols) (makes.listed board.protocols) board.peer board.role log
    c.args.told.now.items c.args.told.now.items fed sent session _ board.past.items n rest
    (MakesOnBoard makes.leads_inbound makes.leads_outbound board board) (in_order makes.leads_inbound makes.leads_outbound board.peer board.role board.protocols board.order log) (gone view) refl
    (forgotten H.steps H.fails H.is_closed H.is_finished makes.makes_inbound makes.makes_outbound (makes.is_eager board.protocols) (makes.listed board.protocols) board.peer board.role log
    fed sent session old _ board.past.items n view rest r.around
    (over_by _ (λ going. not_some (old n) (r.own_to_reset (ap (λ b. b || told_reset n rest) (same n)) going) (sym c.in_default.ensures.value)))
    (elsewhere old _ n None c.remove.ensures.updates.0) (here old _ n None c.remove.ensures.updates.0))

pub returns-then-was_handed_out-clause-routes : goal.returns-then-was_handed_out-clause-routes
returns-then-was_handed_out-clause-routes g c = λ log fed sent session view rest r.
    let H = g.P.H.Handler in
    let makes = g.P.Protocols in
    let board = c.args.self.now in
    let n = c.args.number in
    let old = tree.get nat_cmp board.streams in
    let moving = subst (λ (t : Option (Streaming _)). IfSome t (λ it. IsMoving H.steps H.fails H.is_closed H.is_finished makes.makes_inbound makes.makes_outbound (makes.is_eager board.protocols)
    (makes.listed board.protocols) board.peer board.role log n view (Told.Reset n ∷ rest) it)) (sym c.in-Some.ensures.value) r.own in
    told_none H.steps H.fails H.is_closed H.is_finished makes.makes_inbound makes.makes_outbound (makes.is_eager board.protocols) (makes.listed board.protocols) board.peer board.role log
    c.args.told.now.items c.args.told.now.items fed sent session _ board.past.items n rest
    (MakesOnBoard makes.leads_inbound makes.leads_outbound board board) (in_order makes.leads_inbound makes.leads_outbound board.peer board.role board.protocols board.order log) (gone view) refl
    (forgotten H.steps H.fails H.is_closed H.is_finished makes.makes_inbound makes.makes_outbound (makes.is_eager board.protocols) (makes.listed board.protocols) board.peer board.role log
    fed sent session old _ board.past.items n view rest r.around (moving.held.over ∙ sym c.was_handed_out.ensures ∙ c.if-was_handed_out.true)
    (elsewhere old _ n None c.remove.ensures.updates.0) (here old _ n None c.remove.ensures.updates.0))

pub returns-clause-routes : goal.returns-clause-routes
returns-clause-routes g c = λ log fed sent session view rest r.
    let H = g.P.H.Handler in
    let makes = g.P.Protocols in
    let board = c.args.self.now in
    let n = c.args.number in
    let old = tree.get nat_cmp board.streams in
    let moving = subst (λ (t : Option (Streaming _)). IfSome t (λ it. IsMoving H.steps H.fails H.is_closed H.is_finished makes.makes_inbound makes.makes_outbound (makes.is_eager board.protocols)
    (makes.listed board.protocols) board.peer board.role log n view (Told.Reset n ∷ rest) it)) (sym c.in-Some.ensures.value) r.own in
    on_ok c.tell.result
    (λ is. told_at H.steps H.fails H.is_closed H.is_finished makes.makes_inbound makes.makes_outbound (makes.is_eager board.protocols) (makes.listed board.protocols) board.peer board.role log
    c.args.told.now.items c.tell.new.told.items fed sent session _ board.past.items n rest
    (MakesInOrder makes.leads_inbound makes.leads_outbound board.peer board.role board.protocols board.protocols board.order c.let_go.new.order) (gone view) (event.Broken n causes.Reset) (
      (λ first was. was),
      (λ so_far. lets board.role log n c.holds_handler.result board.order c.let_go.new.order c.let_go.ensures
          (holds_since H.steps H.is_closed H.is_finished (makes.listed board.protocols) board.role log n _ _ c.in-Some.stream c.holds_handler.result c.holds_handler.ensures moving.held
          (moving.held.over ∙ sym c.was_handed_out.ensures ∙ c.if-was_handed_out.false)) so_far),
    ) is
    (was_broken H.steps H.fails H.is_closed H.is_finished makes.makes_inbound makes.makes_outbound (makes.is_eager board.protocols) (makes.listed board.protocols) board.peer board.role log
    fed sent session old _ board.past.items n view rest r.around (elsewhere old _ n None c.remove.ensures.updates.0) (here old _ n None c.remove.ensures.updates.0)
    c.in-Some.stream moving (sym c.was_handed_out.ensures ∙ c.if-was_handed_out.false)))
    c.tell.ensures
