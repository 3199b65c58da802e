use Rattle.std.proofs.Common.{◌≡◌, ◌∙◌, true, Option, None, sym, subst}
use Rattle.std.specs.Ordering.{nat_cmp}
use Rattle.std.specs.BTreeMap as tree
use Rattle.yamux_session.specs.Openings.{is_live}
use Rattle.streams.specs.State.{Streaming, was_handed_out}
use Rattle.conn_log.specs.Entries.{items}
use Rattle.board.specs.Goings.{IsHeldAlive}
use Rattle.board.proofs.Tables.{elsewhere, here, not_both}
use Rattle.board.proofs.LettingGo.{let_go}
use Rattle.board.proofs.board.Board.let_go.Goals as goal
use Rattle.board.proofs.board.Board.let_go.Goals.{else-was_handed_out-via-then-was_handed_out+else-not-is_live, else-was_handed_out-via-else-was_handed_out}

pub returns-then-not-is_live-clause-rests : goal.returns-then-not-is_live-clause-rests
returns-then-not-is_live-clause-rests g c = λ log fed sent r.
    let H = g.P.H.Handler in
    let makes = g.P.Protocols in
    let board = c.args.self.now in
    let n = c.args.number in
    let old = tree.get nat_cmp board.streams in
    let_go H.steps H.fails H.is_closed H.is_finished makes.makes_inbound makes.makes_outbound (makes.is_eager board.protocols) (makes.listed board.protocols) board.peer board.role log
    fed sent c.args.session.now old _ board.past.items n c.in-Some.stream.now r (sym c.in-Some.ensures.value) (sym c.was_handed_out.ensures ∙ c.if-was_handed_out.true)
    (sym (c.is_live.ensures.live board.role (items log) fed sent r.session_stands) ∙ c.if-not-is_live.true)
    (elsewhere old _ n None c.remove.ensures.updates.0) (here old _ n None c.remove.ensures.updates.0)

pub returns-else-was_handed_out-clause-gone : goal.returns-else-was_handed_out-clause-gone
returns-else-was_handed_out-clause-gone g c = λ role past fed sent at.
    let alive : was_handed_out c.in-Some.stream.now.stage ≡ true → is_live role past c.args.number ≡ true = λ out. elim c.else-was_handed_out.branch [
      | else-was_handed_out-via-then-was_handed_out+else-not-is_live w ↦ sym (w.is_live.ensures.live role past fed sent at) ∙ w.if-not-is_live.false
      | else-was_handed_out-via-else-was_handed_out w ↦ absurd (not_both (c.was_handed_out.ensures ∙ out) w.if-was_handed_out.false)
    ] in
    subst (λ (t : Option (Streaming _)). IsHeldAlive (is_live role past c.args.number) t) c.in-Some.ensures.value alive
