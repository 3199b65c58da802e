use Rattle.std.specs.Ordering.{nat_cmp}
use Rattle.std.specs.BTreeMap as tree
use Rattle.conn_log.proofs.Crediting.{quiet_rest}
use Rattle.board.proofs.Telling.{credit_came, may_serve}
use Rattle.board.proofs.board.Board.credit.Goals as goal

pub returns-clause-routes : goal.returns-clause-routes
returns-clause-routes g c = λ log fed sent view rest r no_data.
    let H = g.P.H.Handler in
    let makes = g.P.Protocols in
    let board = c.args.self.now in
    let n = c.args.number in
    let old = tree.get nat_cmp board.streams in
    let around = credit_came H.steps H.fails H.is_closed H.is_finished makes.makes_inbound makes.makes_outbound (makes.is_eager board.protocols) (makes.listed board.protocols) board.peer board.role log
    c.args.told.now.items c.args.told.now.items fed sent c.args.session.now old board.past.items n rest view r in
    let it = may_serve H.steps H.fails H.is_closed H.is_finished makes.makes_inbound makes.makes_outbound (makes.is_eager board.protocols) (makes.listed board.protocols) board.peer board.role log
    c.args.told.now.items c.args.told.now.items fed sent c.args.session.now old board.past.items n rest view (old n) (quiet_rest n rest around.opens_none no_data r.around.ends_last.1) r.own in
    c.serve.ensures.serves log fed sent view rest around no_data it r.own_held r.own_kept r.own_to_reset
