use Rattle.std.specs.Ordering.{nat_cmp}
use Rattle.std.specs.BTreeMap as tree
use Rattle.conn_log.specs.Entries.{items}
use Rattle.conn_log.proofs.Asking.{none_held}
use Rattle.board.proofs.board.Board.ask.Goals as goal

pub returns-in-Err-clause-refused : goal.returns-in-Err-clause-refused
returns-in-Err-clause-refused g c = λ within role past fed sent at. c.refused_as.ensures.reason role past (c.in-Err.ensures.refused role past fed sent at)

pub returns-in-Ok-begin-clause-asks : goal.returns-in-Ok-begin-clause-asks
returns-in-Ok-begin-clause-asks g c = λ log fed sent r.
    c.in-Ok-begin.ensures.begins log fed sent c.args.session.now r (c.in-Ok.ensures.ok c.args.self.now.role (items log) fed sent r.session_stands)

pub returns-in-Ok-begin-clause-unheld : goal.returns-in-Ok-begin-clause-unheld
returns-in-Ok-begin-clause-unheld g c = λ log fed sent r.
    let H = g.P.H.Handler in
    let makes = g.P.Protocols in
    let board = c.args.self.now in
    none_held H.steps H.fails H.is_closed H.is_finished makes.makes_inbound makes.makes_outbound (makes.is_eager board.protocols) (makes.listed board.protocols) board.peer board.role
    log fed sent c.args.session.now (tree.get nat_cmp board.streams) board.past.items c.in-Ok.number r (c.in-Ok.ensures.ok board.role (items log) fed sent r.session_stands).answered.0.1

-- the session has opened the stream
pub returns-in-Err-begin-clause-refused : goal.returns-in-Err-begin-clause-refused
returns-in-Err-begin-clause-refused g c = λ within role past fed sent at. (c.in-Ok.ensures.ok role past fed sent at).answered.0.0

pub returns-in-Ok-begin-clause-opened : goal.returns-in-Ok-begin-clause-opened
returns-in-Ok-begin-clause-opened g c = λ role past fed sent at. (c.in-Ok.ensures.ok role past fed sent at).answered.0.0
