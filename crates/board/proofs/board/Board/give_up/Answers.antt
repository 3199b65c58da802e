use Rattle.std.proofs.Common.{refl, None}
use Rattle.std.specs.Ordering.{nat_cmp}
use Rattle.std.specs.BTreeMap as tree
use Rattle.conn_log.specs.Entries.{items}
use Rattle.conn_log.proofs.Settling.{is_given_up}
use Rattle.board.proofs.Tables.{elsewhere, here}
use Rattle.board.proofs.Telling.{on_ok}
use Rattle.board.specs.Boards.{MakesOnBoard}
use Rattle.board.proofs.Holding.{by_acts}
use Rattle.board.proofs.board.Board.give_up.Goals as goal

pub returns-clause-gives_up : goal.returns-clause-gives_up
returns-clause-gives_up g c = λ log fed sent view rest told a given_up.
    let H = g.P.H.Handler in
    let makes = g.P.Protocols in
    let board = c.args.self.now in
    let old = tree.get nat_cmp board.streams in
    let n = c.args.number in
    on_ok c.reset.result
    (λ resets. is_given_up H.steps H.fails H.is_closed H.is_finished makes.makes_inbound makes.makes_outbound (makes.is_eager board.protocols) (makes.listed board.protocols) board.peer board.role
    c.acts_tell.ensures.seen c.acts_tell.ensures.windows log fed sent c.args.session.now c.reset.new.session old _ board.past.items n view rest a given_up
    (elsewhere old _ n None c.remove.ensures.updates.0) (here old _ n None c.remove.ensures.updates.0)
    (MakesOnBoard makes.leads_inbound makes.leads_outbound board board)
    (by_acts makes.leads_inbound makes.leads_outbound board.peer board.role board.protocols board.order log) told told refl resets)
    (c.reset.ensures board.role (items log) fed sent a.session_stands)
