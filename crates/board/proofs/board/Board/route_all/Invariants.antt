use Rattle.std.proofs.Common.{ℕ, List, drop}
use Rattle.std.specs.List.{AllByRecursion}
use Rattle.std.specs.Ordering.{nat_cmp}
use Rattle.std.specs.BTreeMap as tree
use Rattle.yamux_session.specs.Arrives.{tellings}
use Rattle.conn_log.specs.Entries.{Entry}
use Rattle.conn_log.specs.Routes.{IsFor, IsNoData, Awaits, IsUnderWay}
use Rattle.board.specs.Boards.{Keeps, MakesOnBoard}
use Rattle.board.proofs.board.Board.route_all.Given as goal

abbrev pub invariant-loop-event : goal.invariant-loop-event
invariant-loop-event g l =
    let H = g.P.H.Handler in
    let makes = g.P.Protocols in
    let board = l.fn.self in
    record {
      keeps : Keeps makes.listed makes.is_eager board l.self;
      under_way : (log : List (Entry _)) (fed sent : List ℕ) (n : ℕ) → AllByRecursion (IsFor n) l.fn.events
          → Awaits H.steps H.fails H.is_closed H.is_finished makes.makes_inbound makes.makes_outbound (makes.is_eager board.protocols) (makes.listed board.protocols) board.peer board.role
          log fed sent l.fn.session (tree.get nat_cmp board.streams) board.past.items n (tellings l.fn.events)
          → AllByRecursion IsNoData (tellings (drop 1 l.fn.events))
          → IsUnderWay H.steps H.fails H.is_closed H.is_finished makes.makes_inbound makes.makes_outbound (makes.is_eager board.protocols) (makes.listed board.protocols) board.peer board.role
          (MakesOnBoard makes.leads_inbound makes.leads_outbound board l.self) log l.fn.told.items l.told.items fed sent l.session (tree.get nat_cmp l.self.streams) l.self.past.items n (tellings (drop l.event-index l.fn.events));
    }
