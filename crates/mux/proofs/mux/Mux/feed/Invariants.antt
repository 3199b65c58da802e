use Rattle.std.proofs.Common.{◌≡◌, ℕ, ◌-◌, ◌≤◌, true, false, List, ◌++◌, length, take, []}
use Rattle.std.specs.Ordering.{nat_cmp}
use Rattle.std.specs.BTreeMap as tree
use Rattle.conn_log.specs.Entries.{Entry}
use Rattle.conn_log.specs.Rests.{AreAtRest, Grows}
use Rattle.board.specs.Boards.{Keeps, MakesOnBoard}
use Rattle.mux.specs.Faults.{Faults}
use Rattle.mux.proofs.mux.Mux.feed.Given as goal

abbrev pub invariant-loop-at : goal.invariant-loop-at
invariant-loop-at g l =
    let H = g.P.H.Handler in
    let makes = g.P.Protocols in
    let board = l.fn.self.board in
    record {
      within : l.at ≤ length l.fn.piece;
      keeps : Keeps makes.listed makes.is_eager board l.self.board;
      goes : (log : List (Entry _)) (fed sent : List ℕ)
          → AreAtRest H.steps H.fails H.is_closed H.is_finished makes.makes_inbound makes.makes_outbound (makes.is_eager board.protocols) (makes.listed board.protocols) board.peer board.role
          log fed sent l.fn.self.session (tree.get nat_cmp board.streams) board.past.items → l.self.session.failed ≡ false
          → Grows H.steps H.fails H.is_closed H.is_finished makes.makes_inbound makes.makes_outbound (makes.is_eager board.protocols) (makes.listed board.protocols) board.peer board.role
          (MakesOnBoard makes.leads_inbound makes.leads_outbound board l.self.board) log l.fn.told.items l.told.items (fed ++ take l.at l.fn.piece) sent l.self.session (tree.get nat_cmp l.self.board.streams) l.self.board.past.items;
      faults : (log : List (Entry _)) (fed sent : List ℕ)
          → AreAtRest H.steps H.fails H.is_closed H.is_finished makes.makes_inbound makes.makes_outbound (makes.is_eager board.protocols) (makes.listed board.protocols) board.peer board.role
          log fed sent l.fn.self.session (tree.get nat_cmp board.streams) board.past.items → l.self.session.failed ≡ true
          → Faults H.steps H.fails H.is_closed H.is_finished makes.makes_inbound makes.makes_outbound (makes.is_eager board.protocols) (makes.listed board.protocols) board.peer board.role
          (MakesOnBoard makes.leads_inbound makes.leads_outbound board l.self.board) log [] l.fn.told.items l.told.items fed (take l.at l.fn.piece) sent l.self.session.pending (tree.get nat_cmp l.self.board.streams) l.self.board.past.items;
      failed : l.fn.self.session.failed ≡ true → (l.self ≡ l.fn.self) × (l.told ≡ l.fn.told);
    }

abbrev pub decreases-loop-at : goal.decreases-loop-at
decreases-loop-at g l = length l.fn.piece - l.at
