use Rattle.std.proofs.Common.{ℕ, ◌-◌, ◌≤◌, List, length, take}
use Rattle.std.specs.List.{AllByRecursion}
use Rattle.yamux_session.specs.declared.event.Role.{Role}
use Rattle.yamux_session.specs.History.{Item}
use Rattle.yamux_session.specs.Arrives.{tellings, HasData}
use Rattle.yamux_session.specs.State.{Stands, Led}
use Rattle.yamux_session.proofs.session.Session.feed_shared.Given as goal

abbrev pub invariant-loop-at : goal.invariant-loop-at
invariant-loop-at l = record {
  within : l.at ≤ length l.fn.piece;
  led : (role : Role) (past : List Item) (fed sent : List ℕ) → Stands role past fed sent l.fn.self
      → (now : List Item) × Led role past now fed (take l.at l.fn.piece) sent (tellings l.told.items) l.self;
  filled : (role : Role) (past : List Item) (fed sent : List ℕ) → Stands role past fed sent l.fn.self → AllByRecursion HasData l.told.items;
}

abbrev pub decreases-loop-at : goal.decreases-loop-at
decreases-loop-at l = length l.fn.piece - l.at
