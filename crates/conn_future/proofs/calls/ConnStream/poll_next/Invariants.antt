use Rattle.std.proofs.Common.{◌≡◌, ◌≢◌, ℕ, true, List, [], length}
use Rattle.futures.specs.Task.{Keeps}
use Rattle.peer_ids.specs.Key.{Key}
use Rattle.upgrade.specs.declared.role.ConnRole.{ConnRole}
use Rattle.conn_log.specs.declared.event.ConnEvent.{ConnEvent}
use Rattle.conn_log.specs.Entries.{Entry}
use Rattle.conn_core.specs.Connects.{IsGrown}
use Rattle.conn_future.specs.declared.stage.Stage.TheVariants.{Going, Shutting}
use Rattle.conn_future.specs.Stages.{is_live, Drains}
use Rattle.conn_future.specs.Follows.{Follows}
use Rattle.conn_future.specs.Turning.{HasWaited, Makes}
use Rattle.conn_future.proofs.calls.ConnStream.poll_next.Given as goal

abbrev pub invariant-loop-call : goal.invariant-loop-call
invariant-loop-call g l = record {
  live : is_live l.self.stage ≡ true;
  stage : l.self.stage ≡ l.fn.self.stage;
  none_held : l.self.held.items ≡ [];
  failures : g.L.Link.failed l.self.link ≡ g.L.Link.failed l.fn.self.link;
  follows : (start : _) (role : ConnRole) (own : Key) (first : _) (log : List (Entry _)) (gave : List (ConnEvent _))
      → Follows g.L.Link g.P.Protocols g.P.H.Handler start role own first log gave l.fn.self
      → (now : List (Entry _)) × IsGrown [] log now × Follows g.L.Link g.P.Protocols g.P.H.Handler start role own first now gave l.self;
  unshut : l.fn.self.stage ≢ Shutting → g.L.Link.is_shut l.self.link → g.L.Link.is_shut l.fn.self.link;
  shutting : l.fn.self.stage ≡ Shutting → Drains g.L.Link l.fn.self.link l.fn.self.unsent.items l.self.link l.self.unsent.items;
  moved : l.fn.self.stage ≡ Going → (given : List ℕ) × (took : List ℕ) × g.L.Link.moves l.fn.self.link given took l.self.link;
  made : Makes g.L.Link.calls l.waits (length l.fn.self.unsent.items) (length l.self.unsent.items) l.fn.self.link l.fn.cx l.self.link l.cx l._call;
  waits : HasWaited l.waits l.cx (g.L.Link.reads_at l.self.link) (g.L.Link.writes_at l.self.link);
  kept : Keeps l.fn.cx l.cx;
}
