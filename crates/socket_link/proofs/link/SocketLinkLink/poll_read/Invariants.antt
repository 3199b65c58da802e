use Rattle.std.proofs.Common.{◌≡◌, [], length}
use Rattle.socket_link.specs.Steps.Side.{Reading}
use Rattle.socket_link.proofs.Rounds.{Rounds}
use Rattle.futures.specs.Task.{Keeps}
use Rattle.socket_link.proofs.link.SocketLinkLink.poll_read.Given as goal

abbrev pub invariant-loop-round : goal.invariant-loop-round
invariant-loop-round g l = record {
  moved : g.S.Socket.moves l.fn.self.socket [] [] l.self.socket;
  not_shut : g.S.Socket.is_shut l.self.socket → g.S.Socket.is_shut l.fn.self.socket;
  reads_at : g.S.Socket.reads_at l.self.socket ≡ g.S.Socket.reads_at l.fn.self.socket;
  writes_at : g.S.Socket.writes_at l.self.socket ≡ g.S.Socket.writes_at l.fn.self.socket;
  has_ended : l.self.has_ended ≡ l.fn.self.has_ended;
  is_shut : l.self.is_shut ≡ l.fn.self.is_shut;
  failures : l.self.failures ≡ l.fn.self.failures;
  tried : Rounds g.S.Socket.steps Reading (length l.fn.buffer) l.fn.self.socket l.fn.cx l.self.socket l.cx l._round;
  kept : Keeps l.fn.cx l.cx;
}
