use Rattle.std.proofs.Common.{length}
use Rattle.multiaddr.proofs.Sockets.{PeerSoFar}
use Rattle.multiaddr.proofs.socket.peer_of.Given as goal

abbrev pub invariant-loop-peer : goal.invariant-loop-peer
invariant-loop-peer l = PeerSoFar l.bytes l.rest l.peer

abbrev pub decreases-loop-peer : goal.decreases-loop-peer
decreases-loop-peer l = length l.rest
