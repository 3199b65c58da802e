use Rattle.std.proofs.Common.{sym, arith}
use Rattle.std.proofs.lemmas.Bool.{eqb-true, eqb-false}
use Rattle.multiaddr.proofs.Sockets.{peer_more, peer_stuck, peer_whole}
use Rattle.multiaddr.proofs.socket.peer_of.Goals as goal

pub returns-in_default : goal.returns-in_default
returns-in_default c =
    let some = eqb-false _ _ (sym c.loop-peer-test.ensures) in
    peer_stuck c.args.bytes.now c.loop-peer.rest.now c.loop-peer.peer (omega (arith, some)) c.in_default.ensures.none c.loop-peer.invariant

pub loop-peer-preserved : goal.loop-peer-preserved
loop-peer-preserved c =
    let found = c.in-Some.ensures.found in
    peer_more c.args.bytes.now c.loop-peer.rest.now c.in-Some.tail.now c.in-Some.value.now c.in-Some.protocol c.loop-peer.peer c.named-peer.result c.loop-peer.invariant found.0 found.1 c.named-peer.ensures

pub returns : goal.returns
returns c = peer_whole c.args.bytes.now c.loop-peer.rest.now c.loop-peer.peer (eqb-true _ _ (sym c.loop-peer-test.ensures)) c.loop-peer.invariant
