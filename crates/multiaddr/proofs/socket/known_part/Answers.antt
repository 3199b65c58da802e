use Rattle.multiaddr.proofs.Sockets.{none_stands}
use Rattle.multiaddr.proofs.OneAddress.{stuck_fault}
use Rattle.multiaddr.proofs.socket.known_part.Goals as goal

pub returns-in-Ok-clause-none : goal.returns-in-Ok-clause-none
returns-in-Ok-clause-none c = none_stands c.args.bytes.now c.in-Ok.read c.in-Ok.ensures.opaque

pub returns-in-Err-clause-none : goal.returns-in-Err-clause-none
returns-in-Err-clause-none c = stuck_fault c.args.bytes.now c.in-Err.field-0 c.in-Err.ensures.fault
