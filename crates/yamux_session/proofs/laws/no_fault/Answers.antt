use Rattle.yamux_session.proofs.joined.Joining.{no_fault}
use Rattle.yamux_session.proofs.laws.no_fault.Goals as goal

pub returns : goal.returns
returns c = no_fault
