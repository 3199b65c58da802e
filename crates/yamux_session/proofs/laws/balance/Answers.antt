use Rattle.yamux_session.proofs.joined.Joining.{balance}
use Rattle.yamux_session.proofs.laws.balance.Goals as goal

pub returns : goal.returns
returns c = balance
