use Rattle.yamux_session.proofs.OneCall.{one_call}
use Rattle.yamux_session.proofs.laws.one_call.Goals as goal

pub returns : goal.returns
returns c = one_call
