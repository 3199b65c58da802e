use Rattle.yamux_session.proofs.OneOutcome.{one_outcome}
use Rattle.yamux_session.proofs.laws.one_outcome.Goals as goal

pub returns : goal.returns
returns c = one_outcome
