use Rattle.yamux_session.proofs.joined.Answered.{joined_are_answered}
use Rattle.yamux_session.proofs.laws.joined_are_answered.Goals as goal

pub returns : goal.returns
returns c = joined_are_answered
