use Rattle.talks.proofs.Outcomes.{one_outcome}
use Rattle.talks.proofs.laws.one_outcome.Goals as goal

pub returns : goal.returns
returns c = one_outcome
