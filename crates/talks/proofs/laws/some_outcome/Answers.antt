use Rattle.talks.proofs.Outcomes.{some_outcome}
use Rattle.talks.proofs.laws.some_outcome.Goals as goal

pub returns : goal.returns
returns c = some_outcome
