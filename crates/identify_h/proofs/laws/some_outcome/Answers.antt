use Rattle.identify_h.proofs.Outcomes.{some_outcome}
use Rattle.identify_h.proofs.laws.some_outcome.Goals as goal

pub returns : goal.returns
returns c = some_outcome
