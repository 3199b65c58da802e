use Rattle.identify_h.proofs.Outcomes.{one_outcome}
use Rattle.identify_h.proofs.laws.one_outcome.Goals as goal

pub returns : goal.returns
returns c = one_outcome
