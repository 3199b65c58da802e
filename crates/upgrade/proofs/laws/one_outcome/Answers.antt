use Rattle.upgrade.proofs.Outcomes.{one_outcome}
use Rattle.upgrade.proofs.laws.one_outcome.Goals as goal

pub returns : goal.returns
returns c = one_outcome
