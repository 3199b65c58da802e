use Rattle.upgrade.proofs.Staying.{some_outcome}
use Rattle.upgrade.proofs.laws.some_outcome.Goals as goal

pub returns : goal.returns
returns c = some_outcome
