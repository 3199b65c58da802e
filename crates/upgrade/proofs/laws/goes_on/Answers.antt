use Rattle.upgrade.proofs.Staying.{goes_on}
use Rattle.upgrade.proofs.laws.goes_on.Goals as goal

pub returns : goal.returns
returns c = goes_on
