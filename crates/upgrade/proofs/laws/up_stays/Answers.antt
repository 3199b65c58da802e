use Rattle.upgrade.proofs.Staying.{up_stays}
use Rattle.upgrade.proofs.laws.up_stays.Goals as goal

pub returns : goal.returns
returns c = up_stays
