use Rattle.upgrade.proofs.Staying.{fault_stays}
use Rattle.upgrade.proofs.laws.fault_stays.Goals as goal

pub returns : goal.returns
returns c = fault_stays
