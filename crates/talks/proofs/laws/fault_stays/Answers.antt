use Rattle.talks.proofs.Outcomes.{fault_stays}
use Rattle.talks.proofs.laws.fault_stays.Goals as goal

pub returns : goal.returns
returns c = fault_stays
