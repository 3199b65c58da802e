use Rattle.ms_select.proofs.Cut.{fault_stays}
use Rattle.ms_select.proofs.laws.fault_stays.Goals as goal

pub returns : goal.returns
returns c = fault_stays
