use Rattle.ms_select.proofs.Cut.{decision_stays}
use Rattle.ms_select.proofs.laws.decision_stays.Goals as goal

pub returns : goal.returns
returns c = decision_stays
