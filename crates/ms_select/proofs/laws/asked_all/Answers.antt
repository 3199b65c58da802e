use Rattle.ms_select.proofs.Cut.{asked_all}
use Rattle.ms_select.proofs.laws.asked_all.Goals as goal

pub returns : goal.returns
returns c = asked_all
