use Rattle.upgrade.proofs.Ends.{both_up}
use Rattle.upgrade.proofs.laws.both_up.Goals as goal

pub returns : goal.returns
returns c = both_up
