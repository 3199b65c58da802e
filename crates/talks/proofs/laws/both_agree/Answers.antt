use Rattle.talks.proofs.Ends.{both_agree}
use Rattle.talks.proofs.laws.both_agree.Goals as goal

pub returns : goal.returns
returns c = both_agree
