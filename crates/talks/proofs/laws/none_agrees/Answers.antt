use Rattle.talks.proofs.Ends.{none_agrees}
use Rattle.talks.proofs.laws.none_agrees.Goals as goal

pub returns : goal.returns
returns c = none_agrees
