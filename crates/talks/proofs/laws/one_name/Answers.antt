use Rattle.talks.proofs.Ends.{one_name}
use Rattle.talks.proofs.laws.one_name.Goals as goal

pub returns : goal.returns
returns c = one_name
