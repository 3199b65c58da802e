use Rattle.talks.proofs.Outcomes.{nothing_behind}
use Rattle.talks.proofs.laws.nothing_behind.Goals as goal

pub returns : goal.returns
returns c = nothing_behind
