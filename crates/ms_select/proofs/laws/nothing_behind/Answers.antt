use Rattle.ms_select.proofs.Cut.{nothing_behind}
use Rattle.ms_select.proofs.laws.nothing_behind.Goals as goal

pub returns : goal.returns
returns c = nothing_behind
