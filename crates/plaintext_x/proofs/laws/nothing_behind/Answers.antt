use Rattle.plaintext_x.proofs.Cut.{nothing_behind}
use Rattle.plaintext_x.proofs.laws.nothing_behind.Goals as goal

pub returns : goal.returns
returns c = nothing_behind
