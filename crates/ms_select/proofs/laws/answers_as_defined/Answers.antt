use Rattle.ms_select.proofs.Cut.{answers_as_defined}
use Rattle.ms_select.proofs.laws.answers_as_defined.Goals as goal

pub returns : goal.returns
returns c = answers_as_defined
