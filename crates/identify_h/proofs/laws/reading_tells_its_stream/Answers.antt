use Rattle.identify_h.proofs.Refusing.{told_take, told_end}
use Rattle.identify_h.proofs.laws.reading_tells_its_stream.Goals as goal

pub returns-clause-take : goal.returns-clause-take
returns-clause-take c = told_take

pub returns-clause-end : goal.returns-clause-end
returns-clause-end c = told_end
