use Rattle.identify_h.proofs.Refusing.{reader_take, reader_end, reader_give}
use Rattle.identify_h.proofs.laws.reading_refuses.Goals as goal

pub returns-clause-take : goal.returns-clause-take
returns-clause-take c = reader_take

pub returns-clause-end : goal.returns-clause-end
returns-clause-end c = reader_end

pub returns-clause-give : goal.returns-clause-give
returns-clause-give c = reader_give
