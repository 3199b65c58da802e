use Rattle.identify_h.proofs.OneWay.{reader_take, reader_end, reader_give, reader_alike}
use Rattle.identify_h.proofs.laws.reading_answers_one_way.Goals as goal

pub returns-clause-take : goal.returns-clause-take
returns-clause-take c = reader_take

pub returns-clause-end : goal.returns-clause-end
returns-clause-end c = reader_end

pub returns-clause-give : goal.returns-clause-give
returns-clause-give c = reader_give

pub returns-clause-alike : goal.returns-clause-alike
returns-clause-alike c = reader_alike
