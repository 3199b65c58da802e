use Rattle.streams.proofs.Deciding.{answer_stays}
use Rattle.streams.proofs.laws.answer_stays.Goals as goal

pub returns : goal.returns
returns c = answer_stays
