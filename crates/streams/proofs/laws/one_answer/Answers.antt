use Rattle.streams.proofs.Deciding.{one_answer}
use Rattle.streams.proofs.laws.one_answer.Goals as goal

pub returns : goal.returns
returns c = one_answer
