use Rattle.streams.proofs.Deciding.{one_split}
use Rattle.streams.proofs.laws.one_split.Goals as goal

pub returns : goal.returns
returns g c = λ past. one_split past
