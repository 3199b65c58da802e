use Rattle.streams.proofs.Deciding.{cut_anywhere}
use Rattle.streams.proofs.laws.cut_anywhere.Goals as goal

pub returns : goal.returns
returns c = cut_anywhere
