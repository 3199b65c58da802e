use Rattle.identify_h.proofs.Written.{read_back}
use Rattle.identify_h.proofs.laws.written_is_read.Goals as goal

pub returns : goal.returns
returns c = read_back
