use Rattle.peer_ids.proofs.OneText.{one_outcome}
use Rattle.peer_ids.proofs.laws.one_reading.Goals as goal

pub returns : goal.returns
returns c = one_outcome
