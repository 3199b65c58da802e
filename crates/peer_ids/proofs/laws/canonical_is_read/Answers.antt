use Rattle.peer_ids.proofs.Written.{canonical_spells}
use Rattle.peer_ids.proofs.laws.canonical_is_read.Goals as goal

pub returns : goal.returns
returns c = canonical_spells
