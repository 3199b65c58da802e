use Rattle.peer_ids.proofs.Written.{id_is_multihash}
use Rattle.peer_ids.proofs.laws.ids_are_multihashes.Goals as goal

pub returns : goal.returns
returns c = id_is_multihash
