use Rattle.identify_h.proofs.Stopping.{key_is_the_peers}
use Rattle.identify_h.proofs.laws.key_is_the_peers.Goals as goal

pub returns : goal.returns
returns c = key_is_the_peers
