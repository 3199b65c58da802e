use Rattle.peer_ids.proofs.SomeKey.{some_key}
use Rattle.peer_ids.proofs.laws.some_key.Goals as goal

pub returns : goal.returns
returns c = some_key
