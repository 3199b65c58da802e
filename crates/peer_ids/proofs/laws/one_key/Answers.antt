use Rattle.peer_ids.proofs.OneKey.{one_key, one_key_fault, key_or_fault}
use Rattle.peer_ids.proofs.laws.one_key.Goals as goal

pub returns : goal.returns
returns c = record { key = one_key; fault = one_key_fault; either = key_or_fault }
