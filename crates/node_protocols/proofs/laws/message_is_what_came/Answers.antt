use Rattle.node_protocols.proofs.Staying.{says}
use Rattle.node_protocols.proofs.laws.message_is_what_came.Goals as goal

pub returns : goal.returns
returns c = says
