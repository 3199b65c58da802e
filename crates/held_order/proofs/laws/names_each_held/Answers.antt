use Rattle.held_order.proofs.HeldLaws.{names_each}
use Rattle.held_order.proofs.laws.names_each_held.Goals as goal

pub returns : goal.returns
returns g c = names_each
