use Rattle.held_order.proofs.Once.{due_is_once}
use Rattle.held_order.proofs.laws.each_told_once.Goals as goal

pub returns : goal.returns
returns g c = due_is_once _ _ _ _ _ _
