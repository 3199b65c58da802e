use Rattle.held_order.proofs.Arranging.{arranges}
use Rattle.held_order.proofs.laws.all_in_order.Goals as goal

pub returns : goal.returns
returns g c = arranges
