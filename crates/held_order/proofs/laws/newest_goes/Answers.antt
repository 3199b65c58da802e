use Rattle.held_order.proofs.Arranging.{lets_go}
use Rattle.held_order.proofs.laws.newest_goes.Goals as goal

pub returns : goal.returns
returns g n = lets_go n
