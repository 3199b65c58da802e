use Rattle.conn_core.proofs.Listed.{listed_are_held as it}
use Rattle.conn_core.proofs.laws.listed_are_held.Goals as goal

pub returns : goal.returns
returns g c = it
