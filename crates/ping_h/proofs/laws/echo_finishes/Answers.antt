use Rattle.ping_h.proofs.Echoing.{finishes}
use Rattle.ping_h.proofs.laws.echo_finishes.Goals as goal

pub returns-clause-closed : goal.returns-clause-closed
returns-clause-closed c = finishes

pub returns-clause-finished : goal.returns-clause-finished
returns-clause-finished c = finishes
