use Rattle.ping_h.proofs.Rounding.{closes, finishes}
use Rattle.ping_h.proofs.laws.ping_finishes.Goals as goal

pub returns-clause-closed : goal.returns-clause-closed
returns-clause-closed c = closes

pub returns-clause-finished : goal.returns-clause-finished
returns-clause-finished c = finishes
