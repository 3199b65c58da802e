use Rattle.handlers.proofs.Handing as calls
use Rattle.handlers.proofs.laws.calls_split.Goals as goal

pub returns : goal.returns
returns g c = calls.split g.H.Handler.steps
