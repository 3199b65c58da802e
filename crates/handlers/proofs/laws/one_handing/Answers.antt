use Rattle.handlers.proofs.Handing as calls
use Rattle.handlers.proofs.laws.one_handing.Goals as goal

pub returns : goal.returns
returns g c = calls.one_handing g.H.Handler.steps
