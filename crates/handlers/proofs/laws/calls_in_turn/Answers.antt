use Rattle.handlers.proofs.Handing as calls
use Rattle.handlers.proofs.laws.calls_in_turn.Goals as goal

pub returns : goal.returns
returns g c = calls.in_turn g.H.Handler.steps
