use Rattle.handlers.proofs.Handing as calls
use Rattle.handlers.proofs.laws.handed_on.Goals as goal

pub returns-clause-made : goal.returns-clause-made
returns-clause-made g c = calls.just_made g.H.Handler.steps

pub returns-clause-take : goal.returns-clause-take
returns-clause-take g c = calls.taken_on g.H.Handler.steps

pub returns-clause-give : goal.returns-clause-give
returns-clause-give g c = calls.given_on g.H.Handler.steps

pub returns-clause-end : goal.returns-clause-end
returns-clause-end g c = calls.ended_on g.H.Handler.steps
