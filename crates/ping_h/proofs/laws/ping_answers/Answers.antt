use Rattle.ping_h.proofs.Stopping.{round_takes, round_gives, round_ends}
use Rattle.ping_h.proofs.laws.ping_answers.Goals as goal

pub returns-clause-take : goal.returns-clause-take
returns-clause-take c = round_takes

pub returns-clause-give : goal.returns-clause-give
returns-clause-give c = round_gives

pub returns-clause-end : goal.returns-clause-end
returns-clause-end c = round_ends
