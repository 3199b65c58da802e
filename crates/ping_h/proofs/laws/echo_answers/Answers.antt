use Rattle.ping_h.proofs.Stopping.{echo_takes, echo_gives, echo_ends}
use Rattle.ping_h.proofs.laws.echo_answers.Goals as goal

pub returns-clause-take : goal.returns-clause-take
returns-clause-take c = echo_takes

pub returns-clause-give : goal.returns-clause-give
returns-clause-give c = echo_gives

pub returns-clause-end : goal.returns-clause-end
returns-clause-end c = echo_ends
