use Rattle.ping_h.proofs.Refusing.{echo_take, echo_give, echo_end}
use Rattle.ping_h.proofs.laws.echo_refuses.Goals as goal

pub returns-clause-take : goal.returns-clause-take
returns-clause-take c = echo_take

pub returns-clause-give : goal.returns-clause-give
returns-clause-give c = echo_give

pub returns-clause-end : goal.returns-clause-end
returns-clause-end c = echo_end
