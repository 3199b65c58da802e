use Rattle.ping_h.proofs.Refusing.{round_take, round_give, round_end}
use Rattle.ping_h.proofs.laws.ping_refuses.Goals as goal

pub returns-clause-take : goal.returns-clause-take
returns-clause-take c = round_take

pub returns-clause-give : goal.returns-clause-give
returns-clause-give c = round_give

pub returns-clause-end : goal.returns-clause-end
returns-clause-end c = round_end
