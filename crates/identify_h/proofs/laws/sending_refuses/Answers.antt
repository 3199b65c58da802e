use Rattle.identify_h.proofs.Refusing.{sender_take, sender_end, sender_give}
use Rattle.identify_h.proofs.laws.sending_refuses.Goals as goal

pub returns-clause-take : goal.returns-clause-take
returns-clause-take c = sender_take

pub returns-clause-end : goal.returns-clause-end
returns-clause-end c = sender_end

pub returns-clause-give : goal.returns-clause-give
returns-clause-give c = sender_give
