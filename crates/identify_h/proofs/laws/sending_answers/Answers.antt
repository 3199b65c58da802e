use Rattle.identify_h.proofs.Stopping.{sender_takes, sender_gives, sender_ends}
use Rattle.identify_h.proofs.laws.sending_answers.Goals as goal

pub returns-clause-take : goal.returns-clause-take
returns-clause-take c = sender_takes

pub returns-clause-give : goal.returns-clause-give
returns-clause-give c = sender_gives

pub returns-clause-end : goal.returns-clause-end
returns-clause-end c = sender_ends
