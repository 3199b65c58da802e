use Rattle.identify_h.proofs.OneWay.{sender_next, sender_given}
use Rattle.identify_h.proofs.laws.sending_answers_one_way.Goals as goal

pub returns-clause-next : goal.returns-clause-next
returns-clause-next c = sender_next

pub returns-clause-given : goal.returns-clause-given
returns-clause-given c = sender_given
