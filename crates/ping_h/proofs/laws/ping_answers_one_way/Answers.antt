use Rattle.ping_h.proofs.Coming.{round_next, round_given}
use Rattle.ping_h.proofs.laws.ping_answers_one_way.Goals as goal

pub returns-clause-next : goal.returns-clause-next
returns-clause-next c = round_next

pub returns-clause-given : goal.returns-clause-given
returns-clause-given c = round_given
