use Rattle.ping_h.proofs.Coming.{echo_next, echo_given}
use Rattle.ping_h.proofs.laws.echo_answers_one_way.Goals as goal

pub returns-clause-next : goal.returns-clause-next
returns-clause-next c = echo_next

pub returns-clause-given : goal.returns-clause-given
returns-clause-given c = echo_given
