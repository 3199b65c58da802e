use Rattle.ping_h.proofs.Rounding.{sends, sends_all}
use Rattle.ping_h.proofs.laws.ping_is_sent.Goals as goal

pub returns-clause-part : goal.returns-clause-part
returns-clause-part c = sends

pub returns-clause-all : goal.returns-clause-all
returns-clause-all c = sends_all
