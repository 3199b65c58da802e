use Rattle.identify_h.proofs.Sent.{sends, sends_all, closes}
use Rattle.identify_h.proofs.laws.identify_is_sent.Goals as goal

pub returns-clause-part : goal.returns-clause-part
returns-clause-part c = sends

pub returns-clause-all : goal.returns-clause-all
returns-clause-all c = sends_all

pub returns-clause-closed : goal.returns-clause-closed
returns-clause-closed c = closes

pub returns-clause-finished : goal.returns-clause-finished
returns-clause-finished c = closes
