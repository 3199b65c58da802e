use Rattle.identify_h.proofs.Stopping.{sender_failed, sender_ended}
use Rattle.identify_h.proofs.laws.sending_stops.Goals as goal

pub returns-clause-failed : goal.returns-clause-failed
returns-clause-failed c = sender_failed

pub returns-clause-ended : goal.returns-clause-ended
returns-clause-ended c = sender_ended
