use Rattle.ping_h.proofs.Stopping.{round_failed, round_ended}
use Rattle.ping_h.proofs.laws.ping_stops.Goals as goal

pub returns-clause-failed : goal.returns-clause-failed
returns-clause-failed c = round_failed

pub returns-clause-ended : goal.returns-clause-ended
returns-clause-ended c = round_ended
