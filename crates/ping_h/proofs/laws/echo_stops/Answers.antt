use Rattle.ping_h.proofs.Stopping.{echo_failed, echo_ended}
use Rattle.ping_h.proofs.laws.echo_stops.Goals as goal

pub returns-clause-failed : goal.returns-clause-failed
returns-clause-failed c = echo_failed

pub returns-clause-ended : goal.returns-clause-ended
returns-clause-ended c = echo_ended
