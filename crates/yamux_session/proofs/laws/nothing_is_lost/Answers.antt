use Rattle.yamux_session.proofs.joined.Joining.{nothing_is_lost}
use Rattle.yamux_session.proofs.joined.Ending.{all_before_the_end}
use Rattle.yamux_session.proofs.laws.nothing_is_lost.Goals as goal

pub returns-clause-live : goal.returns-clause-live
returns-clause-live c = nothing_is_lost

pub returns-clause-ended : goal.returns-clause-ended
returns-clause-ended c = all_before_the_end
