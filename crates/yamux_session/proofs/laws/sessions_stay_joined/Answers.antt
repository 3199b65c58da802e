use Rattle.yamux_session.proofs.joined.Ties.{act_goes_on, feed_goes_on, want_of_memory_stops}
use Rattle.yamux_session.proofs.laws.sessions_stay_joined.Goals as goal

pub returns-clause-feed : goal.returns-clause-feed
returns-clause-feed c = feed_goes_on

pub returns-clause-act : goal.returns-clause-act
returns-clause-act c = act_goes_on

pub returns-clause-memory : goal.returns-clause-memory
returns-clause-memory c = want_of_memory_stops
