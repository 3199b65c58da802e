use Rattle.yamux_session.proofs.Hearing.{events_tell}
use Rattle.yamux_session.proofs.laws.events_tell.Goals as goal

pub returns : goal.returns
returns c = events_tell
