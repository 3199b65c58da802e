use Rattle.yamux_session.proofs.Hearing.{acts_do}
use Rattle.yamux_session.proofs.Crediting.{acts_move}
use Rattle.yamux_session.proofs.laws.acts_tell.Goals as goal

pub returns-clause-seen : goal.returns-clause-seen
returns-clause-seen c = acts_do

pub returns-clause-windows : goal.returns-clause-windows
returns-clause-windows c = acts_move
