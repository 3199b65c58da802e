use Rattle.yamux_session.proofs.joined.Going.{both_go_on}
use Rattle.yamux_session.proofs.joined.Example.{some_joined}
use Rattle.yamux_session.proofs.laws.they_go_on.Goals as goal

pub returns-clause-both_go_on : goal.returns-clause-both_go_on
returns-clause-both_go_on c = both_go_on

pub returns-clause-some_joined : goal.returns-clause-some_joined
returns-clause-some_joined c = some_joined
