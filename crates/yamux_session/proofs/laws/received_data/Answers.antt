use Rattle.yamux_session.proofs.Received.{received, some_since}
use Rattle.yamux_session.proofs.laws.received_data.Goals as goal

pub returns-clause-data : goal.returns-clause-data
returns-clause-data c = received

pub returns-clause-since : goal.returns-clause-since
returns-clause-since c = some_since
