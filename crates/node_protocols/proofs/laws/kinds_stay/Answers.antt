use Rattle.node_protocols.proofs.Staying as kinds
use Rattle.node_protocols.proofs.laws.kinds_stay.Goals as goal

pub returns-clause-reads : goal.returns-clause-reads
returns-clause-reads c = kinds.reads

pub returns-clause-sends : goal.returns-clause-sends
returns-clause-sends c = kinds.sends

pub returns-clause-pings : goal.returns-clause-pings
returns-clause-pings c = kinds.pings

pub returns-clause-echoes : goal.returns-clause-echoes
returns-clause-echoes c = kinds.echoes
