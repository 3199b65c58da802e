use Rattle.yamux_session.proofs.joined.Flowing.{nothing_stands_still}
use Rattle.yamux_session.proofs.laws.nothing_stands_still.Goals as goal

pub returns : goal.returns
returns c = nothing_stands_still
