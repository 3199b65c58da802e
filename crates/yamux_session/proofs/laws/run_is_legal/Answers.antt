use Rattle.yamux_session.proofs.RunLegal.{run_is_legal}
use Rattle.yamux_session.proofs.laws.run_is_legal.Goals as goal

pub returns : goal.returns
returns c = run_is_legal
