use Rattle.yamux_session.proofs.OneRefusal.{one_refusal}
use Rattle.yamux_session.proofs.laws.one_refusal.Goals as goal

pub returns : goal.returns
returns c = one_refusal
