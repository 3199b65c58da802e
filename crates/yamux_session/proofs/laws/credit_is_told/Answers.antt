use Rattle.yamux_session.proofs.Crediting.{credit_is_told}
use Rattle.yamux_session.proofs.laws.credit_is_told.Goals as goal

pub returns : goal.returns
returns c = credit_is_told
