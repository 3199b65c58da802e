use Rattle.yamux_session.proofs.Endings.{ends_are_last, not_told}
use Rattle.yamux_session.proofs.laws.ends_are_last.Goals as goal

pub returns : goal.returns
returns c = record { once = ends_are_last; nothing_else = not_told }
