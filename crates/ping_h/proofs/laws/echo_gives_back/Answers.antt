use Rattle.ping_h.proofs.Echoing.{gives_back}
use Rattle.ping_h.proofs.laws.echo_gives_back.Goals as goal

pub returns : goal.returns
returns c = gives_back
