use Rattle.ping_h.proofs.Echoing.{gives_all}
use Rattle.ping_h.proofs.laws.echo_gives_all.Goals as goal

pub returns : goal.returns
returns c = gives_all
