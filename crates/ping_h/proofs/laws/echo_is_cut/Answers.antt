use Rattle.ping_h.proofs.Coming.{echo_whole, echo_cut}
use Rattle.ping_h.proofs.laws.echo_is_cut.Goals as goal

pub returns-clause-whole : goal.returns-clause-whole
returns-clause-whole c = echo_whole

pub returns-clause-cut : goal.returns-clause-cut
returns-clause-cut c = echo_cut
