use Rattle.ping_h.proofs.Coming.{round_part, round_whole, round_wrong, round_cut}
use Rattle.ping_h.proofs.laws.ping_is_compared.Goals as goal

pub returns-clause-part : goal.returns-clause-part
returns-clause-part c = round_part

pub returns-clause-whole : goal.returns-clause-whole
returns-clause-whole c = round_whole

pub returns-clause-wrong : goal.returns-clause-wrong
returns-clause-wrong c = round_wrong

pub returns-clause-cut : goal.returns-clause-cut
returns-clause-cut c = round_cut
