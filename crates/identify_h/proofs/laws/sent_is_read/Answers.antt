use Rattle.identify_h.proofs.SentRead.{sent_back}
use Rattle.identify_h.proofs.laws.sent_is_read.Goals as goal

pub returns : goal.returns
returns c = sent_back
