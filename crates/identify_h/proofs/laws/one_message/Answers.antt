use Rattle.identify_h.proofs.Messages.{one_spelt}
use Rattle.identify_h.proofs.laws.one_message.Goals as goal

pub returns : goal.returns
returns c = one_spelt
