use Rattle.ms_select.proofs.Reading.{one_message}
use Rattle.ms_select.proofs.laws.one_message.Goals as goal

pub returns : goal.returns
returns c = one_message
