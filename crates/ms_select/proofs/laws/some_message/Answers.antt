use Rattle.ms_select.proofs.Reading.{some_message}
use Rattle.ms_select.proofs.laws.some_message.Goals as goal

pub returns : goal.returns
returns c = some_message
