use Rattle.ms_select.proofs.SomeTalk.{some_listener}
use Rattle.ms_select.proofs.laws.some_listener.Goals as goal

pub returns : goal.returns
returns c = some_listener
