use Rattle.ms_select.proofs.SomeTalk.{some_dialer}
use Rattle.ms_select.proofs.laws.some_dialer.Goals as goal

pub returns : goal.returns
returns c = some_dialer
