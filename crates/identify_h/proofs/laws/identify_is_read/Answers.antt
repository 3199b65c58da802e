use Rattle.identify_h.proofs.Read.{finishes, reads, gives_nothing}
use Rattle.identify_h.proofs.laws.identify_is_read.Goals as goal

pub returns-clause-finished : goal.returns-clause-finished
returns-clause-finished c = finishes

pub returns-clause-read : goal.returns-clause-read
returns-clause-read c = reads

pub returns-clause-nothing : goal.returns-clause-nothing
returns-clause-nothing c = gives_nothing
