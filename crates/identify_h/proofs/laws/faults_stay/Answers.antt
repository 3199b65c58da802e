use Rattle.identify_h.proofs.SentRead.{faults_stay}
use Rattle.identify_h.proofs.laws.faults_stay.Goals as goal

pub returns : goal.returns
returns c = faults_stay
