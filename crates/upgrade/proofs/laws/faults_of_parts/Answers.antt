use Rattle.upgrade.proofs.Staying.{faults_of_parts}
use Rattle.upgrade.proofs.laws.faults_of_parts.Goals as goal

pub returns : goal.returns
returns c = faults_of_parts
