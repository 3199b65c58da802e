use Rattle.yamux_frames.proofs.OneAnswer.{are_allowed, one_answer, answer_or_fault, one_fault}
use Rattle.yamux_frames.proofs.laws.one_answer.Goals as goal

pub returns-clause-allowed : goal.returns-clause-allowed
returns-clause-allowed c = are_allowed

pub returns-clause-answer : goal.returns-clause-answer
returns-clause-answer c = one_answer

pub returns-clause-either : goal.returns-clause-either
returns-clause-either c = answer_or_fault

pub returns-clause-fault : goal.returns-clause-fault
returns-clause-fault c = one_fault
