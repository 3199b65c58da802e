use Rattle.std.proofs.Common.{inr, refl}
use Rattle.trace_script.proofs.playing.play_line.Goals as goal

pub returns-in-Err-clause-failed : goal.returns-in-Err-clause-failed
returns-in-Err-clause-failed g c = ((c.in-Err.ensures.memory.0, inr c.in-Err.ensures.memory.1), refl)
