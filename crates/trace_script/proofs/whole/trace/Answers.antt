use Rattle.std.proofs.Common.{◌≡◌}
use Rattle.trace_script.proofs.whole.trace.Goals as goal

pub returns-clause-refused : goal.returns-clause-refused
returns-clause-refused g c = λ start role own from at script held number same.
    let read : c.in_ok-script.script.items ≡ script = rw held at c.in_ok-script.ensures.all in
    let it = rw read at (rw c.deref.ensures.value at (c.play.ensures.refused start role own from at number same)) in
    (it.0, it.1, it.2, it.3, it.4, it.5, it.6, it.7, it.9)

pub returns-clause-unwritten : goal.returns-clause-unwritten
returns-clause-unwritten g c = λ start role own from at script held same.
    let read : c.in_ok-script.script.items ≡ script = rw held at c.in_ok-script.ensures.all in
    rw read at (rw c.deref.ensures.value at (c.play.ensures.unwritten start role own from at same))
