use Rattle.trace_script.specs.Played.{at_first}
use Rattle.trace_script.proofs.whole.trace_new.Goals as goal

pub returns-in-Ok-clause-played : goal.returns-in-Ok-clause-played
returns-in-Ok-clause-played g c = λ script held.
    c.trace.ensures.played c.args.protocols c.args.role c.args.key at_first (c.in-Ok.ensures.none_owed, c.in-Ok.ensures.stands) script held
