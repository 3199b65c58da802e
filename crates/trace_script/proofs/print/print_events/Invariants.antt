use Rattle.std.specs.Prelude.{[], ◌∷◌, ◌++◌, take, flat_map}
use Rattle.std.specs.Io.KnownBytes.{Appends}
use Rattle.trace_script.specs.Printed.{event_text}
use Rattle.trace_script.proofs.print.print_events.Given as goal

abbrev pub invariant-loop-event : goal.invariant-loop-event
invariant-loop-event g l = Appends (g.O.Write.contents l.fn.output) (g.O.Write.contents l.output)
    (flat_map (λ event. event_text event ++ 10 ∷ []) (take l.event-index l.events))
