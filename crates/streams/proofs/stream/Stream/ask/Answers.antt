use Rattle.streams.proofs.Moving.{early_at_first}
use Rattle.streams.proofs.stream.Stream.ask.Goals as goal

pub begin-requires-clause-early : goal.begin-requires-clause-early
begin-requires-clause-early g c = early_at_first g.H.Handler.steps _ _ c.args.index c.args.eager c.in_ok-talk.ensures.side
