use Rattle.std.proofs.Common.{◌≡◌, true, None, sym, subst}
use Rattle.handlers.specs.Calls.{End}
use Rattle.streams.specs.Streams.{with_call}
use Rattle.streams.specs.State.{Streaming, Stands, answering}
use Rattle.streams.specs.declared.stage.Stage.TheVariants as stages
use Rattle.streams.proofs.Moving.{ended_on, end_dropped_on}
use Rattle.streams.proofs.stream.Stream.end.Goals as goal

pub returns-clause-stands : goal.returns-clause-stands
returns-clause-stands g c = λ past s unended.
    let is : c.args.self.now ≡ record { waiting = c.self.inside.waiting.items; stage = stages.Serving c.in-Serving.handler } = cc in
    ended_on g.H.Handler.steps c.args.self.now past c.in-Serving.handler c.end-ended.new.self c.self.inside.waiting.items is unended s c.in_default-ended.ensures.step

pub returns-in-Done-clause-stands : goal.returns-in-Done-clause-stands
returns-in-Done-clause-stands g c = λ past s unended.
    let is : c.args.self.now ≡ record { waiting = c.self.inside.waiting.items; stage = stages.Done } = cc in
    subst (λ (y : Streaming _). Stands g.H.Handler.steps y (with_call (record past { ended = true; left = None }) (answering c.args.self.now.stage End))) (sym c.self.view_is)
    (end_dropped_on g.H.Handler.steps c.args.self.now past c.self.inside.waiting.items is unended s)
