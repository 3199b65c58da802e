use Rattle.std.proofs.Common.{◌≡◌, None, ◌++◌, sym, subst}
use Rattle.handlers.specs.Calls.{Take}
use Rattle.streams.specs.Streams.{with_call}
use Rattle.streams.specs.State.{Streaming, Stands, answering}
use Rattle.streams.specs.declared.stage.Stage.TheVariants as stages
use Rattle.streams.proofs.Moving.{taken_on, dropped_on}
use Rattle.streams.proofs.stream.Stream.take.Goals as goal

pub returns-clause-stands : goal.returns-clause-stands
returns-clause-stands g c = λ past s unended.
    let is : c.args.self.now ≡ record { waiting = c.self.inside.waiting.items; stage = stages.Serving c.in-Serving.handler } = cc in
    taken_on g.H.Handler.steps c.args.self.now past c.in-Serving.handler c.take-taken.new.self c.self.inside.waiting.items c.args.bytes.now is unended s c.in_default-taken.ensures.step

pub returns-in-Done-clause-stands : goal.returns-in-Done-clause-stands
returns-in-Done-clause-stands g c = λ past s unended.
    let is : c.args.self.now ≡ record { waiting = c.self.inside.waiting.items; stage = stages.Done } = cc in
    subst (λ (y : Streaming _). Stands g.H.Handler.steps y (with_call (record past { got = past.got ++ c.args.bytes.now; left = None }) (answering c.args.self.now.stage (Take c.args.bytes.now)))) (sym c.self.view_is)
    (dropped_on g.H.Handler.steps c.args.self.now past c.self.inside.waiting.items c.args.bytes.now is unended s)
