use Rattle.std.proofs.Common.{◌≡◌}
use Rattle.streams.specs.declared.stage.Stage.TheVariants as stages
use Rattle.streams.proofs.Moving.{is_handed_out, served_as}
use Rattle.streams.proofs.stream.Stream.finish.Goals as goal

pub returns-in-Serving-clause-stands : goal.returns-in-Serving-clause-stands
returns-in-Serving-clause-stands g c = λ past s.
    let is : c.args.self.now ≡ record { waiting = c.self.inside.waiting.items; stage = stages.Serving c.in-Serving.handler } = cc in
    let after = c.replace.ensures.after in
    rw after (is_handed_out g.H.Handler.steps past c.in-Serving.handler c.self.inside.waiting.items
    (served_as g.H.Handler.steps c.args.self.now past c.in-Serving.handler c.self.inside.waiting.items is s))
