use Rattle.std.proofs.Common.{◌≡◌, ◌∙◌, Ok, Err, sym, ap}
use Rattle.std.proofs.lemmas.Result.{err_from_is_err_and}
use Rattle.streams.specs.declared.stage.Stage.TheVariants as stages
use Rattle.streams.proofs.Hearing.{open_before}
use Rattle.streams.proofs.Moving.{talking_as, heard_as, room_as, memory_told, has_heard, then_stands, stopped}
use Rattle.streams.proofs.stream.Stream.hear.Goals as goal

pub returns-in_err-heard-in-Talking-clause-hears : goal.returns-in_err-heard-in-Talking-clause-hears
returns-in_err-heard-in-Talking-clause-hears g c = λ past s talks ne.
    let p = err_from_is_err_and c.from_residual.result c.from_residual.ensures.1 in
    let is : c.args.self.now ≡ record { waiting = c.self.inside.waiting.items; stage = stages.Talking c.in-Talking.talk c.in-Talking.handler } = cc in
    let t = talking_as g.H.Handler.steps c.args.self.now past c.in-Talking.talk c.in-Talking.handler c.self.inside.waiting.items is s in
    let h = c.in_err-heard-in-Talking.ensures.hears past.side past.got t.output t.going in
    let before = open_before past.side c.in-Talking.talk past.got t.output t.going in
    let stop = c.in_err-heard-in-Talking.field-0.0 in
    rw (p.1, p.2) (heard_as g.H.Handler.steps c.args.self.now past c.in-Talking.talk c.in-Talking.handler c.self.inside.waiting.items c.args.bytes.now c.hear_talk.new.waiting.items (Err stop) is
    (has_heard g.H.Handler.steps past c.in-Talking.talk c.hear_talk.new.talk c.in-Talking.handler c.args.bytes.now c.self.inside.waiting.items c.hear_talk.new.waiting.items (Err stop) t before h
    (λ e. ne (p.1 ∙ ap stopped p.2 ∙ e))))

pub returns-in_err-heard-in-Talking-clause-memory : goal.returns-in_err-heard-in-Talking-clause-memory
returns-in_err-heard-in-Talking-clause-memory g c = λ past s e.
    let p = err_from_is_err_and c.from_residual.result c.from_residual.ensures.1 in
    let is : c.args.self.now ≡ record { waiting = c.self.inside.waiting.items; stage = stages.Talking c.in-Talking.talk c.in-Talking.handler } = cc in
    let t = talking_as g.H.Handler.steps c.args.self.now past c.in-Talking.talk c.in-Talking.handler c.self.inside.waiting.items is s in
    let h = c.in_err-heard-in-Talking.ensures.hears past.side past.got t.output t.going in
    let before = open_before past.side c.in-Talking.talk past.got t.output t.going in
    room_as g.H.Handler.steps c.args.self.now past c.in-Talking.talk c.hear_talk.new.talk c.in-Talking.handler c.args.bytes.now c.self.inside.waiting.items c.hear_talk.new.waiting.items is t before
    (memory_told past.side c.hear_talk.new.talk past.got t.output c.self.inside.waiting.items c.args.bytes.now c.hear_talk.new.waiting.items
    (ap stopped (sym p.2) ∙ sym p.1 ∙ e) h)

pub returns-in_ok-heard-in-Talking-clause-stands : goal.returns-in_ok-heard-in-Talking-clause-stands
returns-in_ok-heard-in-Talking-clause-stands g c = λ past s ne.
    let is : c.args.self.now ≡ record { waiting = c.self.inside.waiting.items; stage = stages.Talking c.in-Talking.talk c.in-Talking.handler } = cc in
    let t = talking_as g.H.Handler.steps c.args.self.now past c.in-Talking.talk c.in-Talking.handler c.self.inside.waiting.items is s in
    let h = c.in_ok-heard-in-Talking.ensures.hears past.side past.got t.output t.going in
    let before = open_before past.side c.in-Talking.talk past.got t.output t.going in
    rw (c.replace-in-Talking.ensures.after, c.stage_behind-stage.ensures) (then_stands g.H.Handler.steps past c.in-Talking.talk c.hear_talk.new.talk c.in-Talking.handler c.args.bytes.now c.self.inside.waiting.items c.hear_talk.new.waiting.items
    c.in_ok-heard-in-Talking.heard t before h ne)

pub returns-in_ok-heard-in-Talking-clause-hears : goal.returns-in_ok-heard-in-Talking-clause-hears
returns-in_ok-heard-in-Talking-clause-hears g c = λ past s talks ne.
    let is : c.args.self.now ≡ record { waiting = c.self.inside.waiting.items; stage = stages.Talking c.in-Talking.talk c.in-Talking.handler } = cc in
    let t = talking_as g.H.Handler.steps c.args.self.now past c.in-Talking.talk c.in-Talking.handler c.self.inside.waiting.items is s in
    let h = c.in_ok-heard-in-Talking.ensures.hears past.side past.got t.output t.going in
    let before = open_before past.side c.in-Talking.talk past.got t.output t.going in
    heard_as g.H.Handler.steps c.args.self.now past c.in-Talking.talk c.in-Talking.handler c.self.inside.waiting.items c.args.bytes.now c.hear_talk.new.waiting.items (Ok c.in_ok-heard-in-Talking.heard) is
    (has_heard g.H.Handler.steps past c.in-Talking.talk c.hear_talk.new.talk c.in-Talking.handler c.args.bytes.now c.self.inside.waiting.items c.hear_talk.new.waiting.items (Ok c.in_ok-heard-in-Talking.heard) t before h ne)
