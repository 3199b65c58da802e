use Rattle.std.proofs.Common.{List}
use Rattle.std.specs.List.{AllByRecursion}
use Rattle.yamux_session.specs.declared.event.Event.{Event}
use Rattle.yamux_session.specs.Arrives.{HasData}
use Rattle.yamux_session.specs.Naming.{NamesOne}
use Rattle.yamux_session.proofs.Leads.{step_feeds, step_added, nothing_fed}
use Rattle.yamux_session.proofs.session.Session.feed_frame.Goals as goal

pub returns-in-Ok-clause-fed : goal.returns-in-Ok-clause-fed
returns-in-Ok-clause-fed c = step_feeds c.args.self.now c.step.new.self _ c.args.told.now.items c.step.new.told.items c.in-Ok.ensures.led

pub returns-then-at-len-clause-fed : goal.returns-then-at-len-clause-fed
returns-then-at-len-clause-fed c = λ role past fed sent stands. nothing_fed role past fed sent c.args.told.now.items c.args.self.now stands

pub returns-in-Ok-clause-filled : goal.returns-in-Ok-clause-filled
returns-in-Ok-clause-filled c = λ role past fed sent stands.
    step_added (AllByRecursion HasData) role past fed _ sent c.args.told.now.items c.step.new.told.items c.step.new.self (λ step. step.tells.filled)
    (c.in-Ok.ensures.led role past fed sent stands)

pub returns-in-Ok-clause-one_stream : goal.returns-in-Ok-clause-one_stream
returns-in-Ok-clause-one_stream c = λ role past fed sent stands.
    step_added (λ (told : List Event). NamesOne told) role past fed _ sent c.args.told.now.items c.step.new.told.items c.step.new.self (λ step. step.names_one)
    (c.in-Ok.ensures.led role past fed sent stands)
