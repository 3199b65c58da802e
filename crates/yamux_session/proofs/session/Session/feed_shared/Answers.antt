use Rattle.std.proofs.Common.{ℕ, ◌++◌, List, [], take, arith, sym, ap, ◌∙◌, subst}
use Rattle.std.proofs.lemmas.List.{take_all}
use Rattle.yamux_session.specs.State.{State, Led}
use Rattle.std.specs.List.{AllByRecursion}
use Rattle.yamux_session.specs.declared.event.Event.{Event}
use Rattle.yamux_session.specs.Arrives.{tellings, HasData}
use Rattle.yamux_session.proofs.Growing.{brings_later}
use Rattle.yamux_session.proofs.Leads.{frame_led, frame_filled, failed_led, out_led, nothing_led}
use Rattle.yamux_session.proofs.session.Session.feed_shared.Goals as goal
use Rattle.yamux_session.proofs.session.Session.feed_shared.Goals.{then-loop-at-test+else-not-self, else-loop-at-test}

pub loop-at-init : goal.loop-at-init
loop-at-init c = record {
  within = omega arith;
  led = λ role past fed sent stands. (
    past,
    subst (λ (xs : List Event). Led role past past fed [] sent (tellings xs) c.args.self.now) (sym c.new-told.ensures.items) (nothing_led role past fed sent c.args.self.now stands),
  );
  filled = λ role past fed sent stands. subst (AllByRecursion HasData) (sym c.new-told.ensures.items) tt;
}

pub loop-at-preserved : goal.loop-at-preserved
loop-at-preserved c =
    let going = ap (λ (s : State). s.failed) (sym c.self-in-loop-at.view_is) ∙ c.if-not-self.true in
    record {
      within = omega (arith, c.in-Ok.ensures.within);
      led = λ role past fed sent stands.
          frame_led role past fed c.args.piece sent c.loop-at.at c.in-Ok.used c.loop-at.told.items c.feed_frame.new.told.items c.loop-at.self c.feed_frame.new.self
          c.loop-at.invariant.within going c.in-Ok.ensures.kept (c.loop-at.invariant.led role past fed sent stands) c.in-Ok.ensures.fed;
      filled = λ role past fed sent stands.
          let led = c.loop-at.invariant.led role past fed sent stands in
          frame_filled c.loop-at.told.items c.feed_frame.new.told.items c.in-Ok.ensures.kept (c.loop-at.invariant.filled role past fed sent stands)
          (c.in-Ok.ensures.filled role led.0 (fed ++ take c.loop-at.at c.args.piece) sent (led.1.goes_on going));
    }

pub returns-clause-fed : goal.returns-clause-fed
returns-clause-fed c = λ role past fed sent stands.
    let led = c.loop-at.invariant.led role past fed sent stands in
    elim c.loop-at-test.branch [
      | then-loop-at-test+else-not-self w ↦ (
        led.0,
        failed_led role past led.0 fed c.args.piece sent c.loop-at.at (tellings c.loop-at.told.items) c.loop-at.self c.loop-at.invariant.within
            (ap (λ (s : State). s.failed) (sym c.self-in-loop-at.view_is) ∙ w.if-not-self.false) led.1,
      )
      | else-loop-at-test w ↦ (
        led.0,
        subst (λ (xs : List ℕ). Led role past led.0 fed xs sent (tellings c.loop-at.told.items) c.loop-at.self)
            (take_all c.loop-at.at c.args.piece (let all = w.loop-at-test.false in let size = c.len.ensures.value in omega arith)) led.1,
      )
    ]

pub returns-in-Err-clause-refused : goal.returns-in-Err-clause-refused
returns-in-Err-clause-refused c = λ was_going.
    let going = ap (λ (s : State). s.failed) (sym c.self-in-loop-at.view_is) ∙ c.if-not-self.true in
    let out = c.in-Err.ensures.refused going in (
      out.0,
      out.1,
      λ role past fed sent stands.
          out_led role past fed c.args.piece sent _ c.loop-at.at c.loop-at.told.items c.loop-at.self c.loop-at.invariant.within going out.2
          (c.loop-at.invariant.led role past fed sent stands),
    )

pub returns-in-Err-clause-memory : goal.returns-in-Err-clause-memory
returns-in-Err-clause-memory c = λ role past fed sent stands.
    let led = c.loop-at.invariant.led role past fed sent stands in
    brings_later role past led.0 fed c.args.piece sent c.loop-at.at (tellings c.loop-at.told.items) c.loop-at.self c.loop-at.invariant.within led.1
    (c.in-Err.ensures.memory role led.0 (fed ++ take c.loop-at.at c.args.piece) sent
    (led.1.goes_on (ap (λ (s : State). s.failed) (sym c.self-in-loop-at.view_is) ∙ c.if-not-self.true)))
