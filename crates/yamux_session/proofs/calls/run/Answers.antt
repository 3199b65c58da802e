use Rattle.std.proofs.Common.{List, [], ◌∷◌, ◌++◌, ◌≡◌, ◌+◌, take, refl, sym, ap, ◌∙◌, subst}
use Rattle.std.proofs.lemmas.List.{take_more}
use Rattle.yamux_session.specs.declared.calls.Act.{Act}
use Rattle.yamux_session.specs.declared.calls.ActAnswer.{ActAnswer}
use Rattle.yamux_session.specs.Runs.{AnswersAll}
use Rattle.yamux_session.specs.Runs.Point.{At}
use Rattle.yamux_session.proofs.CallLemmas.{then_one}
use Rattle.yamux_session.proofs.calls.run.Goals as goal

pub loop-act-init : goal.loop-act-init
loop-act-init c = record {
  led = (At [] [], subst (λ (xs : List ActAnswer). AnswersAll c.args.role (At [] []) [] xs (At [] [])) (sym c.new-answers.ensures.items) refl, c.new-session.ensures.stands);
}

pub loop-act-preserved : goal.loop-act-preserved
loop-act-preserved c =
    let led = c.loop-act.invariant.led in
    let next = c.perform.ensures c.args.role led.0 led.2 in
    let more : take (c.loop-act.act-index + 1) c.args.acts.now ≡ take c.loop-act.act-index c.args.acts.now ++ c.act-item.result ∷ [] =
    take_more c.args.acts.now c.loop-act.act-index c.act-item.result c.loop-act-test.true
    ∙ ap (λ (a : Act). take c.loop-act.act-index c.args.acts.now ++ a ∷ []) (sym c.act-item.is) in
    record {
      led = (
        next.0,
        subst (λ (xs : List ActAnswer). AnswersAll c.args.role (At [] []) (take (c.loop-act.act-index + 1) c.args.acts.now) xs next.0) (sym c.in_ok-push.ensures.items)
            (subst (λ (calls : List Act). AnswersAll c.args.role (At [] []) calls (c.loop-act.answers.items ++ c.perform.result ∷ []) next.0) (sym more)
            (then_one c.args.role (At [] []) led.0 next.0 (take c.loop-act.act-index c.args.acts.now) c.loop-act.answers.items c.act-item.result c.perform.result led.1 next.1)),
        next.2,
      );
    }
