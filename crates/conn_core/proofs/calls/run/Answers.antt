use Rattle.std.proofs.Common.{arith, ◌≡◌, ◌+◌, false, List, [], ◌∷◌, ◌++◌, take, refl, sym, ap, ◌∙◌, subst}
use Rattle.std.proofs.lemmas.List.{take_more, take_all}
use Rattle.conn_core.specs.declared.calls.ConnAct.{ConnAct}
use Rattle.conn_core.specs.declared.calls.ConnAnswer.{ConnAnswer}
use Rattle.conn_core.specs.Runs.{AnswersAll}
use Rattle.conn_core.specs.Runs.Point.{At}
use Rattle.conn_core.proofs.Steps.{then_one, leaves}
use Rattle.conn_core.proofs.calls.run.Goals as goal

pub loop-act-init : goal.loop-act-init
loop-act-init g c =
    let H = g.P.H.Handler in
    let makes = g.P.Protocols in
    let role = c.args.role in
    let key = c.args.key in
    let start = c.args.protocols in
    record {
      led = (
        At [] false [] [] [],
        subst (λ (xs : List (ConnAnswer _)). AnswersAll H.steps H.fails H.is_closed H.is_finished makes.makes_inbound makes.makes_outbound makes.listed makes.is_eager makes.leads_inbound makes.leads_outbound start role key (At [] false [] [] []) [] xs (At [] false [] [] [])) (sym c.new-answers.ensures.items) refl,
        (c.in-Ok.ensures.none_owed, c.in-Ok.ensures.stands),
      );
    }

pub loop-act-preserved : goal.loop-act-preserved
loop-act-preserved g c =
    let H = g.P.H.Handler in
    let makes = g.P.Protocols in
    let role = c.args.role in
    let key = c.args.key in
    let start = c.args.protocols in
    let acts = c.args.acts.now in
    let index = c.loop-act.act-index in
    let led = c.loop-act.invariant.led in
    let next = c.perform.ensures start role key [] led.0 led.2 in
    let more : take (index + 1) acts ≡ take index acts ++ c.act-item.result ∷ [] =
    take_more acts index c.act-item.result c.loop-act-test.true ∙ ap (λ (a : ConnAct). take index acts ++ a ∷ []) (sym c.act-item.is) in
    record {
      led = (
        next.0,
        subst (λ (xs : List (ConnAnswer _)). AnswersAll H.steps H.fails H.is_closed H.is_finished makes.makes_inbound makes.makes_outbound makes.listed makes.is_eager makes.leads_inbound makes.leads_outbound start role key (At [] false [] [] []) (take (index + 1) acts) xs next.0) (sym c.in_ok-push.ensures)
            (subst (λ (calls : List ConnAct). AnswersAll H.steps H.fails H.is_closed H.is_finished makes.makes_inbound makes.makes_outbound makes.listed makes.is_eager makes.leads_inbound makes.leads_outbound start role key (At [] false [] [] []) calls (c.loop-act.answers.items ++ c.perform.result ∷ []) next.0) (sym more)
            (then_one H.steps H.fails H.is_closed H.is_finished makes.makes_inbound makes.makes_outbound makes.listed makes.is_eager makes.leads_inbound makes.leads_outbound start role key (At [] false [] [] []) led.0 next.0 (take index acts) c.loop-act.answers.items c.act-item.result c.perform.result led.1 next.1)),
        next.2,
      );
    }

pub returns : goal.returns
returns g c =
    let H = g.P.H.Handler in
    let makes = g.P.Protocols in
    let role = c.args.role in
    let key = c.args.key in
    let start = c.args.protocols in
    let acts = c.args.acts.now in
    let index = c.loop-act.act-index in
    let led = c.loop-act.invariant.led in
    let took = c.take_output-output in
    let all : take index acts ≡ acts = take_all index acts (omega (arith, c.loop-act-test.false)) in
    record {
      ran = (
        led.0,
        subst (λ (calls : List ConnAct). AnswersAll H.steps H.fails H.is_closed H.is_finished makes.makes_inbound makes.makes_outbound makes.listed makes.is_eager makes.leads_inbound makes.leads_outbound start role key (At [] false [] [] []) calls c.loop-act.answers.items led.0) all led.1,
        leaves H.steps H.fails H.is_closed H.is_finished makes.makes_inbound makes.makes_outbound makes.listed makes.is_eager makes.leads_inbound makes.leads_outbound start role key led.0 c.loop-act.core took.new.self took.result.items c.in_ok-handlers.handlers.items
            (λ input ended log told stands. took.ensures.stands role key start input [] ended log told stands)
            took.ensures.taken took.ensures.none_waits took.ensures.owed took.ensures.spent c.in_ok-handlers.ensures.held c.into_handlers.ensures.ordered led.2,
      );
    }
