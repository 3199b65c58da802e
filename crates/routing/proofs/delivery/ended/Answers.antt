use Rattle.std.proofs.Common.{◌≡◌, inl, inr, true, None, ap, sym, ◌∙◌, refl}
use Rattle.handlers.specs.Calls.{End, ToEnd}
use Rattle.streams.specs.declared.stop.Stop.TheVariants as stops
use Rattle.streams.specs.Streams.{with_call}
use Rattle.streams.specs.State.{answering}
use Rattle.routing.specs.declared.delivered.Outcome.TheVariants as outcomes
use Rattle.routing.specs.Routing.{Came, Ends}
use Rattle.routing.proofs.Delivering.{answered, answers_by, broken, quiet, handler_failed, over_by, keeps_memory, ran_out, same_stop, stop_is, same_cause, quiet_by, on_err, goes_by}
use Rattle.routing.proofs.delivery.ended.Goals as goal
use Rattle.routing.proofs.delivery.ended.Goals.{After-stopped}

pub returns-in-Ok-clause-ends : goal.returns-in-Ok-clause-ends
returns-in-Ok-clause-ends g c = λ role past fed sent so_far at stands going awaits e.
    let H = g.H.Handler in
    let now = with_call (record so_far { ended = true; left = None }) (answering c.args.stream.now.stage End) in
    let there = c.in-Ok.ensures.stands so_far stands going in
    answered
    (λ outcome. Came H.steps H.fails H.is_closed H.is_finished role past fed sent c.args.number now c.end.new.self c.args.session.now outcome c.deliver_credit.new.session c.deliver_credit.new.stream)
    (λ outcome. Ends H.steps H.fails H.is_closed H.is_finished role past fed sent c.args.number so_far c.args.stream.now c.args.session.now outcome c.deliver_credit.new.session c.deliver_credit.new.stream)
    c.deliver_credit.result
    (λ outcome came. (
      λ talks. absurd (let no = (c.in-Ok.ensures.in_talk talks).0 in cc no),
      λ talks. inl (c.end.new.self, there, c.in-Ok.ensures.kind, answers_by H.steps End c.args.stream.now.stage c.end.new.self.stage talks c.in-Ok.ensures.step, came),
    ))
    (c.deliver_credit.ensures.came role past fed sent now at there e)

pub returns-in-Err-clause-ends : goal.returns-in-Err-clause-ends
returns-in-Err-clause-ends g c = λ role past fed sent so_far at stands going awaits e.
    let H = g.H.Handler in
    broken c.in-Err.stop
    (λ outcome. Ends H.steps H.fails H.is_closed H.is_finished role past fed sent c.args.number so_far c.args.stream.now c.args.session.now outcome c.args.session.now c.end.new.self)
    c.stopped.result c.stopped.ensures.broken
    (λ why is. (
      λ talks. (ap outcomes.Broken (same_cause (sym is ∙ stop_is (c.in-Err.ensures.in_talk talks).0)), refl, (c.in-Err.ensures.in_talk talks).1, c.end.ensures.kept),
      λ talks. inr (
        refl,
        handler_failed H.fails ToEnd c.args.stream.now c.in-Err.stop why is
            (λ handler serves. (c.in-Err.ensures.fault handler serves).1) (λ done. absurd (let ok = (c.in-Err.ensures.done done).0 in cc ok))
            (quiet H.steps c.args.stream.now so_far stands talks awaits),
        over_by c.args.stream.now.stage c.end.new.self.stage (λ handler serves. (c.in-Err.ensures.fault handler serves).0) (λ done. absurd (let ok = (c.in-Err.ensures.done done).0 in cc ok))
            (quiet H.steps c.args.stream.now so_far stands talks awaits),
        c.end.ensures.kept,
      ),
    ))

-- a handler that is told the end stops for no want of memory, nor does a talk
never_short : (g : Rattle.routing.proofs.delivery.ended.Given.Over) (c : After-stopped g) → c.in-Err.stop ≡ stops.OutOfMemory → ⊥
never_short g c = keeps_memory g.H.Handler.fails ToEnd c.args.stream.now.stage c.in-Err.stop (λ handler serves. (c.in-Err.ensures.fault handler serves).1)
    (λ done. absurd (let ok = (c.in-Err.ensures.done done).0 in cc ok)) (λ talks. same_stop (c.in-Err.ensures.in_talk talks).0)
    (λ else. same_stop (c.in-Err.ensures.out_of_turn else).0)

pub returns-in-Err-clause-memory : goal.returns-in-Err-clause-memory
returns-in-Err-clause-memory g c = ran_out c.in-Err.stop c.stopped.result c.stopped.ensures.memory (λ is. absurd (never_short g c is))

pub returns-in-Err-clause-runs_out : goal.returns-in-Err-clause-runs_out
returns-in-Err-clause-runs_out g c = λ role past fed sent so_far at stands going e.
    ran_out c.in-Err.stop c.stopped.result c.stopped.ensures.memory (λ is. absurd (never_short g c is))

-- a handler that answers the call serves the stream, and it is where it was
pub returns-in-Ok-clause-runs_out : goal.returns-in-Ok-clause-runs_out
returns-in-Ok-clause-runs_out g c = λ role past fed sent so_far at stands going e.
    let H = g.H.Handler in
    let talks = quiet_by c.args.stream.now.stage (λ talks. let no = (c.in-Ok.ensures.in_talk talks).0 in cc no) in
    let now = with_call (record so_far { ended = true; left = None }) (answering c.args.stream.now.stage End) in
    let there = c.in-Ok.ensures.stands so_far stands going in
    on_err c.deliver_credit.result
    (λ runs_out. (
      talks,
      (
        c.end.new.self,
        there,
        c.end.ensures.kept,
        c.in-Ok.ensures.kind,
        goes_by H.steps End c.args.stream.now.stage c.end.new.self.stage talks c.in-Ok.ensures.step,
        runs_out,
      ),
    ))
    (c.deliver_credit.ensures.runs_out role past fed sent now at there e)
