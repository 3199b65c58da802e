use Rattle.std.proofs.Common.{◌≡◌, Option, Ok, Err, ap, subst}
use Rattle.std.specs.Prelude.{IfSome}
use Rattle.streams.specs.declared.stop.Stop.{Stop}
use Rattle.streams.specs.State.{Served, kind_of}
use Rattle.serving.specs.Served.{Asking, Serves, GivesUp}
use Rattle.routing.specs.Routing.{Came}
use Rattle.routing.proofs.Delivering.{broken, no_memory, ran_out}
use Rattle.routing.proofs.delivery.deliver_credit.Goals as goal

pub returns-in-Err-clause-came : goal.returns-in-Err-clause-came
returns-in-Err-clause-came g c = λ role past fed sent so_far at stands e.
    let H = g.H.Handler in
    broken c.in-Err.stop
    (λ outcome. Came H.steps H.fails H.is_closed H.is_finished role past fed sent c.args.number so_far c.args.stream.now c.args.session.now outcome c.serve.new.session c.serve.new.stream)
    c.stopped.result c.stopped.ensures.broken
    (λ why is.
    let f = c.in-Err.ensures.fault (no_memory is) in
    let gave_up = f.1.1 role past fed sent at in
    (f.0, (gave_up.0, gave_up.1, subst (λ (stop : Stop). GivesUp H.fails H.is_closed c.args.stream.now gave_up.0 stop) is gave_up.2), f.1.0))

pub returns-in-Err-clause-memory : goal.returns-in-Err-clause-memory
returns-in-Err-clause-memory g c = ran_out c.in-Err.stop c.stopped.result c.stopped.ensures.memory (λ is. c.in-Err.ensures.memory (ap Err is))

pub returns-in-Ok-None-clause-came : goal.returns-in-Ok-None-clause-came
returns-in-Ok-None-clause-came g c = λ role past fed sent so_far at stands e.
    let H = g.H.Handler in
    let none = c.in-Ok-None.field-0-is in (
      subst (λ (h : Option _). Asking H.steps H.is_closed role past c.args.number c.args.stream.now c.serve.new.stream so_far (λ now.
          Serves H.steps H.is_closed H.is_finished c.args.stream.now.stage role past fed sent c.args.number now h c.serve.new.session c.serve.new.stream)) none
          (c.in-Ok-None.ensures.serves role past fed sent so_far at stands e),
      c.in-Ok-None.ensures.kind (ap Ok none),
    )

pub returns-in-Ok-Some-clause-came : goal.returns-in-Ok-Some-clause-came
returns-in-Ok-Some-clause-came g c = λ role past fed sent so_far at stands e.
    let H = g.H.Handler in
    let some = c.in-Ok-Some.field-0-is in (
      subst (λ (h : Option _). Asking H.steps H.is_closed role past c.args.number c.args.stream.now c.serve.new.stream so_far (λ now.
          Serves H.steps H.is_closed H.is_finished c.args.stream.now.stage role past fed sent c.args.number now h c.serve.new.session c.serve.new.stream)) some
          (c.in-Ok-Some.ensures.serves role past fed sent so_far at stands e),
      subst (λ (h : Option _). IfSome h (λ it. kind_of c.args.stream.now.stage ≡ Served)) some c.in-Ok-Some.ensures.served,
    )

pub returns-in-Err-clause-answered : goal.returns-in-Err-clause-answered
returns-in-Err-clause-answered g c = ran_out c.in-Err.stop c.stopped.result c.stopped.ensures.memory (λ is. c.in-Err.ensures.answered (ap Err is))

pub returns-in-Err-clause-runs_out : goal.returns-in-Err-clause-runs_out
returns-in-Err-clause-runs_out g c = λ role past fed sent so_far at stands e.
    ran_out c.in-Err.stop c.stopped.result c.stopped.ensures.memory
    (λ is. (c.in-Err.ensures.answered (ap Err is) role past fed sent at, c.in-Err.ensures.runs_out role past fed sent so_far at stands e (ap Err is)))
