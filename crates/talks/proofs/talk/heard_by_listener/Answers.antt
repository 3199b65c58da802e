use Rattle.std.proofs.Common.{subst}
use Rattle.std.specs.Prelude.{Result}
use Rattle.ms_select.specs.declared.answer.Step.{Step}
use Rattle.ms_select.specs.declared.fault.SelectFault.{SelectFault}
use Rattle.ms_select.specs.declared.verdict.Role.TheVariants.{Listener}
use Rattle.talks.specs.Talks.{Side, Answers}
use Rattle.talks.specs.Fields.{talking}
use Rattle.talks.specs.Hearing.{Fed, Hears}
use Rattle.talks.proofs.Hearing.{hears, told_same}
use Rattle.talks.proofs.talk.heard_by_listener.Goals as goal

pub returns-clause-hears : goal.returns-clause-hears
returns-clause-hears c =
    let x = c.args.listener.now in
    let y = c.feed.new.self in
    let piece = c.args.piece.now in
    let side : Side = Answers x.names in
    let e = c.feed.ensures in
    let fed : Fed Listener x.names x y piece c.feed.result = record { decided = e.decided; failed = e.failed; answer = e.answer; fails = e.fails; within = e.within; all_used = e.all_used; stands = e.stands; comes = e.listens; fault = e.fault; memory = e.memory } in
    subst (λ (r : Result Step SelectFault). Hears (talking side x) (talking side y) piece r) (told_same x.names c.feed.result) (hears side x y piece c.feed.result fed)
