use Rattle.std.proofs.Common.{List, ℕ, subst, sym}
use Rattle.std.specs.Prelude.{Ok, Err}
use Rattle.std.proofs.lemmas.Result.{err_from_is_err_and}
use Rattle.ms_select.specs.declared.answer.Answer.{Answer}
use Rattle.ms_select.specs.declared.verdict.Role.TheVariants.{Dialer}
use Rattle.talks.specs.Talks.{Side, Asks}
use Rattle.talks.specs.Fields.{talking, first_of}
use Rattle.talks.specs.Hearing.{Fed, Hears}
use Rattle.talks.proofs.Hearing.{hears}
use Rattle.talks.proofs.talk.heard_by_dialer.Goals as goal

pub returns-in_err-used-clause-hears : goal.returns-in_err-used-clause-hears
returns-in_err-used-clause-hears c =
    let p = err_from_is_err_and c.from_residual.result c.from_residual.ensures.1 in
    let x = c.args.dialer.now in
    let y = c.feed.new.self in
    let piece = c.args.piece.now in
    let side : Side = Asks (first_of x.names) c.args.index in
    let e = c.in_err-used.ensures in
    let fault = c.in_err-used.field-0.0 in
    let fed : Fed Dialer x.names x y piece (Err fault) = record { decided = e.decided; failed = e.failed; answer = e.answer; fails = e.fails; within = e.within; all_used = e.all_used; stands = e.stands; comes = e.dials; fault = e.fault; memory = e.memory } in
    let one = subst (λ (names : List (List ℕ)). Fed Dialer names x y piece (Err fault)) c.requires fed in
    rw (p.1, p.2) (hears side x y piece (Err fault) one)

pub returns-clause-hears : goal.returns-clause-hears
returns-clause-hears c =
    let x = c.args.dialer.now in
    let y = c.feed.new.self in
    let piece = c.args.piece.now in
    let name = first_of x.names in
    let side : Side = Asks name c.args.index in
    let e = c.in_ok-used.ensures in
    let step = c.in_ok-used.field-0 in
    let fed : Fed Dialer x.names x y piece (Ok step) = record { decided = e.decided; failed = e.failed; answer = e.answer; fails = e.fails; within = e.within; all_used = e.all_used; stands = e.stands; comes = e.dials; fault = e.fault; memory = e.memory } in
    let one = subst (λ (names : List (List ℕ)). Fed Dialer names x y piece (Ok step)) c.requires fed in
    subst (λ (a : Answer). Hears (talking side x) (talking side y) piece (Ok (record { used = step.used; answer = a }))) (sym (c.told.ensures name)) (hears side x y piece (Ok step) one)
