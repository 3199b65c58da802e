use Rattle.std.proofs.Common.{◌≡◌, refl, arith}
use Rattle.conn_core.proofs.Steps.{takes}
use Rattle.trace_script.specs.Printed.{output_text}
use Rattle.std.proofs.lemmas.Result.{on_ok_weaker}
use Rattle.trace_script.proofs.Lines.{cut_some}
use Rattle.trace_script.proofs.playing.do_line.Goals as goal

pub returns-in-Feed-clause-done : goal.returns-in-Feed-clause-done
returns-in-Feed-clause-done g c = λ start role own from text says at. rw c.in-Feed.is (
    on_ok_weaker c.call.result (λ it. (it.0, record { point = it.1; taken = from.taken }, ((c.in-Feed.bytes, refl, it.2), refl), it.3, it.4))
    (c.call.ensures.told start role own from at))

pub returns-in-Cut-clause-done : goal.returns-in-Cut-clause-done
returns-in-Cut-clause-done g c = λ start role own from text says at.
    let some = cut_some text c.in-Cut.size c.in-Cut.bytes (rw c.in-Cut.is at says) in
    let size_is : c.max.result ≡ c.in-Cut.size = omega (arith, c.max.ensures, some) in
    rw c.in-Cut.is (
    on_ok_weaker c.feed_each.result (λ it. (
      it.1,
      record { point = it.2; taken = from.taken },
      (it.0, rw c.deref.ensures.value at (rw size_is at it.3), it.4, refl),
      it.5,
      it.6,
    ))
    (c.feed_each.ensures.fed start role own from at))

pub returns-in-Ask-clause-done : goal.returns-in-Ask-clause-done
returns-in-Ask-clause-done g c = λ start role own from text says at. rw c.in-Ask.is (
    on_ok_weaker c.call-in-Ask.result (λ it. (it.0, record { point = it.1; taken = from.taken }, (it.2, refl), it.3, it.4))
    (c.call-in-Ask.ensures.told start role own from at))

pub returns-in-Out-clause-done : goal.returns-in-Out-clause-done
returns-in-Out-clause-done g c = λ start role own from text says at.
    let H = g.P.H.Handler in
    let makes = g.P.Protocols in
    let took = c.take_output in
    let there = takes H.steps H.fails H.is_closed H.is_finished makes.makes_inbound makes.makes_outbound makes.listed makes.is_eager makes.leads_inbound makes.leads_outbound start role own from.taken from.point c.args.core.now took.new.self took.result.items
    (λ input ended log told. took.ensures.stands role own start input from.taken ended log told)
    took.ensures.taken took.ensures.none_waits took.ensures.owed took.ensures.spent at in
    rw c.in-Out.is (
    on_ok_weaker c.print_output.result (λ printed.
    (output_text took.result.items, record { point = from.point; taken = _ }, (took.result.items, there.0, refl, refl, refl), rw c.deref-in-Out.ensures.value at printed, there.1))
    c.print_output.ensures.printed)

pub returns-in-End-clause-done : goal.returns-in-End-clause-done
returns-in-End-clause-done g c = λ start role own from text says at. rw c.in-End.is (
    on_ok_weaker c.call-in-End.result (λ it. (it.0, record { point = it.1; taken = from.taken }, (it.2, refl), it.3, it.4))
    (c.call-in-End.ensures.told start role own from at))
