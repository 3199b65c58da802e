use Rattle.std.proofs.Common.{[], refl, ap, inl, inr, arith}
use Rattle.std.proofs.lemmas.Bool.Decides.{nat_tests}
use Rattle.std.proofs.KnownBytes.{Appends-nil}
use Rattle.pool_state.specs.declared.call.Reply.{Reply}
use Rattle.pool_texts.specs.Printed.{line, reply_text}
use Rattle.pool_script.specs.Played.{grown}
use Rattle.script_lines.proofs.Lefts.{nothing}
use Rattle.pool_script.proofs.Calls.{applied}
use Rattle.pool_script.proofs.playing.play_line.Goals as goal

pub returns-then-is_empty-clause-played : goal.returns-then-is_empty-clause-played
returns-then-is_empty-clause-played g c = λ config history stands yes.
    ([], history, inl (nothing c.args.text.now (grind (arith, nat_tests)), refl, refl), Appends-nil _, stands)

pub returns-in_ok-print_reply-in-Some-Call-clause-played : goal.returns-in_ok-print_reply-in-Some-Call-clause-played
returns-in_ok-print_reply-in-Some-Call-clause-played g c = λ config history stands yes.
    let made = c.in-Some-Call.call in
    let answered = c.apply.ensures.reply config history stands in (
      line [] (reply_text c.apply.result),
      grown config history made,
      inr (inl (made, c.in-Some-Call.ensures.said.0, rw c.in-Some-Call.field-0-is at c.in-Some-Call.ensures.said.1, ap (λ (r : Reply). line [] (reply_text r)) answered, refl)),
      c.in_ok-print_reply-in-Some-Call.ensures.printed,
      applied config history made c.apply.result c.args.pool.now c.apply.new.self answered
          (λ unspent. c.apply.ensures.moved config history 0 stands unspent) c.apply.ensures.spent stands,
    )
