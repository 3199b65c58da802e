use Rattle.std.proofs.Common.{◌≡◌, Some, ap, ◌∙◌, inl, inr}
use Rattle.std.specs.Prelude.{option_map}
use Rattle.pool_texts.specs.declared.line.Line.{Line}
use Rattle.pool_texts.specs.declared.line.Line.TheVariants as line
use Rattle.pool_texts.specs.Lines.{Says}
use Rattle.pool_texts.proofs.Lines.{calls_with, says_alone}
use Rattle.pool_texts.proofs.line.said_of.Goals as goal
use Rattle.pool_texts.proofs.line.said_of.Goals.{After-call_of}

made : (c : After-call_of) → (it : Line) → Says c.args.text.now it → option_map line.Call c.call_of.result ≡ Some it
made c = λ it says.
    let said = calls_with c.args.text.now c.in-Some.name.now c.in-Some.words.now c.in-Some.ensures.parted.0
    (λ first second pair spaceless. (c.in-Some.ensures.only first second pair spaceless).0) it says in
    ap (option_map line.Call) (c.call_of.ensures.only said.0 said.2 said.3) ∙ ap Some said.1

pub returns-in_err-call_of-in-Some-clause-only : goal.returns-in_err-call_of-in-Some-clause-only
returns-in_err-call_of-in-Some-clause-only c = λ it says.
    c.from_residual.ensures ∙ rw c.in_err-call_of-in-Some.was at (made c.before.before.before it says)

pub returns-in_ok-call_of-in-Some-clause-said : goal.returns-in_ok-call_of-in-Some-clause-said
returns-in_ok-call_of-in-Some-clause-said c =
    (Some c.in-Some.words.now, rw c.in_ok-call_of-in-Some.ensures.said.0 at c.in-Some.ensures.parted.0, c.in_ok-call_of-in-Some.ensures.said.1)

pub returns-in_ok-call_of-in-Some-clause-only : goal.returns-in_ok-call_of-in-Some-clause-only
returns-in_ok-call_of-in-Some-clause-only c = λ it says. rw c.in_ok-call_of-in-Some.was at (made c.before.before it says)

pub returns-in-None-3-clause-only : goal.returns-in-None-3-clause-only
returns-in-None-3-clause-only c = λ it says. absurd (
    elim (says_alone c.args.text.now (λ first second pair spaceless. cc (c.in-None.ensures.only first second pair spaceless).1) it says)
    [ inl list ↦ cc (rw list.0 at c.if-eq-2.ensures) | inr accept ↦ cc (rw accept.0 at c.if-eq.ensures) ])
