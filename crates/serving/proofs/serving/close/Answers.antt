use Rattle.std.proofs.Common.{inl, inr, refl, sym}
use Rattle.serving.proofs.Refusals.{not_both_credits, open_with, open_for_memory}
use Rattle.serving.proofs.serving.close.Goals as goal

pub returns-in_default-clause-closes : goal.returns-in_default-clause-closes
returns-in_default-clause-closes c = λ role past fed sent at. inl (refl, inr (sym (c.in_default.ensures.live role past fed sent at)))

pub returns-in-Ok-clause-closes : goal.returns-in-Ok-clause-closes
returns-in-Ok-clause-closes c = λ role past fed sent at.
    let is_open = open_with role past c.args.number c.in-Some.field-0 (sym (c.in-Some.ensures.live role past fed sent at)) in
    inr (c.if-not-over.false, is_open.is_live, is_open.unclosed, c.in-Ok.ensures.ok role past fed sent at)

pub returns-in-Ok-clause-kept : goal.returns-in-Ok-clause-kept
returns-in-Ok-clause-kept c = λ role past fed sent at none. absurd (not_both_credits (c.in-Some.ensures.live role past fed sent at) none)

pub returns-in-Err-clause-kept : goal.returns-in-Err-clause-kept
returns-in-Err-clause-kept c = λ role past fed sent at none. absurd (not_both_credits (c.in-Some.ensures.live role past fed sent at) none)

pub returns-in-Err-clause-runs_out : goal.returns-in-Err-clause-runs_out
returns-in-Err-clause-runs_out c = λ role past fed sent at.
    let some = sym (c.in-Some.ensures.live role past fed sent at) in
    let is_open = open_with role past c.args.number c.in-Some.field-0 some in
    let wants = open_for_memory role past c.args.number c.in-Some.field-0 c.in-Err.field-0 (c.in-Err.ensures.refused role past fed sent at) some in
    (c.in-Err.ensures.err, c.if-not-over.false, is_open.is_live, is_open.unclosed, c.in-Err.ensures.memory wants)
