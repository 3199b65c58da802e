use Rattle.std.proofs.Common.{◌≡◌, ℕ, Option, Some, None, ap, sym, ◌∙◌}
use Rattle.serving.proofs.Refusals.{no_more, used_up}
use Rattle.serving.proofs.serving.may_take.Goals as goal

pub returns-in-Some-clause-due : goal.returns-in-Some-clause-due
returns-in-Some-clause-due c = λ role past fed sent at some none. no_more c.in-Some.credit (c.in-Some.ensures.live role past fed sent at ∙ none) some

pub returns-in-Some-clause-not_due : goal.returns-in-Some-clause-not_due
returns-in-Some-clause-not_due c = λ role past fed sent at none. sym (c.in-Some.ensures.live role past fed sent at) ∙ ap Some (used_up c.in-Some.credit none)

none_is_no_credit : {amount : ℕ} {credit : Option ℕ} → None ≡ credit → credit ≡ Some amount → ⊥
none_is_no_credit none some = let e = none ∙ some in absurd (cc e)

pub returns-in-None-clause-due : goal.returns-in-None-clause-due
returns-in-None-clause-due c = λ role past fed sent at is none. none_is_no_credit (c.in-None.ensures.live role past fed sent at) none
