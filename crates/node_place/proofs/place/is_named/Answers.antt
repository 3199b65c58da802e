use Rattle.std.proofs.Common.{ap, ◌≡◌, ℕ, List, Some, None, subst, sym, ◌∙◌}
use Rattle.std.specs.List.{slice_get}
use Rattle.std.specs.Option.{option_copied}
use Rattle.node_place.proofs.Names.{nameless, told_below, told_from}
use Rattle.node_place.proofs.place.is_named.Goals as goal

pub returns-in_default : goal.returns-in_default
returns-in_default c = λ parts same. nameless parts (subst (λ (bytes : List ℕ). slice_get bytes 0 ≡ None) same
    (sym c.first.ensures.value ∙ ap option_copied c.in_default.is))

pub returns-then-first-ge53 : goal.returns-then-first-ge53
returns-then-first-ge53 c = λ parts same. told_from parts c.in-Some.first.now
    (subst (λ (bytes : List ℕ). slice_get bytes 0 ≡ Some c.in-Some.first.now) same
    (sym c.first.ensures.value ∙ ap option_copied c.in-Some.is)) c.if-first-ge53.true

pub returns-else-first-ge53 : goal.returns-else-first-ge53
returns-else-first-ge53 c = λ parts same. told_below parts c.in-Some.first.now
    (subst (λ (bytes : List ℕ). slice_get bytes 0 ≡ Some c.in-Some.first.now) same
    (sym c.first.ensures.value ∙ ap option_copied c.in-Some.is)) c.if-first-ge53.false
