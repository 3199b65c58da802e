use Rattle.std.proofs.Common.{◌≡◌, [], map, string_bytes, Some, ap, sym, ◌∙◌}
use Rattle.std.specs.Prelude.{slice_get}
use Rattle.ms_select.specs.declared.answer.Answer.TheVariants.{Going}
use Rattle.ms_select.specs.Sides.{Negotiating}
use Rattle.ms_select.proofs.Feeding.{stands_at}
use Rattle.ms_select.proofs.Fresh.{names_short, dialer_fresh}
use Rattle.ms_select.proofs.dialer.Dialer.new.Goals as goal

pub new-requires-2-clause-short : goal.new-requires-2-clause-short
new-requires-2-clause-short c =
    names_short (λ name. name.now) c.args.names.now (map string_bytes c.in_ok-names.names.items) c.in_ok-names.ensures.names c.in_ok-names.ensures.checked

pub returns-clause-fresh : goal.returns-clause-fresh
returns-clause-fresh c =
    let texts = map string_bytes c.in_ok-names.names.items in
    let x = c.new-2.result in
    let is = c.new-2.ensures.is in
    let i = c.new-2.ensures.incoming in
    let names : x.names ≡ texts = ap (λ (y : Negotiating). y.names) is in
    let role = ap (λ (y : Negotiating). y.role) is in
    let at : slice_get x.names 0 ≡ Some c.name_at.result.now =
    ap (λ xs. slice_get xs 0) names ∙ ap (λ xs. slice_get (map string_bytes xs) 0) (sym c.deref.ensures.value) ∙ c.name_at.ensures in
    let begins = dialer_fresh x c.name_at.result.now role (ap (λ (y : Negotiating). y.begun) is) (ap (λ (y : Negotiating). y.count) is) i.0 i.1 i.2 at
    (ap (λ (y : Negotiating). y.pending) is ∙ c.in_ok-output.ensures.ok) in
    (role, stands_at x [] 0 [] (Some Going) (ap (λ (y : Negotiating). y.answer) is) begins)
