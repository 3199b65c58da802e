use Rattle.std.proofs.Common.{[], map, string_bytes, Some, ap, ◌∙◌}
use Rattle.ms_select.specs.declared.answer.Answer.TheVariants.{Going}
use Rattle.ms_select.specs.Sides.{Negotiating}
use Rattle.ms_select.proofs.Feeding.{stands_at}
use Rattle.ms_select.proofs.Fresh.{names_short, listener_fresh}
use Rattle.ms_select.proofs.listener.Listener.new.Goals as goal

pub new-requires-clause-short : goal.new-requires-clause-short
new-requires-clause-short c =
    names_short (λ name. name.now) c.args.names.now (map string_bytes c.in_ok-names.names.items) c.in_ok-names.ensures.names c.in_ok-names.ensures.checked

pub returns-clause-fresh : goal.returns-clause-fresh
returns-clause-fresh c =
    let x = c.new.result in
    let is = c.new.ensures.is in
    let i = c.new.ensures.incoming in
    let role = ap (λ (y : Negotiating). y.role) is in
    let answer = ap (λ (y : Negotiating). y.answer) is in
    let begins = listener_fresh x role (ap (λ (y : Negotiating). y.begun) is) (ap (λ (y : Negotiating). y.count) is) i.0 i.1 i.2
    (ap (λ (y : Negotiating). y.pending) is ∙ c.in_ok-output.ensures.ok) in
    (role, answer, stands_at x [] 0 [] (Some Going) answer begins)
