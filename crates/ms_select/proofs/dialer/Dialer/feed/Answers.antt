use Rattle.std.proofs.Common.{◌≡◌, ◌≢◌, ◌++◌, length, Err, ap, sym, subst, ◌∙◌}
use Rattle.std.specs.Prelude.{IfErr}
use Rattle.ms_select.specs.declared.fault.SelectFault.TheVariants.{OutOfMemory}
use Rattle.ms_select.specs.declared.verdict.Role.{Role}
use Rattle.ms_select.specs.declared.verdict.Role.TheVariants.{Dialer}
use Rattle.ms_select.specs.Sides.{Negotiating, Comes, Stands}
use Rattle.ms_select.proofs.dialer.Dialer.feed.Goals as goal

pub returns-clause-fault : goal.returns-clause-fault
returns-clause-fault c = λ going input used taken s.
    let x = c.args.self.now in
    let all = input ++ c.args.piece.now in
    let is : x.role ≡ Dialer = ap (λ (y : Negotiating). y.role) (sym c.self.view_is) ∙ c.self.invariant in
    let before = subst (λ (y : Negotiating). Stands y input used taken) (sym c.self.view_is) s in
    let waits = ap (λ (y : Negotiating). y.answer) c.self.view_is ∙ going in
    let told = c.feed.ensures.fault waits input used taken before in
    let here = subst (λ (y : Negotiating). IfErr c.feed.result (λ fault. fault ≢ OutOfMemory → Comes y.role y.names all (Err fault) (length all) (taken ++ c.feed.new.self.pending))) c.self.view_is told in
    subst (λ (role : Role). IfErr c.feed.result (λ fault. fault ≢ OutOfMemory → Comes role x.names all (Err fault) (length all) (taken ++ c.feed.new.self.pending))) is here
