use Rattle.std.proofs.Common.{◌≢◌, List, ℕ, length, Err, ap, subst, ◌∙◌}
use Rattle.std.specs.Prelude.{IfErr}
use Rattle.ms_select.specs.declared.fault.SelectFault.TheVariants.{OutOfMemory}
use Rattle.ms_select.specs.declared.verdict.Role.{Role}
use Rattle.ms_select.specs.declared.verdict.Role.TheVariants.{Dialer}
use Rattle.ms_select.specs.Sides.{Negotiating, Comes}
use Rattle.varint_proto.proofs.Pieces.{joined}
use Rattle.ms_select.proofs.Feeding.{each_fault}
use Rattle.ms_select.proofs.run.dial.Goals as goal

pub returns-clause-fault : goal.returns-clause-fault
returns-clause-fault c =
    let input = joined c.args.pieces.now in
    let x = c.dialer.inside.side in
    let names = ap (λ (y : Negotiating). y.names) c.dialer.view_is ∙ c.in_ok-dialer.ensures.names in
    let role-told = subst (λ (role : Role). IfErr c.whole_talk.result (λ fault. fault ≢ OutOfMemory → (output : List ℕ) × Comes role x.names input (Err fault) (length input) output)) c.dialer.invariant c.whole_talk.ensures.fault in
    let told = subst (λ (names : List (List ℕ)). IfErr c.whole_talk.result (λ fault. fault ≢ OutOfMemory → (output : List ℕ) × Comes Dialer names input (Err fault) (length input) output)) names role-told in
    each_fault c.whole_talk.result (λ fault h ne all. h ne) told
