use Rattle.std.proofs.Common.{◌≢◌, List, ℕ, subst}
use Rattle.std.specs.Prelude.{IfErr}
use Rattle.ms_select.specs.declared.fault.SelectFault.TheVariants.{OutOfMemory}
use Rattle.ms_select.proofs.Feeding.{each_fault}
use Rattle.varint_proto.proofs.Pieces.{joined}
use Rattle.talks.specs.Talks.{Side, Faults}
use Rattle.talks.proofs.run.asked.Goals as goal

pub returns-clause-fault : goal.returns-clause-fault
returns-clause-fault c =
    let input = joined c.args.pieces.now in
    let told = subst (λ (side : Side). IfErr c.whole_talk.result (λ fault. fault ≢ OutOfMemory → (output : List ℕ) × Faults side input fault output)) c.in_ok-ask.ensures.side c.whole_talk.ensures.fault in
    each_fault c.whole_talk.result (λ fault h ne name. h ne) told
