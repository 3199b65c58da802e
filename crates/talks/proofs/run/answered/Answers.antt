use Rattle.std.proofs.Common.{◌≢◌, List, ℕ, Ok, subst}
use Rattle.std.specs.Prelude.{IfOk, IfErr}
use Rattle.ms_select.specs.declared.fault.SelectFault.TheVariants.{OutOfMemory}
use Rattle.ms_select.proofs.Feeding.{each_fault}
use Rattle.varint_proto.proofs.Pieces.{joined}
use Rattle.talks.specs.Talks.{Side, ComesTo, Faults}
use Rattle.talks.proofs.run.answered.Goals as goal

pub returns-clause-outcome : goal.returns-clause-outcome
returns-clause-outcome c =
    let input = joined c.args.pieces.now in
    subst (λ (side : Side). IfOk c.whole_talk.result (λ talked. (first : List ℕ) × ComesTo side input first (Ok talked.answer) talked.output.items)) c.in_ok-answer.ensures.side c.whole_talk.ensures.outcome

pub returns-clause-fault : goal.returns-clause-fault
returns-clause-fault c =
    let input = joined c.args.pieces.now in
    let told = subst (λ (side : Side). IfErr c.whole_talk.result (λ fault. fault ≢ OutOfMemory → (output : List ℕ) × Faults side input fault output)) c.in_ok-answer.ensures.side c.whole_talk.ensures.fault in
    each_fault c.whole_talk.result (λ fault h ne names. h ne) told
