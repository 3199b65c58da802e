-- What a negotiation, and the talk that holds it, make of a piece. Inside: no public clause cites it.
use Rattle.std.specs.Prelude.{◌≡◌, ◌≢◌, ℕ, ◌+◌, ◌≤◌, List, ◌++◌, length, take, Some, None, Result, Ok, Err}
use Rattle.std.specs.Prelude.{IfOk, IfErr, OnErr}
use Rattle.ms_select.specs.declared.answer.Answer.{Answer}
use Rattle.ms_select.specs.declared.answer.Answer.TheVariants.{Going}
use Rattle.ms_select.specs.declared.answer.Step.{Step}
use Rattle.ms_select.specs.declared.fault.SelectFault.{SelectFault}
use Rattle.ms_select.specs.declared.fault.SelectFault.TheVariants.{Failed, OutOfMemory}
use Rattle.ms_select.specs.declared.verdict.Role.{Role}
use Rattle.ms_select.specs.Sides.{Negotiating, Comes, Stands as NegotiationStands, RunsOut as NegotiationRunsOut}
use Rattle.talks.specs.Talks.{Talks, Faults, ComesTo, RunsOut}
use Rattle.talks.specs.State.{Talking, Stands, Whenever, used_of, answer_of}

-- a negotiation takes a piece
pub record Fed (role : Role) (names : List (List ℕ)) (old new : Negotiating) (piece : List ℕ)
    (result : Result Step SelectFault) : Type 0 where
  pub decided : (answer : Answer) → old.answer ≡ Some answer → answer ≢ Going
      → (result ≡ Ok (record { used = 0; answer = answer })) × (new ≡ old)
  pub failed : old.answer ≡ None → (result ≡ Err Failed) × (new ≡ old)
  pub answer : IfOk result (λ step. new.answer ≡ Some step.answer)
  pub fails : OnErr result (new.answer ≡ None)
  pub within : IfOk result (λ step. step.used ≤ length piece)
  pub all_used : IfOk result (λ step. step.answer ≡ Going → step.used ≡ length piece)
  pub stands : (input : List ℕ) (used : ℕ) (taken : List ℕ) → NegotiationStands old input used taken
      → IfOk result (λ step. NegotiationStands new (input ++ piece) (used + step.used) taken)
  pub comes : (input : List ℕ) (used : ℕ) (taken : List ℕ) → NegotiationStands old input used taken
      → IfOk result (λ step. Comes role names (input ++ piece) (Ok step.answer) (used + step.used)
      (taken ++ new.pending))
  pub fault : old.answer ≡ Some Going
      → (input : List ℕ) (used : ℕ) (taken : List ℕ) → NegotiationStands old input used taken
      → IfErr result (λ fault. fault ≢ OutOfMemory → Comes role names (input ++ piece) (Err fault)
      (length (input ++ piece)) (taken ++ new.pending))
  pub memory : old.answer ≡ Some Going
      → (input : List ℕ) (used : ℕ) (taken : List ℕ) → NegotiationStands old input used taken
      → result ≡ Err OutOfMemory → NegotiationRunsOut role names (taken ++ new.pending) input piece

-- a talk takes a piece: the clauses of the public call
pub record Hears (old new : Talking) (piece : List ℕ) (result : Result Step SelectFault) : Type 0 where
  pub side : new.side ≡ old.side
  pub decided : (answer : Answer) → old.answer ≡ Some answer → answer ≢ Going
      → (result ≡ Ok (record { used = 0; answer = answer })) × (new ≡ old)
  pub failed : old.answer ≡ None → (result ≡ Err Failed) × (new ≡ old)
  pub answer : IfOk result (λ step. new.answer ≡ Some step.answer)
  pub fails : OnErr result (new.answer ≡ None)
  pub within : IfOk result (λ step. step.used ≤ length piece)
  pub all_used : IfOk result (λ step. step.answer ≡ Going → step.used ≡ length piece)
  pub stands : (input : List ℕ) (taken : List ℕ) → Stands old input taken
      → IfOk result (λ step. Stands new (input ++ take step.used piece) taken)
  pub talks : Whenever old (λ input taken. IfOk result (λ step.
      Talks old.side (input ++ take step.used piece) (Ok step.answer) (taken ++ new.pending)))
  pub fault : old.answer ≡ Some Going → Whenever old (λ input taken. IfErr result (λ fault.
      fault ≢ OutOfMemory → Faults old.side (input ++ piece) fault (taken ++ new.pending)))
  pub memory : old.answer ≡ Some Going → Whenever old (λ input taken.
      result ≡ Err OutOfMemory → RunsOut old.side (taken ++ new.pending) input piece)
  pub only : old.answer ≡ Some Going → Whenever old (λ input taken.
      (first : List ℕ) (standing : Result Answer SelectFault) (output : List ℕ)
      → ComesTo old.side (input ++ piece) first standing output → result ≢ Err OutOfMemory
      → (first ≡ input ++ used_of result piece) × (standing ≡ answer_of result) × (output ≡ taken ++ new.pending))
