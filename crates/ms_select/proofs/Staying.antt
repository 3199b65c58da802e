-- A fault and a decision stay when bytes are added.
use Rattle.std.proofs.Common.{◌≡◌, ◌≢◌, ℕ, ◌+◌, List, [], ◌∷◌, ◌++◌, length, Some, Ok, Err, refl, ap, subst, ◌∙◌, inl, inr, append_assoc, arith}
use Rattle.std.proofs.lemmas.List.{length-append}
use Rattle.ms_select.specs.declared.fault.SelectFault.{SelectFault}
use Rattle.ms_select.specs.declared.answer.Answer.{Answer}
use Rattle.ms_select.specs.declared.answer.Answer.TheVariants.{Going, Agreed, NoneLeft}
use Rattle.ms_select.specs.declared.verdict.Role.{Role}
use Rattle.ms_select.specs.declared.verdict.Role.TheVariants.{Dialer, Listener}
use Rattle.ms_select.specs.Messages.{header, message, spelled}
use Rattle.ms_select.specs.Listening.{IsRefused, Listens}
use Rattle.ms_select.specs.Dialing.{Answered, IsNotAnswer, Dials}
use Rattle.ms_select.specs.Sides.{Comes}
use Rattle.ms_select.proofs.Reading.{message_stays}

-- ---- of a listener

refused_stays : (texts : List (List ℕ)) (rest more : List ℕ) (fault : SelectFault) → IsRefused texts rest fault → IsRefused texts (rest ++ more) fault
refused_stays (first ∷ proposals) rest more fault r = message_stays rest more (Err fault) r (λ q. cc)
refused_stays [] rest more fault (inl r) = inl (message_stays rest more (Err fault) r (λ q. cc))
refused_stays [] rest more fault (inr r) = inr (r.0, message_stays rest more (Ok (Some r.0)) r.1 (λ q. cc), r.2, r.3)

-- What is refused stays so, whatever comes.
listen_fault_stays : (names : List (List ℕ)) (input more output : List ℕ) (fault : SelectFault) (used : ℕ) → Listens names input (Err fault) used output
    → Listens names (input ++ more) (Err fault) (length (input ++ more)) output
listen_fault_stays names input more output fault used l =
    (l.0, l.1 ++ more, record { parts = ap (λ (x : List ℕ). x ++ more) l.2.parts ∙ append_assoc (spelled l.0) l.1 more; short = l.2.short; undecided = l.2.undecided }, refused_stays l.0 l.1 more fault l.3, refl, l.5)

-- What is decided stays so, and nothing more is used.
agreed_stays : (names : List (List ℕ)) (input more output : List ℕ) (index used : ℕ) → Listens names input (Ok (Agreed index)) used output → Listens names (input ++ more) (Ok (Agreed index)) used output
agreed_stays names input more output index used l = (
  l.0,
  l.1,
  l.2 ++ more,
  record { parts = ap (λ (x : List ℕ). x ++ more) l.3.parts ∙ append_assoc (spelled (header ∷ l.0)) (message l.1 ++ l.2) more ∙ ap (λ (x : List ℕ). spelled (header ∷ l.0) ++ x) (append_assoc (message l.1) l.2 more); short = l.3.short; undecided = l.3.undecided },
  l.4,
  omega (arith, l.5, length-append l.2 more, length-append input more),
  l.6,
)

-- ---- of a dialer

not_answer_stays : (names texts : List (List ℕ)) (rest more : List ℕ) (fault : SelectFault) → IsNotAnswer names texts rest fault → IsNotAnswer names texts (rest ++ more) fault
not_answer_stays names [] rest more fault (inl r) = inl (message_stays rest more (Err fault) r (λ q. cc))
not_answer_stays names [] rest more fault (inr r) = inr (r.0, message_stays rest more (Ok (Some r.0)) r.1 (λ q. cc), r.2, r.3)
not_answer_stays names (first ∷ answers) rest more fault (inl r) = inl (message_stays rest more (Err fault) r (λ q. cc))
not_answer_stays names (first ∷ answers) rest more fault (inr r) = inr (r.0, message_stays rest more (Ok (Some r.0)) r.1 (λ q. cc), r.2, r.3, r.4)

more_parts : (input : List ℕ) (texts : List (List ℕ)) (rest more : List ℕ) → Answered input texts rest → Answered (input ++ more) texts (rest ++ more)
more_parts input texts rest more h = record { parts = ap (λ (x : List ℕ). x ++ more) h.parts ∙ append_assoc (spelled texts) rest more; refusals = h.refusals }

-- What is refused stays so, whatever comes.
dial_fault_stays : (names : List (List ℕ)) (input more output : List ℕ) (fault : SelectFault) (used : ℕ) → Dials names input (Err fault) used output
    → Dials names (input ++ more) (Err fault) (length (input ++ more)) output
dial_fault_stays names input more output fault used d = (d.0, d.1 ++ more, record { answered = more_parts input d.0 d.1 more d.2.answered; left = d.2.left }, not_answer_stays names d.0 d.1 more fault d.3, refl, d.5)

agreed_dial_stays : (names : List (List ℕ)) (input more output : List ℕ) (index used : ℕ) → Dials names input (Ok (Agreed index)) used output
    → Dials names (input ++ more) (Ok (Agreed index)) used output
agreed_dial_stays names input more output index used d =
    let whole : Answered (input ++ more) (header ∷ d.0) (message d.1 ++ d.2 ++ more) = more_parts input (header ∷ d.0) (message d.1 ++ d.2) more d.3 in (
      d.0,
      d.1,
      d.2 ++ more,
      subst (λ (x : List ℕ). Answered (input ++ more) (header ∷ d.0) x) (append_assoc (message d.1) d.2 more) whole,
      d.4,
      omega (arith, d.5, length-append d.2 more, length-append input more),
      d.6,
    )

none_left_stays : (names : List (List ℕ)) (input more output : List ℕ) (used : ℕ) → Dials names input (Ok NoneLeft) used output
    → Dials names (input ++ more) (Ok NoneLeft) used output
none_left_stays names input more output used d =
    let size : used + length (d.1 ++ more) ≡ length (input ++ more) = omega (arith, d.4, length-append d.1 more, length-append input more) in
    (d.0, d.1 ++ more, more_parts input d.0 d.1 more d.2, d.3, size, d.5)

-- ---- of both

pub fault_stays : (role : Role) (names : List (List ℕ)) (input more output : List ℕ) (fault : SelectFault) (used : ℕ) → Comes role names input (Err fault) used output
    → Comes role names (input ++ more) (Err fault) (length (input ++ more)) output
fault_stays Listener names input more output fault used c = listen_fault_stays names input more output fault used c
fault_stays Dialer names input more output fault used c = dial_fault_stays names input more output fault used c

pub decision_stays : (role : Role) (names : List (List ℕ)) (input more output : List ℕ) (answer : Answer) (used : ℕ) → answer ≢ Going → Comes role names input (Ok answer) used output
    → Comes role names (input ++ more) (Ok answer) used output
decision_stays role names input more output Going used ne c = absurd (ne refl)
decision_stays Listener names input more output (Agreed index) used ne c = agreed_stays names input more output index used c
decision_stays Listener names input more output NoneLeft used ne c = absurd c
decision_stays Dialer names input more output (Agreed index) used ne c = agreed_dial_stays names input more output index used c
decision_stays Dialer names input more output NoneLeft used ne c = none_left_stays names input more output used c
