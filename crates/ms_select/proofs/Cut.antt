-- A talk that is decided is decided by the bytes that it used; a fault and a decision stay when bytes are added.
use Rattle.std.proofs.Common.{◌≡◌, ℕ, zero, suc, ◌+◌, List, [], ◌∷◌, ◌++◌, length, take, refl, sym, ap, ◌∙◌, subst, append_assoc, add-one, arith}
use Rattle.std.specs.Prelude.{Result, Ok, Err}
use Rattle.std.proofs.lemmas.List.{append-nil}
use Rattle.varint_proto.proofs.Lists.{used_front, no_rest}
use Rattle.ms_select.specs.declared.answer.Answer.{Answer}
use Rattle.ms_select.specs.declared.answer.Answer.TheVariants.{Going, Agreed, NoneLeft}
use Rattle.ms_select.specs.declared.fault.SelectFault.{SelectFault}
use Rattle.ms_select.specs.Messages.{message, spelled, header}
use Rattle.ms_select.specs.Listening.{Listens}
use Rattle.ms_select.specs.Dialing.{Dials, refused, proposals}
use Rattle.ms_select.specs.declared.verdict.Role.TheVariants.{Dialer, Listener}
use Rattle.ms_select.specs.Sides.{AnswersAsDefined}
use Rattle.ms_select.specs.Laws.{DecisionStays, FaultStays, NothingBehind, AskedAll}
use Rattle.ms_select.proofs.Staying.{fault_stays as refused_stays, decision_stays as stays}
use Rattle.ms_select.proofs.Feeding.{comes}

-- ---- what follows changes nothing

pub decision_stays : DecisionStays
decision_stays = record {
  listener = λ names input more answer used output decided l. stays Listener names input more output answer used decided l;
  dialer = λ names input more answer used output decided d. stays Dialer names input more output answer used decided d;
}

pub fault_stays : FaultStays
fault_stays = record {
  listener = λ names input more fault used output l. refused_stays Listener names input more output fault used l;
  dialer = λ names input more fault used output d. refused_stays Dialer names input more output fault used d;
}

-- ---- what was used decides

nothing_more : (first : List ℕ) → length first + 0 ≡ length first
nothing_more first = omega arith

listener_cut : (names : List (List ℕ)) (first rest : List ℕ) (standing : Result Answer SelectFault) (output : List ℕ)
    → Listens names (first ++ rest) standing (length first) output → Listens names first standing (length first) output
listener_cut names first rest (Ok Going) output l = subst (λ (t : List ℕ). Listens names t (Ok Going) (length first) output) (no_rest first rest l.4) l
listener_cut names first rest (Err fault) output l = subst (λ (t : List ℕ). Listens names t (Err fault) (length first) output) (no_rest first rest l.4) l
listener_cut names first rest (Ok NoneLeft) output l = absurd l
listener_cut names first rest (Ok (Agreed index)) output l =
    let front : List ℕ = spelled (header ∷ l.0) ++ message l.1 in
    let parts : first ++ rest ≡ front ++ l.2 = l.3.parts ∙ sym (append_assoc (spelled (header ∷ l.0)) (message l.1) l.2) in
    let is : first ≡ front = used_front first rest front l.2 parts l.5 in
    let whole : first ≡ spelled (header ∷ l.0) ++ (message l.1 ++ []) = is ∙ ap (λ t. spelled (header ∷ l.0) ++ t) (sym (append-nil (message l.1))) in
    (l.0, l.1, [], record { parts = whole; short = l.3.short; undecided = l.3.undecided }, l.4, nothing_more first, l.6)

dialer_cut : (names : List (List ℕ)) (first rest : List ℕ) (standing : Result Answer SelectFault) (output : List ℕ)
    → Dials names (first ++ rest) standing (length first) output → Dials names first standing (length first) output
dialer_cut names first rest (Ok Going) output d = subst (λ (t : List ℕ). Dials names t (Ok Going) (length first) output) (no_rest first rest d.4) d
dialer_cut names first rest (Err fault) output d = subst (λ (t : List ℕ). Dials names t (Err fault) (length first) output) (no_rest first rest d.4) d
dialer_cut names first rest (Ok (Agreed index)) output d =
    let front : List ℕ = spelled (header ∷ d.0) ++ message d.1 in
    let parts : first ++ rest ≡ front ++ d.2 = d.3.parts ∙ sym (append_assoc (spelled (header ∷ d.0)) (message d.1) d.2) in
    let is : first ≡ front = used_front first rest front d.2 parts d.5 in
    let whole : first ≡ spelled (header ∷ d.0) ++ (message d.1 ++ []) = is ∙ ap (λ t. spelled (header ∷ d.0) ++ t) (sym (append-nil (message d.1))) in
    (d.0, d.1, [], record { parts = whole; refusals = d.3.refusals }, d.4, nothing_more first, d.6)
dialer_cut names first rest (Ok NoneLeft) output d =
    let is : first ≡ spelled d.0 = used_front first rest (spelled d.0) d.1 d.2.parts d.4 in
    (d.0, [], record { parts = is ∙ sym (append-nil (spelled d.0)); refusals = d.2.refusals }, d.3, nothing_more first, d.5)

pub nothing_behind : NothingBehind
nothing_behind = record { listener = listener_cut; dialer = dialer_cut }

-- ---- standings

pub answers_as_defined : AnswersAsDefined
answers_as_defined x input used taken answer e s = comes x input used taken answer e s

-- ---- one name

take_none : (k : ℕ) → take {A = List ℕ} k [] ≡ []
take_none zero = refl
take_none (suc k) = refl

one_proposal : (name : List ℕ) (count : ℕ) → proposals (name ∷ []) count ≡ spelled (header ∷ name ∷ [])
one_proposal name count =
    let behind : take (count + 1) (name ∷ []) ≡ name ∷ [] = rw (add-one count) (ap (λ (names : List (List ℕ)). name ∷ names) (take_none count)) in
    ap (λ (names : List (List ℕ)). spelled (header ∷ names)) behind

pub asked_all : AskedAll
asked_all name input (Ok Going) used output d = d.5 ∙ one_proposal name (refused d.0)
asked_all name input (Ok (Agreed index)) used output d = d.6 ∙ one_proposal name index
asked_all name input (Ok NoneLeft) used output d = d.5 ∙ one_proposal name 1
asked_all name input (Err fault) used output d = d.5 ∙ one_proposal name (refused d.0)
