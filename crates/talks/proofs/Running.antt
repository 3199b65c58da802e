-- A whole talk, piece by piece.
use Rattle.std.proofs.Common.{◌≡◌, ◌≢◌, ℕ, List, [], ◌++◌, length, take, drop, Some, Result, Ok, refl, sym, ap, ◌∙◌, subst, append_assoc, arith}
use Rattle.std.proofs.lemmas.List.{append-nil, take-append-drop, drop_all}
use Rattle.ms_select.specs.declared.answer.Answer.{Answer}
use Rattle.ms_select.specs.declared.answer.Answer.TheVariants.{Going, Agreed, NoneLeft}
use Rattle.ms_select.specs.declared.answer.Step.{Step}
use Rattle.ms_select.specs.declared.fault.SelectFault.{SelectFault}
use Rattle.talks.specs.Talks.{Side, Talks, IsDecided, ComesTo, Faults}
use Rattle.talks.specs.State.{Talking, Stands}
use Rattle.talks.proofs.Outcomes.{by_all, answers_as_defined, decided, fault_stays}

abbrev went : Step → Result Step SelectFault
went step = Ok step

same_step : (a b : Step) → went a ≡ went b → a ≡ b
same_step a b e = cc

-- a talk that has heard nothing
pub fresh_comes : (x : Talking) → x.answer ≡ Some Going → Stands x [] [] → ComesTo x.side [] [] (Ok Going) x.pending
fresh_comes x e s = by_all x.side [] (Ok Going) x.pending (answers_as_defined x [] [] Going e s)

-- while nothing is decided, all of the input is the talk's
pub all_heard : (side : Side) (input first : List ℕ) (output : List ℕ) → ComesTo side input first (Ok Going) output → input ≡ first
all_heard side input first output c = c.input_is ∙ ap (λ (t : List ℕ). first ++ t) (c.all (λ d. d)) ∙ append-nil first

undecided : (answer : Answer) → ¬ IsDecided (Ok answer) → answer ≡ Going
undecided Going none = refl
undecided (Agreed i) none = absurd (none tt)
undecided NoneLeft none = absurd (none tt)

going_more : (side : Side) (first piece : List ℕ) (step : Step) (more : List ℕ) → Talks side (first ++ take step.used piece) (Ok step.answer) more
    → (step.answer ≡ Going → step.used ≡ length piece) → ComesTo side (first ++ piece) (first ++ take step.used piece) (Ok step.answer) more
going_more side first piece step more t all_used = record {
  rest = drop step.used piece;
  input_is = ap (λ (t : List ℕ). first ++ t) (sym (take-append-drop step.used piece)) ∙ sym (append_assoc first (take step.used piece) (drop step.used piece));
  talks = t;
  all = λ no. let all : step.used ≡ length piece = all_used (undecided step.answer no) in drop_all step.used piece (omega arith);
}

decided_more : (side : Side) (input first piece : List ℕ) (answer : Answer) (step : Step) (pending more : List ℕ) → answer ≢ Going → ComesTo side input first (Ok answer) pending
    → Talks side (first ++ take step.used piece) (Ok step.answer) more → step ≡ record { used = 0; answer = answer }
    → ComesTo side (input ++ piece) (first ++ take step.used piece) (Ok step.answer) more
decided_more side input first piece answer step pending more ne c t same =
    let none : first ++ take step.used piece ≡ first = ap (λ (s : Step). first ++ take s.used piece) same ∙ append-nil first in
    record {
      rest = c.rest ++ piece;
      input_is = ap (λ (t : List ℕ). t ++ piece) c.input_is ∙ append_assoc first c.rest piece ∙ ap (λ (t : List ℕ). t ++ (c.rest ++ piece)) (sym none);
      talks = t;
      all = λ no. absurd (no (subst (λ (s : Step). IsDecided (Ok s.answer)) (sym same) (decided answer ne)));
    }

-- What a talk comes to by one piece more.
pub one_more : (side : Side) (input first piece : List ℕ) (answer : Answer) (step : Step) (pending more : List ℕ) → ComesTo side input first (Ok answer) pending
    → Talks side (first ++ take step.used piece) (Ok step.answer) more → (step.answer ≡ Going → step.used ≡ length piece)
    → (answer ≢ Going → went step ≡ Ok (record { used = 0; answer = answer }))
    → ComesTo side (input ++ piece) (first ++ take step.used piece) (Ok step.answer) more
one_more side input first piece Going step pending more c t all_used same =
    subst (λ (i : List ℕ). ComesTo side (i ++ piece) (first ++ take step.used piece) (Ok step.answer) more) (sym (all_heard side input first pending c)) (going_more side first piece step more t all_used)
one_more side input first piece (Agreed i) step pending more c t all_used same =
    decided_more side input first piece (Agreed i) step pending more (λ e. cc) c t (same_step step (record { used = 0; answer = Agreed i }) (same (λ e. cc)))
one_more side input first piece NoneLeft step pending more c t all_used same =
    decided_more side input first piece NoneLeft step pending more (λ e. cc) c t (same_step step (record { used = 0; answer = NoneLeft }) (same (λ e. cc)))

-- So a talk goes on by one piece more.
pub step_on : (old new : Talking) (input first piece whole : List ℕ) (answer : Answer) (step : Step) → Stands new (first ++ take step.used piece) []
    → Talks old.side (first ++ take step.used piece) (Ok step.answer) new.pending → input ++ piece ≡ whole → new.side ≡ old.side
    → ComesTo old.side input first (Ok answer) old.pending → (step.answer ≡ Going → step.used ≡ length piece)
    → (answer ≢ Going → went step ≡ Ok (record { used = 0; answer = answer }))
    → (front : List ℕ) × Stands new front [] × ComesTo new.side whole front (Ok step.answer) new.pending
step_on old new input first piece whole answer step s t e side c all_used same =
    let front : List ℕ = first ++ take step.used piece in
    let more = one_more old.side input first piece answer step old.pending new.pending c t all_used same in
    let here = subst (λ (i : List ℕ). ComesTo old.side i front (Ok step.answer) new.pending) e more in
    (front, s, subst (λ (x : Side). ComesTo x whole front (Ok step.answer) new.pending) (sym side) here)

pub came_as : (a b : Side) (input whole first : List ℕ) (answer : Answer) (pending output : List ℕ) → a ≡ b → input ≡ whole → output ≡ pending
    → ComesTo a input first (Ok answer) pending → ComesTo b whole first (Ok answer) output
came_as a b input whole first answer pending output side e kept c =
    let x = subst (λ (x : Side). ComesTo x input first (Ok answer) pending) side c in
    let y = subst (λ (i : List ℕ). ComesTo b i first (Ok answer) pending) e x in
    subst (λ (p : List ℕ). ComesTo b whole first (Ok answer) p) (sym kept) y

-- A fault by one piece more is one of all that follows.
pub fault_on : (a b : Side) (input first piece behind whole : List ℕ) (answer : Answer) (pending : List ℕ) (fault : SelectFault) (output : List ℕ)
    → Faults a (first ++ piece) fault output → (input ++ piece) ++ behind ≡ whole → a ≡ b → answer ≡ Going → ComesTo a input first (Ok answer) pending
    → Faults b whole fault output
fault_on a b input first piece behind whole answer pending fault output f e side going c =
    let here = subst (λ (answer : Answer). ComesTo a input first (Ok answer) pending) going c in
    let is : input ≡ first = all_heard a input first pending here in
    let near = subst (λ (i : List ℕ). Faults a (i ++ piece) fault output) (sym is) f in
    let all = fault_stays a (input ++ piece) behind fault output near in
    subst (λ (x : Side). Faults x whole fault output) side (subst (λ (i : List ℕ). Faults a i fault output) e all)
