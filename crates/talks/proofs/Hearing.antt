-- What a talk makes of a piece, by what its negotiation makes of it.
use Rattle.std.proofs.Common.{◌≡◌, ◌≢◌, ℕ, ◌+◌, List, ◌++◌, length, take, Option, Some, None, Result, Ok, Err, refl, sym, ap, ◌∙◌, subst, arith}
use Rattle.std.proofs.Math.Seq.{take-append-add, take-length}
use Rattle.std.proofs.lemmas.List.{append-nil, length-append}
use Rattle.ms_select.specs.declared.answer.Answer.{Answer}
use Rattle.ms_select.specs.declared.answer.Answer.TheVariants.{Going, Agreed, NoneLeft}
use Rattle.ms_select.specs.declared.answer.Step.{Step}
use Rattle.ms_select.specs.declared.fault.SelectFault.{SelectFault}
use Rattle.ms_select.specs.declared.fault.SelectFault.TheVariants.{OutOfMemory}
use Rattle.ms_select.specs.Sides.{Negotiating, Stands as NegotiationStands}
use Rattle.talks.specs.Talks.{Side, Answers, role_of, names_of, Talks, Faults, IsDecided, ComesTo}
use Rattle.talks.specs.State.{Talking, StandsWith, Stands, used_of, answer_of}
use Rattle.talks.specs.Fields.{told, told_if, told_step, talking}
use Rattle.talks.specs.Hearing.{Fed, Hears}
use Rattle.talks.proofs.Outcomes.{from_comes, comes_to, one_outcome, by_all}

-- ---- what is told says what the negotiation answers

abbrev some : Answer → Option Answer
some answer = Some answer

abbrev went : Step → Result Step SelectFault
went step = Ok step

abbrev refused : SelectFault → Result Step SelectFault
refused fault = Err fault

abbrev first_step : Answer → Result Step SelectFault
first_step answer = Ok (record { used = 0; answer = answer })

same_some : (a b : Answer) → some a ≡ some b → a ≡ b
same_some a b e = cc

pub going_told : (side : Side) (a : Answer) → told side a ≡ Going → a ≡ Going
going_told side Going e = refl
going_told side (Agreed i) e = absurd cc
going_told side NoneLeft e = absurd cc

pub going_of : (side : Side) (a : Option Answer) → told_if side a ≡ Some Going → a ≡ Some Going
going_of side None e = absurd cc
going_of side (Some a) e = ap some (going_told side a (same_some (told side a) Going e))

failed_of : (side : Side) (a : Option Answer) → told_if side a ≡ None → a ≡ None
failed_of side None e = refl
failed_of side (Some a) e = absurd cc

decided_of : (side : Side) (a : Option Answer) (answer : Answer) → told_if side a ≡ Some answer → answer ≢ Going
    → (b : Answer) × (a ≡ Some b) × (b ≢ Going) × (told side b ≡ answer)
decided_of side None answer e ne = absurd cc
decided_of side (Some b) answer e ne =
    let same : told side b ≡ answer = same_some (told side b) answer e in
    (b, refl, (λ g. ne (sym same ∙ ap (told side) g)), same)

-- ---- where the talk stands

-- while nothing is decided, its negotiation stands at all of the input
pub going_stands : (side : Side) (x : Negotiating) (input taken : List ℕ) → x.answer ≡ Some Going → Stands (talking side x) input taken
    → NegotiationStands x input (length input) taken
going_stands side x input taken e s = (subst (λ (a : Option Answer). StandsWith (told_if side a) (talking side x) input taken) e s).1

stands_with : (x : Talking) (input taken : List ℕ) (answer : Answer) → Talks x.side input (Ok answer) (taken ++ x.pending)
    → (answer ≡ Going → NegotiationStands x.negotiating input (length input) taken) → StandsWith (Some answer) x input taken
stands_with x input taken Going t s = (t, s refl)
stands_with x input taken (Agreed i) t s = t
stands_with x input taken NoneLeft t s = t

-- What a decided talk comes to by more.
again : (side : Side) (input piece taken : List ℕ) (a : Answer) (used : ℕ) (b : Answer) (pending then : List ℕ) → used ≡ 0 → b ≡ a → then ≡ pending
    → IsDecided (Ok (told side a)) → Talks side input (Ok (told side a)) (taken ++ pending)
    → ComesTo side (input ++ piece) (input ++ take used piece) (Ok (told side b)) (taken ++ then)
again side input piece taken a used b pending then z same kept d t =
    let none : input ++ take used piece ≡ input = ap (λ n. input ++ take n piece) z ∙ append-nil input in
    let e : ComesTo side (input ++ piece) input (Ok (told side a)) (taken ++ pending) = record { rest = piece; input_is = refl; talks = t; all = λ no. absurd (no d) } in
    let f = subst (λ (t : List ℕ). ComesTo side (input ++ piece) t (Ok (told side a)) (taken ++ pending)) (sym none) e in
    let g = subst (λ (c : Answer). ComesTo side (input ++ piece) (input ++ take used piece) (Ok (told side c)) (taken ++ pending)) (sym same) f in
    subst (λ (p : List ℕ). ComesTo side (input ++ piece) (input ++ take used piece) (Ok (told side b)) (taken ++ p)) (sym kept) g

-- What a talk comes to by a piece that its negotiation takes.
came : (side : Side) (old new : Negotiating) (piece : List ℕ) (step : Step) → Fed (role_of side) (names_of side) old new piece (Ok step) → (input taken : List ℕ) (a : Option Answer)
    → old.answer ≡ a → StandsWith (told_if side a) (talking side old) input taken
    → ComesTo side (input ++ piece) (input ++ take step.used piece) (Ok (told side step.answer)) (taken ++ new.pending)
came side old new piece step fed input taken None e s = let wrong = (fed.failed e).0 in absurd cc
came side old new piece step fed input taken (Some Going) e s =
    let c = comes_to side (input ++ piece) (Ok step.answer) (length input + step.used) (taken ++ new.pending) (fed.comes input (length input) taken s.1) in
    subst (λ (t : List ℕ). ComesTo side (input ++ piece) t (Ok (told side step.answer)) (taken ++ new.pending)) (take-append-add input piece step.used) c
came side old new piece step fed input taken (Some (Agreed i)) e s =
    let d = fed.decided (Agreed i) e (λ g. cc) in
    let same : step ≡ record { used = 0; answer = Agreed i } = cc d.0 in
    again side input piece taken (Agreed i) step.used step.answer old.pending new.pending (ap (λ (t : Step). t.used) same) (ap (λ (t : Step). t.answer) same) (ap (λ (x : Negotiating). x.pending) d.1) tt s
came side old new piece step fed input taken (Some NoneLeft) e s =
    let d = fed.decided NoneLeft e (λ g. cc) in
    let same : step ≡ record { used = 0; answer = NoneLeft } = cc d.0 in
    again side input piece taken NoneLeft step.used step.answer old.pending new.pending (ap (λ (t : Step). t.used) same) (ap (λ (t : Step). t.answer) same) (ap (λ (x : Negotiating). x.pending) d.1) tt s

-- While nothing is decided its negotiation goes on.
goes_on : (side : Side) (old new : Negotiating) (piece : List ℕ) (step : Step) → Fed (role_of side) (names_of side) old new piece (Ok step) → (input taken : List ℕ) (a : Option Answer)
    → old.answer ≡ a → StandsWith (told_if side a) (talking side old) input taken → step.answer ≡ Going
    → NegotiationStands new (input ++ take step.used piece) (length (input ++ take step.used piece)) taken
goes_on side old new piece step fed input taken None e s going = let wrong = (fed.failed e).0 in absurd cc
goes_on side old new piece step fed input taken (Some Going) e s going =
    let all : step.used ≡ length piece = fed.all_used going in
    let is : take step.used piece ≡ piece = ap (λ n. take n piece) all ∙ take-length piece in
    let sum : length input + step.used ≡ length (input ++ piece) = omega (arith, all, length-append input piece) in
    let h = subst (λ (n : ℕ). NegotiationStands new (input ++ piece) n taken) sum (fed.stands input (length input) taken s.1) in
    subst (λ (t : List ℕ). NegotiationStands new (input ++ t) (length (input ++ t)) taken) (sym is) h
goes_on side old new piece step fed input taken (Some (Agreed i)) e s going =
    let d = fed.decided (Agreed i) e (λ g. cc) in
    let same : step ≡ record { used = 0; answer = Agreed i } = cc d.0 in
    let wrong : Agreed i ≡ Going = sym (ap (λ (t : Step). t.answer) same) ∙ going in
    absurd cc
goes_on side old new piece step fed input taken (Some NoneLeft) e s going =
    let d = fed.decided NoneLeft e (λ g. cc) in
    let same : step ≡ record { used = 0; answer = NoneLeft } = cc d.0 in
    let wrong : NoneLeft ≡ Going = sym (ap (λ (t : Step). t.answer) same) ∙ going in
    absurd cc

-- ---- both outcomes

hears_step : (side : Side) (old new : Negotiating) (piece : List ℕ) (step : Step) → Fed (role_of side) (names_of side) old new piece (Ok step)
    → Hears (talking side old) (talking side new) piece (told_step side (Ok step))
hears_step side old new piece step fed = record {
  side = refl;
  decided = λ answer e ne.
      let d = decided_of side old.answer answer e ne in
      let f = fed.decided d.0 d.1 d.2 in (ap (told_step side) f.0 ∙ ap first_step d.3, ap (talking side) f.1);
  failed = λ e. let wrong = (fed.failed (failed_of side old.answer e)).0 in absurd cc;
  answer = ap (told_if side) fed.answer;
  fails = tt;
  within = fed.within;
  all_used = λ e. fed.all_used (going_told side step.answer e);
  stands = λ input taken s.
      let c = came side old new piece step fed input taken old.answer refl s in
      let t = stands_with (talking side new) (input ++ take step.used piece) taken (told side step.answer) c.talks
      (λ e. goes_on side old new piece step fed input taken old.answer refl s (going_told side step.answer e)) in
      subst (λ (a : Option Answer). StandsWith (told_if side a) (talking side new) (input ++ take step.used piece) taken) (sym fed.answer) t;
  talks = λ input taken s. (came side old new piece step fed input taken old.answer refl s).talks;
  fault = λ going input taken s. tt;
  memory = λ going input taken s e. absurd cc;
  only = λ going input taken s first standing output c ne.
      one_outcome side (input ++ piece) first (input ++ take step.used piece) standing (Ok (told side step.answer)) output (taken ++ new.pending) c
      (came side old new piece step fed input taken old.answer refl s);
}

-- a fault of the negotiation is one of the talk
faulty : (side : Side) (old new : Negotiating) (piece : List ℕ) (fault : SelectFault) → Fed (role_of side) (names_of side) old new piece (Err fault)
    → told_if side old.answer ≡ Some Going → (input taken : List ℕ) → Stands (talking side old) input taken → fault ≢ OutOfMemory
    → Faults side (input ++ piece) fault (taken ++ new.pending)
faulty side old new piece fault fed going input taken s ne =
    let waits = going_of side old.answer going in
    from_comes side (input ++ piece) (Err fault) (taken ++ new.pending) (fed.fault waits input (length input) taken (going_stands side old input taken waits s) ne)

hears_fault : (side : Side) (old new : Negotiating) (piece : List ℕ) (fault : SelectFault) → Fed (role_of side) (names_of side) old new piece (Err fault)
    → Hears (talking side old) (talking side new) piece (told_step side (Err fault))
hears_fault side old new piece fault fed = record {
  side = refl;
  decided = λ answer e ne.
      let d = decided_of side old.answer answer e ne in
      let wrong = (fed.decided d.0 d.1 d.2).0 in absurd cc;
  failed = λ e. let f = fed.failed (failed_of side old.answer e) in (f.0, ap (talking side) f.1);
  answer = tt;
  fails = ap (told_if side) fed.fails;
  within = tt;
  all_used = tt;
  stands = λ input taken s. tt;
  talks = λ input taken s. tt;
  fault = λ going input taken s ne. faulty side old new piece fault fed going input taken s ne;
  memory = λ going input taken s e.
      let waits = going_of side old.answer going in
      fed.memory waits input (length input) taken (going_stands side old input taken waits s) e;
  only = λ going input taken s first standing output c ne.
      let t = faulty side old new piece fault fed going input taken s (λ e. ne (ap refused e)) in
      one_outcome side (input ++ piece) first (input ++ piece) standing (Err fault) output (taken ++ new.pending) c
      (by_all side (input ++ piece) (Err fault) (taken ++ new.pending) t);
}

pub hears : (side : Side) (old new : Negotiating) (piece : List ℕ) (result : Result Step SelectFault) → Fed (role_of side) (names_of side) old new piece result
    → Hears (talking side old) (talking side new) piece (told_step side result)
hears side old new piece (Ok step) fed = hears_step side old new piece step fed
hears side old new piece (Err fault) fed = hears_fault side old new piece fault fed

-- ---- an end that answers tells what its negotiation answers

told_answer : (names : List (List ℕ)) (answer : Answer) → told (Answers names) answer ≡ answer
told_answer names Going = refl
told_answer names (Agreed i) = refl
told_answer names NoneLeft = refl

pub told_same : (names : List (List ℕ)) (result : Result Step SelectFault) → told_step (Answers names) result ≡ result
told_same names (Ok step) = ap (λ (a : Answer). went (record { used = step.used; answer = a })) (told_answer names step.answer)
told_same names (Err fault) = refl

-- ---- what is heard by a value is heard by one that equals it

pub heard_as : (a b old : Talking) (pending piece : List ℕ) (r result : Result Step SelectFault) → Hears a b piece r → a ≡ old → b.pending ≡ pending → r ≡ result
    → old.answer ≡ Some Going → (input taken : List ℕ) → Stands old input taken → (first : List ℕ) (standing : Result Answer SelectFault) (output : List ℕ)
    → ComesTo old.side (input ++ piece) first standing output → result ≢ Err OutOfMemory
    → (first ≡ input ++ used_of result piece) × (standing ≡ answer_of result) × (output ≡ taken ++ pending)
heard_as a b old pending piece r result h is kept same going input taken s first standing output c ne =
    let back : old ≡ a = sym is in
    let o = h.only (ap (λ (x : Talking). x.answer) is ∙ going) input taken (subst (λ (x : Talking). Stands x input taken) back s) first standing output
    (subst (λ (x : Talking). ComesTo x.side (input ++ piece) first standing output) back c) (λ e. ne (sym same ∙ e)) in (
      o.0 ∙ ap (λ (q : Result Step SelectFault). input ++ used_of q piece) same,
      o.1 ∙ ap answer_of same,
      o.2 ∙ ap (λ (p : List ℕ). taken ++ p) kept,
    )
