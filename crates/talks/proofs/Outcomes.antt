-- A talk is a side of a negotiation: what holds of that holds of a talk.
use Rattle.std.proofs.Common.{◌≡◌, ◌≢◌, ℕ, ◌<◌, ◌≤◌, List, [], ◌∷◌, ◌++◌, length, take, drop, Some, Result, Ok, Err, refl, sym, ap, ◌∙◌, subst, append_assoc, arith}
use Rattle.std.specs.Prelude.{slice_get, slice_index}
use Rattle.std.proofs.lemmas.List.{append-nil, length-append, length-take-le, take-append-drop, drop_all, nil_from_length}
use Rattle.std.proofs.lemmas.Option.{slice_get_within}
use Rattle.varint_proto.proofs.Lists.{same_parts}
use Rattle.ms_select.specs.declared.answer.Answer.{Answer}
use Rattle.ms_select.specs.declared.answer.Answer.TheVariants.{Going, Agreed, NoneLeft}
use Rattle.ms_select.specs.declared.fault.SelectFault.{SelectFault}
use Rattle.ms_select.specs.declared.verdict.Role.{Role}
use Rattle.ms_select.specs.declared.verdict.Role.TheVariants.{Dialer, Listener}
use Rattle.ms_select.specs.Dialing.{Dials}
use Rattle.ms_select.specs.Sides.{Comes}
use Rattle.ms_select.proofs.Staying.{decision_stays as stays, fault_stays as refused_stays}
use Rattle.ms_select.proofs.Cut.{nothing_behind as cut, asked_all as dialer_asked_all}
use Rattle.ms_select.proofs.Readings.{one_listener_of, one_dialer_of}
use Rattle.ms_select.proofs.SomeTalk.{some_listener, some_dialer}
use Rattle.talks.specs.Talks.{Side, Asks, Answers, role_of, names_of, Talks, IsDecided, ComesTo}
use Rattle.talks.specs.State.{Talking, StandsWith}
use Rattle.talks.specs.Fields.{told_standing}
use Rattle.talks.specs.Laws.{OneOutcome, SomeOutcome, DecisionStays, FaultStays, NothingBehind, AnswersAsDefined, AskedAll}

-- ---- of a negotiation

abbrev Outcome : Type 0
Outcome = Result Answer SelectFault

one_comes : (role : Role) (names : List (List ℕ)) (input : List ℕ) (a b : Outcome) (used more : ℕ) (output other : List ℕ)
    → Comes role names input a used output → Comes role names input b more other → (a ≡ b) × (used ≡ more) × (output ≡ other)
one_comes Listener names input a b used more output other c d = one_listener_of names input a b used more output other c d
one_comes Dialer names input a b used more output other c d = one_dialer_of names input a b used more output other c d

some_comes : (role : Role) (names : List (List ℕ)) (input : List ℕ) → ((i : ℕ) → slice_index input i < 256)
    → (standing : Outcome) × (used : ℕ) × (output : List ℕ) × Comes role names input standing used output
some_comes Listener names input bytes = some_listener names input bytes
some_comes Dialer names input bytes = some_dialer names input bytes

comes_cut : (role : Role) (names : List (List ℕ)) (first rest : List ℕ) (s : Outcome) (output : List ℕ)
    → Comes role names (first ++ rest) s (length first) output → Comes role names first s (length first) output
comes_cut Listener names first rest s output c = cut.listener names first rest s output c
comes_cut Dialer names first rest s output c = cut.dialer names first rest s output c

-- all of the input is used where nothing is decided, and else a front of it
used_within : (role : Role) (names : List (List ℕ)) (input : List ℕ) (s : Outcome) (used : ℕ) (output : List ℕ)
    → Comes role names input s used output → (used ≤ length input) × (¬ IsDecided s → used ≡ length input)
used_within Listener names input (Ok Going) used output c = (omega (arith, c.4), λ no. c.4)
used_within Listener names input (Ok (Agreed i)) used output c = (omega (arith, c.5), λ no. absurd (no tt))
used_within Listener names input (Ok NoneLeft) used output c = absurd c
used_within Listener names input (Err fault) used output c = (omega (arith, c.4), λ no. c.4)
used_within Dialer names input (Ok Going) used output c = (omega (arith, c.4), λ no. c.4)
used_within Dialer names input (Ok (Agreed i)) used output c = (omega (arith, c.5), λ no. absurd (no tt))
used_within Dialer names input (Ok NoneLeft) used output c = (omega (arith, c.4), λ no. absurd (no tt))
used_within Dialer names input (Err fault) used output c = (omega (arith, c.4), λ no. c.4)

-- ---- a talk and its negotiation

-- where the negotiation of a talk stands
abbrev place_of : Side → ℕ → ℕ
place_of (Asks name index) i = 0
place_of (Answers names) i = i

abbrev placed : Side → Outcome → Outcome
placed side (Ok Going) = Ok Going
placed side (Ok (Agreed i)) = Ok (Agreed (place_of side i))
placed side (Ok NoneLeft) = Ok NoneLeft
placed side (Err fault) = Err fault

abbrev agreed_on : ℕ → Outcome
agreed_on i = Ok (Agreed i)

as_comes : (side : Side) (input : List ℕ) (s : Outcome) (output : List ℕ) → Talks side input s output
    → Comes (role_of side) (names_of side) input (placed side s) (length input) output
as_comes (Asks name index) input (Ok Going) output t = t
as_comes (Asks name index) input (Ok (Agreed i)) output t = t.1
as_comes (Asks name index) input (Ok NoneLeft) output t = t
as_comes (Asks name index) input (Err fault) output t = t
as_comes (Answers names) input (Ok Going) output t = t
as_comes (Answers names) input (Ok (Agreed i)) output t = t
as_comes (Answers names) input (Ok NoneLeft) output t = t
as_comes (Answers names) input (Err fault) output t = t

is_told : (side : Side) (input : List ℕ) (s : Outcome) (output : List ℕ) → Talks side input s output → s ≡ told_standing side (placed side s)
is_told side input (Ok Going) output t = refl
is_told (Asks name index) input (Ok (Agreed i)) output t = ap agreed_on t.0
is_told (Answers names) input (Ok (Agreed i)) output t = refl
is_told side input (Ok NoneLeft) output t = refl
is_told side input (Err fault) output t = refl

only_name : (name : List ℕ) (i : ℕ) (found : List ℕ) → slice_get (name ∷ []) i ≡ Some found → i ≡ 0
only_name name i found e = let h = slice_get_within (name ∷ []) i found e in omega arith

pub from_comes : (side : Side) (input : List ℕ) (s : Outcome) (output : List ℕ)
    → Comes (role_of side) (names_of side) input s (length input) output → Talks side input (told_standing side s) output
from_comes (Asks name index) input (Ok Going) output c = c
from_comes (Asks name index) input (Ok (Agreed i)) output c =
    (refl, subst (λ (j : ℕ). Dials (name ∷ []) input (Ok (Agreed j)) (length input) output) (only_name name i c.1 c.4.proposed) c)
from_comes (Asks name index) input (Ok NoneLeft) output c = c
from_comes (Asks name index) input (Err fault) output c = c
from_comes (Answers names) input (Ok Going) output c = c
from_comes (Answers names) input (Ok (Agreed i)) output c = c
from_comes (Answers names) input (Ok NoneLeft) output c = c
from_comes (Answers names) input (Err fault) output c = c

told_decided : (side : Side) (s : Outcome) → IsDecided s → IsDecided (told_standing side s)
told_decided side (Ok Going) d = d
told_decided side (Ok (Agreed i)) d = tt
told_decided side (Ok NoneLeft) d = tt
told_decided side (Err fault) d = d

-- what a negotiation comes to by an input
pub comes_to : (side : Side) (input : List ℕ) (s : Outcome) (used : ℕ) (output : List ℕ)
    → Comes (role_of side) (names_of side) input s used output → ComesTo side input (take used input) (told_standing side s) output
comes_to side input s used output c =
    let role = role_of side in
    let names = names_of side in
    let first : List ℕ = take used input in
    let rest : List ℕ = drop used input in
    let within = used_within role names input s used output c in
    let size : length first ≡ used = length-take-le used input within.0 in
    let parts : first ++ rest ≡ input = take-append-drop used input in
    let counted = subst (λ (n : ℕ). Comes role names input s n output) (sym size) c in
    let whole = subst (λ (t : List ℕ). Comes role names t s (length first) output) (sym parts) counted in
    record {
      rest = rest;
      input_is = sym parts;
      talks = from_comes side first s output (comes_cut role names first rest s output whole);
      all = λ no. let all : used ≡ length input = within.1 (λ d. no (told_decided side s d)) in drop_all used input (omega arith);
    }

-- and the way back
pub whole : (side : Side) (input first : List ℕ) (s : Outcome) (output : List ℕ) → ComesTo side input first s output
    → Comes (role_of side) (names_of side) input (placed side s) (length first) output
whole side input first s output c =
    let role = role_of side in
    let names = names_of side in
    let here = as_comes side first s output c.talks in
    subst (λ (t : List ℕ). Comes role names t (placed side s) (length first) output) (sym c.input_is) (longer side first c.rest s output c.all here)
  where
    undecided : (side : Side) (first rest : List ℕ) (s : Outcome) (output : List ℕ) → rest ≡ []
        → Comes (role_of side) (names_of side) first s (length first) output → Comes (role_of side) (names_of side) (first ++ rest) s (length first) output
    undecided side first rest s output e h =
        let is : first ++ rest ≡ first = ap (λ (t : List ℕ). first ++ t) e ∙ append-nil first in
        subst (λ (t : List ℕ). Comes (role_of side) (names_of side) t s (length first) output) (sym is) h

    longer : (side : Side) (first rest : List ℕ) (s : Outcome) (output : List ℕ) → (¬ IsDecided s → rest ≡ [])
        → Comes (role_of side) (names_of side) first (placed side s) (length first) output
        → Comes (role_of side) (names_of side) (first ++ rest) (placed side s) (length first) output
    longer side first rest (Ok Going) output all h = undecided side first rest (Ok Going) output (all (λ d. d)) h
    longer side first rest (Ok (Agreed i)) output all h =
        stays (role_of side) (names_of side) first rest output (Agreed (place_of side i)) (length first) (λ e. cc) h
    longer side first rest (Ok NoneLeft) output all h = stays (role_of side) (names_of side) first rest output NoneLeft (length first) (λ e. cc) h
    longer side first rest (Err fault) output all h = undecided side first rest (Err fault) output (all (λ d. d)) h

-- ---- one outcome, and some

pub one_outcome : OneOutcome
one_outcome side input first other a b output more c d =
    let e = one_comes (role_of side) (names_of side) input (placed side a) (placed side b) (length first) (length other) output more (whole side input first a output c) (whole side input other b more d) in
    let fronts = same_parts first other c.rest d.rest e.1 (sym c.input_is ∙ d.input_is) in
    (fronts.0, is_told side first a output c.talks ∙ ap (told_standing side) e.0 ∙ sym (is_told side other b more d.talks), e.2)

pub some_outcome : SomeOutcome
some_outcome side input bytes =
    let c = some_comes (role_of side) (names_of side) input bytes in
    (take c.1 input, told_standing side c.0, c.2, comes_to side input c.0 c.1 c.2 c.3)

-- ---- what follows changes nothing

abbrev ok_answer : Answer → Outcome
ok_answer answer = Ok answer

pub decided : (answer : Answer) → answer ≢ Going → IsDecided (ok_answer answer)
decided Going ne = absurd (ne refl)
decided (Agreed i) ne = tt
decided NoneLeft ne = tt

pub decision_stays : DecisionStays
decision_stays side input first more answer output ne c = record {
  rest = c.rest ++ more;
  input_is = ap (λ (t : List ℕ). t ++ more) c.input_is ∙ append_assoc first c.rest more;
  talks = c.talks;
  all = λ no. absurd (no (decided answer ne));
}

pub fault_stays : FaultStays
fault_stays side input more fault output t =
    from_comes side (input ++ more) (Err fault) output (refused_stays (role_of side) (names_of side) input more output fault (length input) (as_comes side input (Err fault) output t))

-- a talk comes to what it is by all of an input
pub by_all : (side : Side) (input : List ℕ) (s : Outcome) (output : List ℕ) → Talks side input s output → ComesTo side input input s output
by_all side input s output t = record { rest = []; input_is = sym (append-nil input); talks = t; all = λ no. refl }

none_more : (first more : List ℕ) → first ≡ first ++ more → more ≡ []
none_more first more e = nil_from_length more (omega (arith, ap length e, length-append first more))

pub nothing_behind : NothingBehind
nothing_behind side first more answer s output other ne t u =
    let front : ComesTo side (first ++ more) first (Ok answer) output = record { rest = more; input_is = refl; talks = t; all = λ no. absurd (no (decided answer ne)) } in
    none_more first more (one_outcome side (first ++ more) first (first ++ more) (Ok answer) s output other front (by_all side (first ++ more) s other u)).0

-- ---- standings

stands_as : (x : Talking) (input taken : List ℕ) (answer : Answer) → StandsWith (Some answer) x input taken → Talks x.side input (Ok answer) (taken ++ x.pending)
stands_as x input taken Going s = s.0
stands_as x input taken (Agreed i) s = s
stands_as x input taken NoneLeft s = s

pub answers_as_defined : AnswersAsDefined
answers_as_defined x input taken answer e s = stands_as x input taken answer (subst (λ a. StandsWith a x input taken) e s)

-- ---- one name

pub asked_all : AskedAll
asked_all name index input s output t = dialer_asked_all name input (placed (Asks name index) s) (length input) output (as_comes (Asks name index) input s output t)
