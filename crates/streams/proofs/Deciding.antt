-- What a stream answers while it talks hangs on its data alone.
use Rattle.std.proofs.Common.{◌≡◌, ℕ, ◌-◌, ◌≤◌, List, ◌++◌, length, take, Result, Ok, Err, refl, sym, ap, ◌∙◌, subst, append_assoc, arith}
use Rattle.std.proofs.lemmas.List.{append_cancel_left, length-append, length-take-le, take-append-le, take-append-drop}
use Rattle.std.proofs.Math.Seq.{take-append-add}
use Rattle.std.specs.Prelude.{drop}
use Rattle.ms_select.specs.declared.answer.Answer.{Answer}
use Rattle.ms_select.specs.declared.answer.Answer.TheVariants as answers
use Rattle.ms_select.specs.declared.fault.SelectFault.{SelectFault}
use Rattle.ms_select.specs.declared.fault.SelectFault.TheVariants as select_faults
use Rattle.talks.specs.Talks.{Side, Talks, IsTurnedDown, ComesTo}
use Rattle.talks.proofs.Outcomes.{one_outcome, by_all, fault_stays}
use Rattle.streams.specs.declared.heard.Heard.{Heard}
use Rattle.streams.specs.declared.heard.Heard.TheVariants.{Going, Agreed, Refused}
use Rattle.streams.specs.declared.stop.Cause.TheVariants.{Select, Handler, Reset, Ended}
use Rattle.streams.specs.declared.stop.Stop.{Stop}
use Rattle.streams.specs.declared.stop.Stop.TheVariants.{Broken, OutOfMemory}
use Rattle.streams.specs.Streams.{Past, HasAgreed}
use Rattle.streams.specs.Hearing.{Hears}
use Rattle.streams.specs.Laws.{OneAnswer, AnswerStays, CutAnywhere, OneSplit}

abbrev Outcome : Type 0
Outcome = Result Answer SelectFault

-- where the talk stands that a stream tells so
abbrev pub standing_of : Result Heard Stop → Outcome
standing_of (Ok Going) = Ok answers.Going
standing_of (Ok (Agreed index used)) = Ok (answers.Agreed index)
standing_of (Ok Refused) = Ok answers.NoneLeft
standing_of (Err (Broken (Select fault))) = Err fault
standing_of (Err (Broken (Handler fault))) = Err select_faults.Failed
standing_of (Err (Broken Reset)) = Err select_faults.Failed
standing_of (Err (Broken Ended)) = Err select_faults.Failed
standing_of (Err OutOfMemory) = Err select_faults.Failed

-- and what is told of it, where so many bytes of the piece are the talk's
abbrev pub told_of : Outcome → ℕ → Result Heard Stop
told_of (Ok answers.Going) used = Ok Going
told_of (Ok (answers.Agreed index)) used = Ok (Agreed index used)
told_of (Ok answers.NoneLeft) used = Ok Refused
told_of (Err fault) used = Err (Broken (Select fault))

pub record Comes (side : Side) (got piece : List ℕ) (answer : Result Heard Stop) (output : List ℕ) : Type 0 where
  pub first : List ℕ
  pub comes : ComesTo side (got ++ piece) first (standing_of answer) output
  pub told : answer ≡ told_of (standing_of answer) (length first - length got)

count_of : (got piece : List ℕ) (used : ℕ) → used ≤ length piece → used ≡ length (got ++ take used piece) - length got
count_of got piece used within = omega (arith, length-append got (take used piece), length-take-le used piece within)

comes_of : (side : Side) (got piece : List ℕ) (answer : Result Heard Stop) (output : List ℕ) → Hears side got piece answer output → Comes side got piece answer output
comes_of side got piece (Ok Going) output h = record { first = got ++ piece; comes = by_all side (got ++ piece) (Ok answers.Going) output h; told = refl }
comes_of side got piece (Ok (Agreed index used)) output h = record {
  first = got ++ take used piece;
  comes = record {
    rest = drop used piece;
    input_is = ap (λ (t : List ℕ). got ++ t) (sym (take-append-drop used piece)) ∙ sym (append_assoc got (take used piece) (drop used piece));
    talks = h.1;
    all = λ no. absurd (no tt);
  };
  told = ap (λ (n : ℕ). told_of (Ok (answers.Agreed index)) n) (count_of got piece used h.0);
}
comes_of side got piece (Ok Refused) output h = record {
  first = got ++ h.0;
  comes = record {
    rest = h.1;
    input_is = ap (λ (t : List ℕ). got ++ t) h.2 ∙ sym (append_assoc got h.0 h.1);
    talks = h.3;
    all = λ no. absurd (no tt);
  };
  told = refl;
}
comes_of side got piece (Err (Broken (Select fault))) output h =
    record { first = got ++ piece; comes = by_all side (got ++ piece) (Err fault) output h.1; told = refl }
comes_of side got piece (Err (Broken (Handler fault))) output h = absurd h
comes_of side got piece (Err (Broken Reset)) output h = absurd h
comes_of side got piece (Err (Broken Ended)) output h = absurd h
comes_of side got piece (Err OutOfMemory) output h = absurd h

pub one_answer : OneAnswer
one_answer side got piece a b output other h k =
    let c = comes_of side got piece a output h in
    let d = comes_of side got piece b other k in
    let e = one_outcome side (got ++ piece) c.first d.first (standing_of a) (standing_of b) output other c.comes d.comes in (
      c.told ∙ ap (λ (s : Outcome). told_of s (length c.first - length got)) e.1
          ∙ ap (λ (f : List ℕ). told_of (standing_of b) (length f - length got)) e.0 ∙ sym d.told,
      e.2,
    )

pub answer_stays : AnswerStays
answer_stays side got piece more (Ok Going) output ne h = absurd (ne refl)
answer_stays side got piece more (Ok (Agreed index used)) output ne h =
    let same : take used (piece ++ more) ≡ take used piece = take-append-le used piece more h.0 in (
      (let k = h.0 in omega (arith, length-append piece more)),
      subst (λ (t : List ℕ). Talks side (got ++ t) (Ok (answers.Agreed index)) output) (sym same) h.1,
    )
answer_stays side got piece more (Ok Refused) output ne h = (h.0, h.1 ++ more, ap (λ (t : List ℕ). t ++ more) h.2 ∙ append_assoc h.0 h.1 more, h.3)
answer_stays side got piece more (Err (Broken (Select fault))) output ne h =
    (h.0, subst (λ (t : List ℕ). Talks side t (Err fault) output) (append_assoc got piece more) (fault_stays side (got ++ piece) more fault output h.1))
answer_stays side got piece more (Err (Broken (Handler fault))) output ne h = absurd h
answer_stays side got piece more (Err (Broken Reset)) output ne h = absurd h
answer_stays side got piece more (Err (Broken Ended)) output ne h = absurd h
answer_stays side got piece more (Err OutOfMemory) output ne h = absurd h

pub cut_anywhere : CutAnywhere
cut_anywhere side got first second (Ok Going) output h = subst (λ (t : List ℕ). Talks side t (Ok answers.Going) output) (append_assoc got first second) h
cut_anywhere side got first second (Ok (Agreed index used)) output h = (
  (let k = h.0 in omega (arith, length-append first second)),
  subst (λ (t : List ℕ). Talks side t (Ok (answers.Agreed index)) output)
      (append_assoc got first (take used second) ∙ ap (λ (t : List ℕ). got ++ t) (sym (take-append-add first second used))) h.1,
)
cut_anywhere side got first second (Ok Refused) output h = (
  first ++ h.0,
  h.1,
  ap (λ (t : List ℕ). first ++ t) h.2 ∙ sym (append_assoc first h.0 h.1),
  subst (λ (t : List ℕ). IsTurnedDown side t output) (append_assoc got first h.0) h.3,
)
cut_anywhere side got first second (Err (Broken (Select fault))) output h =
    (h.0, subst (λ (t : List ℕ). Talks side t (Err fault) output) (append_assoc got first second) h.1)
cut_anywhere side got first second (Err (Broken (Handler fault))) output h = absurd h
cut_anywhere side got first second (Err (Broken Reset)) output h = absurd h
cut_anywhere side got first second (Err (Broken Ended)) output h = absurd h
cut_anywhere side got first second (Err OutOfMemory) output h = absurd h

-- ---- the split of the data

abbrev agreed : ℕ → Outcome
agreed index = Ok (answers.Agreed index)

comes_agreed : {H : Type 0} (past : Past H) (index : ℕ) (rest gave waiting : List ℕ) → (a : HasAgreed past index rest gave waiting)
    → ComesTo past.side past.got a.first (Ok (answers.Agreed index)) a.output
comes_agreed past index rest gave waiting a = record { rest = rest; input_is = a.got_is; talks = a.agrees; all = λ no. absurd (no tt) }

same_index : (i j : ℕ) → agreed i ≡ agreed j → i ≡ j
same_index i j e = cc

-- the bytes by which both agree, and what the talk wrote
pub one_talk : {H : Type 0} (past : Past H) (i j : ℕ) (rest other gave more waiting behind : List ℕ) → (a : HasAgreed past i rest gave waiting)
    → (b : HasAgreed past j other more behind) → (i ≡ j) × (a.first ≡ b.first) × (a.output ≡ b.output)
one_talk past i j rest other gave more waiting behind a b =
    let e = one_outcome past.side past.got a.first b.first (Ok (answers.Agreed i)) (Ok (answers.Agreed j)) a.output b.output
    (comes_agreed past i rest gave waiting a) (comes_agreed past j other more behind b) in
    (same_index i j e.1, e.0, e.2)

cancelled : (front other rest more : List ℕ) → front ≡ other → front ++ rest ≡ other ++ more → rest ≡ more
cancelled front other rest more same e = append_cancel_left front rest more (e ∙ ap (λ (t : List ℕ). t ++ more) (sym same))

pub one_split : {H : Type 0} (past : Past H) → OneSplit past
one_split past i j rest other gave more waiting a b =
    let e = one_talk past i j rest other gave more waiting waiting a b in (
      e.0,
      cancelled a.first b.first rest other e.1 (sym a.got_is ∙ b.got_is),
      cancelled a.output b.output gave more e.2 (sym a.sent_is ∙ b.sent_is),
    )
