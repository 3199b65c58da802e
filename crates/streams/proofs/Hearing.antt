-- A talk takes a piece, and what it wrote is kept.
use Rattle.std.proofs.Common.{◌≡◌, ◌≢◌, ℕ, ◌≤◌, List, [], ◌++◌, length, take, drop, Some, Result, Ok, Err, refl, sym, ap, ◌∙◌, subst, inl, inr}
use Rattle.std.proofs.lemmas.List.{append-nil, take-append-drop}
use Rattle.std.proofs.Math.Seq.{take-length}
use Rattle.ms_select.specs.declared.answer.Answer.{Answer}
use Rattle.ms_select.specs.declared.answer.Answer.TheVariants as answers
use Rattle.ms_select.specs.declared.answer.Step.{Step}
use Rattle.ms_select.specs.declared.fault.SelectFault.{SelectFault}
use Rattle.ms_select.specs.declared.fault.SelectFault.TheVariants as select_faults
use Rattle.ms_select.specs.Sides.{Comes}
use Rattle.talks.specs.Talks.{Side, Asks, Answers, Talks, Faults, role_of, names_of, RunsOut as TalkRunsOut}
use Rattle.talks.specs.State.{Talking, Stands as TalkStands}
use Rattle.talks.specs.Hearing.{Hears as HearsTalk}
use Rattle.talks.proofs.Outcomes.{answers_as_defined}
use Rattle.streams.specs.declared.heard.Heard.{Heard}
use Rattle.streams.specs.declared.stop.Stop.{Stop}
use Rattle.streams.specs.declared.stop.Stop.TheVariants.{OutOfMemory}
use Rattle.streams.specs.Stops.{of_select}
use Rattle.streams.specs.Streams.{IsGoing}
use Rattle.streams.specs.Hearing.{Hears, HasNoRoom}
use Rattle.streams.specs.InTalk.{TalkHears, heard_by}

-- what the talk wrote stands behind what waited
pub record Keeps (heard kept : Talking) (waiting now : List ℕ) : Type 0 where
  pub side_is : kept.side ≡ heard.side
  pub answer_is : kept.answer ≡ heard.answer
  pub none_waits : kept.pending ≡ []
  pub stands : (input : List ℕ) (taken : List ℕ) → TalkStands heard input taken → TalkStands kept input (taken ++ heard.pending)
  pub now_is : now ≡ waiting ++ heard.pending

-- what a stream tells where its talk answers this
abbrev pub told_by : Result Step SelectFault → Result Heard Stop
told_by (Ok step) = Ok (heard_by step.answer step.used)
told_by (Err fault) = Err (of_select fault)

abbrev refused : SelectFault → Result Step SelectFault
refused fault = Err fault

-- of the side that was asked for
of_side : (side other : Side) (input : List ℕ) (standing : Result Answer SelectFault) (output : List ℕ) → other ≡ side → Talks other input standing output → Talks side input standing output
of_side side other input standing output e t = subst (λ (s : Side). Talks s input standing output) e t

runs_out_of : (side other : Side) (output input piece : List ℕ) → other ≡ side → TalkRunsOut other output input piece → TalkRunsOut side output input piece
runs_out_of side other output input piece e r = subst (λ (s : Side). TalkRunsOut s output input piece) e r

-- what the talk had written before
pub open_before : (side : Side) (talk : Talking) (got output : List ℕ) → IsGoing side talk got output → Talks side got (Ok answers.Going) output
open_before side talk got output w =
    let t = answers_as_defined talk got output answers.Going w.going w.stands in
    let none : output ++ talk.pending ≡ output = ap (λ (p : List ℕ). output ++ p) w.none_waits ∙ append-nil output in
    of_side side talk.side got (Ok answers.Going) output w.side_is (subst (λ (o : List ℕ). Talks talk.side got (Ok answers.Going) o) none t)

-- ---- an answer

going_on : (side : Side) (talk heard kept : Talking) (got output waiting piece now : List ℕ) (used : ℕ) → IsGoing side talk got output → Keeps heard kept waiting now
    → heard.side ≡ talk.side → heard.answer ≡ Some answers.Going → used ≡ length piece → TalkStands heard (got ++ take used piece) output
    → IsGoing side kept (got ++ piece) (output ++ heard.pending)
going_on side talk heard kept got output waiting piece now used w k a b all s =
    let is : take used piece ≡ piece = ap (λ n. take n piece) all ∙ take-length piece in
    record {
      side_is = k.side_is ∙ a ∙ w.side_is;
      going = k.answer_is ∙ b;
      none_waits = k.none_waits;
      stands = k.stands (got ++ piece) output (subst (λ (t : List ℕ). TalkStands heard (got ++ t) output) is s);
    }

answered : (side : Side) (talk heard kept : Talking) (got output waiting piece now : List ℕ) (answer : Answer) (used : ℕ) → IsGoing side talk got output → Keeps heard kept waiting now
    → heard.side ≡ talk.side → heard.answer ≡ Some answer → used ≤ length piece → (answer ≡ answers.Going → used ≡ length piece)
    → TalkStands heard (got ++ take used piece) output → Talks talk.side (got ++ take used piece) (Ok answer) (output ++ heard.pending)
    → TalkHears side kept got output waiting piece (Ok (heard_by answer used)) now
answered side talk heard kept got output waiting piece now answers.Going used w k a b within all s t =
    let is : take used piece ≡ piece = ap (λ n. take n piece) (all refl) ∙ take-length piece in
    record {
      more = heard.pending;
      now_is = k.now_is;
      hears = λ ne. of_side side talk.side (got ++ piece) (Ok answers.Going) (output ++ heard.pending) w.side_is
          (subst (λ (p : List ℕ). Talks talk.side (got ++ p) (Ok answers.Going) (output ++ heard.pending)) is t);
      goes_on = λ e. going_on side talk heard kept got output waiting piece now used w k a b (all refl) s;
      runs_out = λ e. absurd cc;
    }
answered side talk heard kept got output waiting piece now (answers.Agreed index) used w k a b within all s t = record {
  more = heard.pending;
  now_is = k.now_is;
  hears = λ ne. (within, of_side side talk.side (got ++ take used piece) (Ok (answers.Agreed index)) (output ++ heard.pending) w.side_is t);
  goes_on = λ e. absurd cc;
  runs_out = λ e. absurd cc;
}
answered side talk heard kept got output waiting piece now answers.NoneLeft used w k a b within all s t = record {
  more = heard.pending;
  now_is = k.now_is;
  hears = λ ne. (
    take used piece,
    drop used piece,
    sym (take-append-drop used piece),
    of_side side talk.side (got ++ take used piece) (Ok answers.NoneLeft) (output ++ heard.pending) w.side_is t,
  );
  goes_on = λ e. absurd cc;
  runs_out = λ e. absurd cc;
}

-- ---- a fault

known_fault : (side : Side) (talk heard kept : Talking) (got output waiting piece now : List ℕ) (fault : SelectFault) (stop : Stop) → IsGoing side talk got output
    → Keeps heard kept waiting now → stop ≢ OutOfMemory
    → (Faults side (got ++ piece) fault (output ++ heard.pending) → Hears side got piece (Err stop) (output ++ heard.pending))
    → Faults talk.side (got ++ piece) fault (output ++ heard.pending) → TalkHears side kept got output waiting piece (Err stop) now
known_fault side talk heard kept got output waiting piece now fault stop w k known as_heard f = record {
  more = heard.pending;
  now_is = k.now_is;
  hears = λ ne. as_heard (of_side side talk.side (got ++ piece) (Err fault) (output ++ heard.pending) w.side_is f);
  goes_on = λ e. absurd cc;
  runs_out = λ e. absurd (known cc);
}

faulty : (side : Side) (talk heard kept : Talking) (got output waiting piece now : List ℕ) (fault : SelectFault) → IsGoing side talk got output → Keeps heard kept waiting now
    → (fault ≢ select_faults.OutOfMemory → Faults talk.side (got ++ piece) fault (output ++ heard.pending))
    → (fault ≡ select_faults.OutOfMemory → TalkRunsOut talk.side (output ++ heard.pending) got piece)
    → TalkHears side kept got output waiting piece (Err (of_select fault)) now
faulty side talk heard kept got output waiting piece now select_faults.Failed w k f m =
    known_fault side talk heard kept got output waiting piece now select_faults.Failed _ w k (λ e. cc) (λ g. ((λ e. cc), g)) (f (λ e. cc))
faulty side talk heard kept got output waiting piece now select_faults.BadLength w k f m =
    known_fault side talk heard kept got output waiting piece now select_faults.BadLength _ w k (λ e. cc) (λ g. ((λ e. cc), g)) (f (λ e. cc))
faulty side talk heard kept got output waiting piece now select_faults.NoNewline w k f m =
    known_fault side talk heard kept got output waiting piece now select_faults.NoNewline _ w k (λ e. cc) (λ g. ((λ e. cc), g)) (f (λ e. cc))
faulty side talk heard kept got output waiting piece now select_faults.BadHeader w k f m =
    known_fault side talk heard kept got output waiting piece now select_faults.BadHeader _ w k (λ e. cc) (λ g. ((λ e. cc), g)) (f (λ e. cc))
faulty side talk heard kept got output waiting piece now select_faults.NotProposed w k f m =
    known_fault side talk heard kept got output waiting piece now select_faults.NotProposed _ w k (λ e. cc) (λ g. ((λ e. cc), g)) (f (λ e. cc))
faulty side talk heard kept got output waiting piece now select_faults.OutOfMemory w k f m = record {
  more = heard.pending;
  now_is = k.now_is;
  hears = λ ne. absurd (ne refl);
  goes_on = λ e. absurd cc;
  runs_out = λ e. inl (runs_out_of side talk.side (output ++ heard.pending) got piece w.side_is (m refl));
}

-- what is told of whatever the talk made of the piece
pub told : (side : Side) (talk heard kept : Talking) (got output waiting piece now : List ℕ) (result : Result Step SelectFault) → IsGoing side talk got output
    → HearsTalk talk heard piece result → Keeps heard kept waiting now → TalkHears side kept got output waiting piece (told_by result) now
told side talk heard kept got output waiting piece now (Ok step) w h k =
    answered side talk heard kept got output waiting piece now step.answer step.used w k h.side h.answer h.within h.all_used (h.stands got output w.stands) (h.talks got output w.stands)
told side talk heard kept got output waiting piece now (Err fault) w h k =
    faulty side talk heard kept got output waiting piece now fault w k (λ ne. h.fault w.going got output w.stands ne) (λ e. h.memory w.going got output w.stands (ap refused e))

-- ---- there is no room for what it wrote

-- what a talk has come to where nothing is decided
pub still_open : (side : Side) (input output : List ℕ) → Comes (role_of side) (names_of side) input (Ok answers.Going) (length input) output
    → Talks side input (Ok answers.Going) output
still_open (Asks name index) input output c = c
still_open (Answers names) input output c = c

lost_at : (side : Side) (talk : Talking) (got output waiting piece pending front rest : List ℕ) (standing : Result Answer SelectFault) → IsGoing side talk got output
    → waiting ≢ [] → pending ≢ [] → piece ≡ front ++ rest → Talks talk.side (got ++ front) standing (output ++ pending) → HasNoRoom side got piece waiting
lost_at side talk got output waiting piece pending front rest standing w waits some parts t = record {
  front = front;
  rest = rest;
  standing = standing;
  output = output;
  more = pending;
  waits = waits;
  piece_is = parts;
  before = open_before side talk got output w;
  talks = of_side side talk.side (got ++ front) standing (output ++ pending) w.side_is t;
  some = some;
}

lost_fault : (side : Side) (talk heard : Talking) (got output waiting piece : List ℕ) (fault : SelectFault) → IsGoing side talk got output → waiting ≢ [] → heard.pending ≢ []
    → (fault ≢ select_faults.OutOfMemory → Faults talk.side (got ++ piece) fault (output ++ heard.pending))
    → (fault ≡ select_faults.OutOfMemory → TalkRunsOut talk.side (output ++ heard.pending) got piece) → HasNoRoom side got piece waiting
lost_fault side talk heard got output waiting piece select_faults.Failed w waits some f m =
    lost_at side talk got output waiting piece heard.pending piece [] (Err select_faults.Failed) w waits some (sym (append-nil piece)) (f (λ e. cc))
lost_fault side talk heard got output waiting piece select_faults.BadLength w waits some f m =
    lost_at side talk got output waiting piece heard.pending piece [] (Err select_faults.BadLength) w waits some (sym (append-nil piece)) (f (λ e. cc))
lost_fault side talk heard got output waiting piece select_faults.NoNewline w waits some f m =
    lost_at side talk got output waiting piece heard.pending piece [] (Err select_faults.NoNewline) w waits some (sym (append-nil piece)) (f (λ e. cc))
lost_fault side talk heard got output waiting piece select_faults.BadHeader w waits some f m =
    lost_at side talk got output waiting piece heard.pending piece [] (Err select_faults.BadHeader) w waits some (sym (append-nil piece)) (f (λ e. cc))
lost_fault side talk heard got output waiting piece select_faults.NotProposed w waits some f m =
    lost_at side talk got output waiting piece heard.pending piece [] (Err select_faults.NotProposed) w waits some (sym (append-nil piece)) (f (λ e. cc))
lost_fault side talk heard got output waiting piece select_faults.OutOfMemory w waits some f m =
    let r = m refl in
    lost_at side talk got output waiting piece heard.pending (take r.n piece) (drop r.n piece) (Ok answers.Going) w waits some
    (sym (take-append-drop r.n piece)) (still_open talk.side (got ++ take r.n piece) (output ++ heard.pending) r.before)

lost : (side : Side) (talk heard : Talking) (got output waiting piece : List ℕ) (result : Result Step SelectFault) → IsGoing side talk got output
    → HearsTalk talk heard piece result → waiting ≢ [] → heard.pending ≢ [] → HasNoRoom side got piece waiting
lost side talk heard got output waiting piece (Ok step) w h waits some =
    (lost_at side talk got output waiting piece heard.pending (take step.used piece) (drop step.used piece) (Ok step.answer) w waits some
    (sym (take-append-drop step.used piece)) (h.talks got output w.stands))
lost side talk heard got output waiting piece (Err fault) w h waits some =
    lost_fault side talk heard got output waiting piece fault w waits some (λ ne. h.fault w.going got output w.stands ne) (λ e. h.memory w.going got output w.stands (ap refused e))

pub no_room : (side : Side) (talk heard kept : Talking) (got output waiting piece now : List ℕ) (result : Result Step SelectFault) → IsGoing side talk got output
    → HearsTalk talk heard piece result → waiting ≢ [] → heard.pending ≢ [] → now ≡ waiting → TalkHears side kept got output waiting piece (Err OutOfMemory) now
no_room side talk heard kept got output waiting piece now result w h waits some same = record {
  more = [];
  now_is = same ∙ sym (append-nil waiting);
  hears = λ ne. absurd (ne refl);
  goes_on = λ e. absurd cc;
  runs_out = λ e. inr (lost side talk heard got output waiting piece result w h waits some, refl);
}

abbrev went : Step → Result Step SelectFault
went step = Ok step

-- of a step that is known
pub same_told : (side : Side) (kept : Talking) (got output waiting piece now : List ℕ) (result : Result Step SelectFault) (step : Step) → result ≡ went step
    → TalkHears side kept got output waiting piece (told_by result) now → TalkHears side kept got output waiting piece (Ok (heard_by step.answer step.used)) now
same_told side kept got output waiting piece now result step e t = subst (λ (r : Result Step SelectFault). TalkHears side kept got output waiting piece (told_by r) now) e t
