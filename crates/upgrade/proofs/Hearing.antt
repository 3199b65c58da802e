-- A talk of an upgrade takes a piece, and what it wrote is kept.
use Rattle.std.proofs.Common.{◌≡◌, ◌≢◌, ℕ, ◌≤◌, List, [], ◌++◌, take, drop, Result, Ok, Err, refl, sym, ap, ◌∙◌, subst}
use Rattle.std.specs.Prelude.{IfOk, IfErr}
use Rattle.std.proofs.lemmas.List.{append-nil, take-append-drop}
use Rattle.ms_select.specs.declared.answer.Answer.{Answer}
use Rattle.ms_select.specs.declared.answer.Answer.TheVariants.{Going, NoneLeft}
use Rattle.ms_select.specs.declared.answer.Step.{Step}
use Rattle.ms_select.specs.declared.fault.SelectFault.{SelectFault}
use Rattle.ms_select.specs.declared.fault.SelectFault.TheVariants as select_faults
use Rattle.talks.specs.Talks.{Side, Talks, Faults, RunsOut as TalkRunsOut}
use Rattle.talks.specs.State.{Talking}
use Rattle.talks.proofs.Outcomes.{from_comes}
use Rattle.upgrade.specs.declared.fault.UpgradeFault.TheVariants as faults
use Rattle.upgrade.specs.Stages.{IsWaiting, LosesOutput, Hears}

-- of the side that was asked for
pub of_side : (side other : Side) (input : List ℕ) (standing : Result Answer SelectFault) (output : List ℕ) → other ≡ side → Talks other input standing output → Talks side input standing output
of_side side other input standing output e t = subst (λ (s : Side). Talks s input standing output) e t

-- the other end doesn't know the protocol
pub turned_down : (waiting : List ℕ) (side : Side) (talk kept : Talking) (input piece before pending : List ℕ) (used : ℕ) (answer : Answer) → IsWaiting side talk input before → answer ≡ NoneLeft
    → Talks talk.side (input ++ take used piece) (Ok answer) (before ++ pending) → Hears side kept input piece (Err faults.NoneLeft) waiting (before ++ pending)
turned_down waiting side talk kept input piece before pending used answer w e t =
    (take used piece, drop used piece, sym (take-append-drop used piece), of_side side talk.side _ _ _ w.side_is (subst (λ (a : Answer). Talks talk.side (input ++ take used piece) (Ok a) (before ++ pending)) e t))

-- ---- there is no room for what it wrote

lost_at : (waiting : List ℕ) → waiting ≢ [] → (side : Side) (talk : Talking) (input piece before pending front rest : List ℕ) (standing : Result Answer SelectFault) → IsWaiting side talk input before → pending ≢ [] → piece ≡ front ++ rest
    → Talks talk.side (input ++ front) standing (before ++ pending) → LosesOutput side input piece waiting (before ++ [])
lost_at waiting waits side talk input piece before pending front rest standing w some parts t = record {
  waits = waits;
  front = front;
  rest = rest;
  standing = standing;
  lost = pending;
  piece_is = parts;
  talks = subst (λ (b : List ℕ). Talks side (input ++ front) standing (b ++ pending)) (sym (append-nil before)) (of_side side talk.side _ _ _ w.side_is t);
  some = some;
}

pub loses_step : (waiting : List ℕ) → waiting ≢ [] → (side : Side) (talk : Talking) (input piece before pending : List ℕ) (used : ℕ) (answer : Answer) → IsWaiting side talk input before → pending ≢ []
    → Talks talk.side (input ++ take used piece) (Ok answer) (before ++ pending) → LosesOutput side input piece waiting (before ++ [])
loses_step waiting waits side talk input piece before pending used answer w some t =
    lost_at waiting waits side talk input piece before pending (take used piece) (drop used piece) (Ok answer) w some (sym (take-append-drop used piece)) t

known_fault : (waiting : List ℕ) → waiting ≢ [] → (side : Side) (talk : Talking) (input piece before pending : List ℕ) (fault : SelectFault) → IsWaiting side talk input before → pending ≢ []
    → Faults talk.side (input ++ piece) fault (before ++ pending) → LosesOutput side input piece waiting (before ++ [])
known_fault waiting waits side talk input piece before pending fault w some t = lost_at waiting waits side talk input piece before pending piece [] (Err fault) w some (sym (append-nil piece)) t

unknown_fault : (waiting : List ℕ) → waiting ≢ [] → (side : Side) (talk : Talking) (input piece before pending : List ℕ) → IsWaiting side talk input before → pending ≢ []
    → TalkRunsOut talk.side (before ++ pending) input piece → LosesOutput side input piece waiting (before ++ [])
unknown_fault waiting waits side talk input piece before pending w some r =
    lost_at waiting waits side talk input piece before pending (take r.n piece) (drop r.n piece) (Ok Going) w some (sym (take-append-drop r.n piece))
    (from_comes talk.side (input ++ take r.n piece) (Ok Going) (before ++ pending) r.before)

pub loses_fault : (waiting : List ℕ) → waiting ≢ [] → (side : Side) (talk : Talking) (input piece before pending : List ℕ) (fault : SelectFault) → IsWaiting side talk input before → pending ≢ []
    → (fault ≢ select_faults.OutOfMemory → Faults talk.side (input ++ piece) fault (before ++ pending))
    → (fault ≡ select_faults.OutOfMemory → TalkRunsOut talk.side (before ++ pending) input piece) → LosesOutput side input piece waiting (before ++ [])
loses_fault waiting waits side talk input piece before pending select_faults.Failed w some f m = known_fault waiting waits side talk input piece before pending select_faults.Failed w some (f (λ e. cc))
loses_fault waiting waits side talk input piece before pending select_faults.BadLength w some f m = known_fault waiting waits side talk input piece before pending select_faults.BadLength w some (f (λ e. cc))
loses_fault waiting waits side talk input piece before pending select_faults.NoNewline w some f m = known_fault waiting waits side talk input piece before pending select_faults.NoNewline w some (f (λ e. cc))
loses_fault waiting waits side talk input piece before pending select_faults.BadHeader w some f m = known_fault waiting waits side talk input piece before pending select_faults.BadHeader w some (f (λ e. cc))
loses_fault waiting waits side talk input piece before pending select_faults.NotProposed w some f m = known_fault waiting waits side talk input piece before pending select_faults.NotProposed w some (f (λ e. cc))
loses_fault waiting waits side talk input piece before pending select_faults.OutOfMemory w some f m = unknown_fault waiting waits side talk input piece before pending w some (m refl)

abbrev refused : SelectFault → Result Step SelectFault
refused fault = Err fault

pub loses : (waiting : List ℕ) → waiting ≢ [] → (side : Side) (talk : Talking) (input piece before pending : List ℕ) (result : Result Step SelectFault) → IsWaiting side talk input before → pending ≢ []
    → IfOk result (λ step. Talks talk.side (input ++ take step.used piece) (Ok step.answer) (before ++ pending))
    → IfErr result (λ fault. fault ≢ select_faults.OutOfMemory → Faults talk.side (input ++ piece) fault (before ++ pending))
    → (result ≡ Err select_faults.OutOfMemory → TalkRunsOut talk.side (before ++ pending) input piece) → LosesOutput side input piece waiting (before ++ [])
loses waiting waits side talk input piece before pending (Ok step) w some t f m = loses_step waiting waits side talk input piece before pending step.used step.answer w some t
loses waiting waits side talk input piece before pending (Err fault) w some t f m = loses_fault waiting waits side talk input piece before pending fault w some f (λ e. m (ap refused e))
