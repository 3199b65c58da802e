-- What a run has done is legal.
use Rattle.std.proofs.Common.{◌≡◌, ℕ, inl, inr, List, [], ◌∷◌, refl, sym, subst, arith}
use Rattle.yamux_frames.specs.Frames.{Reads}
use Rattle.yamux_session.specs.declared.event.Role.{Role}
use Rattle.yamux_session.specs.declared.calls.Act.{Act}
use Rattle.yamux_session.specs.declared.calls.Act.TheVariants as act
use Rattle.yamux_session.specs.declared.calls.ActAnswer.{ActAnswer}
use Rattle.yamux_session.specs.declared.calls.ActAnswer.TheVariants.{Events, Stream, Count, Done, Refused}
use Rattle.yamux_session.specs.History.{Item, arrivals}
use Rattle.yamux_session.specs.History as history
use Rattle.yamux_session.specs.Acts.{AreAnswered}
use Rattle.yamux_session.specs.Faults.{HasNoFault}
use Rattle.yamux_session.specs.Runs.{Point, IsAdded, AnswersAt, Answers, AnswersAll, RunIsLegal}
use Rattle.yamux_session.specs.Runs.Point.{At, Over}
use Rattle.yamux_session.proofs.Stepping.{still_answered}

abbrev IsLegal : Role → List Item → List ℕ → Type 0
IsLegal role past fed = AreAnswered role past × HasNoFault role past × ((rest : List ℕ) × Reads fed (arrivals past) rest)

abbrev IsLegalAt : Role → Point → Type 0
IsLegalAt role (At past fed) = IsLegal role past fed
IsLegalAt role (Over out) = Unit {0}

as_before : (role : Role) (past : List Item) (fed : List ℕ) (next : Point) → IsLegal role past fed → next ≡ At past fed → IsLegalAt role next
as_before role past fed next legal e = subst (IsLegalAt role) (sym e) legal

added : (role : Role) (past : List Item) (fed : List ℕ) (did : history.Act) (next : Point) → IsLegal role past fed → IsAdded role past fed did next → IsLegalAt role next
added role past fed did next legal is = subst (IsLegalAt role) (sym is.1) ((is.0, legal.0), (refl, legal.1), legal.2)

one_call : (role : Role) (past : List Item) (fed : List ℕ) (call : Act) (answer : ActAnswer) (next : Point) → IsLegal role past fed → AnswersAt role past fed call answer next → IsLegalAt role next
one_call role past fed (act.Feed bytes) (Events told) next legal is = elim is.2 [
  | inl on ↦ subst (IsLegalAt role) (sym on.next_is) (subst (AreAnswered role) (sym is.1.came.1) (still_answered role is.1.came.0 past legal.0), on.no_fault, on.read)
  | inr end ↦ subst (IsLegalAt role) (sym end.next_is) tt
]
one_call role past fed (act.Feed bytes) (Refused why) next legal is = subst (IsLegalAt role) (sym is.2.next_is) tt
one_call role past fed (act.Feed bytes) (Stream n) next legal is = absurd is
one_call role past fed (act.Feed bytes) (Count n) next legal is = absurd is
one_call role past fed (act.Feed bytes) Done next legal is = absurd is
one_call role past fed act.Start (Stream n) next legal is = added role past fed (history.Act.Start n) next legal is
one_call role past fed act.Start (Refused why) next legal is = as_before role past fed next legal is.1
one_call role past fed act.Start (Events told) next legal is = absurd is
one_call role past fed act.Start (Count n) next legal is = absurd is
one_call role past fed act.Start Done next legal is = absurd is
one_call role past fed (act.Write n bytes) (Count count) next legal is = added role past fed (history.Act.Write n is.pieces) next legal is.added
one_call role past fed (act.Write n bytes) (Refused why) next legal is = as_before role past fed next legal is.2
one_call role past fed (act.Write n bytes) (Events told) next legal is = absurd is
one_call role past fed (act.Write n bytes) (Stream m) next legal is = absurd is
one_call role past fed (act.Write n bytes) Done next legal is = absurd is
one_call role past fed (act.Taken n count) Done next legal is = added role past fed _ next legal is
one_call role past fed (act.Taken n count) (Refused why) next legal is = as_before role past fed next legal is.2
one_call role past fed (act.Taken n count) (Events told) next legal is = absurd is
one_call role past fed (act.Taken n count) (Stream m) next legal is = absurd is
one_call role past fed (act.Taken n count) (Count m) next legal is = absurd is
one_call role past fed (act.Close n) Done next legal is = added role past fed (history.Act.Close n) next legal is
one_call role past fed (act.Close n) (Refused why) next legal is = as_before role past fed next legal is.1
one_call role past fed (act.Close n) (Events told) next legal is = absurd is
one_call role past fed (act.Close n) (Stream m) next legal is = absurd is
one_call role past fed (act.Close n) (Count m) next legal is = absurd is
one_call role past fed (act.Reset n) Done next legal is = added role past fed (history.Act.Reset n) next legal is
one_call role past fed (act.Reset n) (Refused why) next legal is = as_before role past fed next legal is.1
one_call role past fed (act.Reset n) (Events told) next legal is = absurd is
one_call role past fed (act.Reset n) (Stream m) next legal is = absurd is
one_call role past fed (act.Reset n) (Count m) next legal is = absurd is
one_call role past fed (act.GoAway code) Done next legal is = added role past fed (history.Act.GoAway code) next legal is
one_call role past fed (act.GoAway code) (Refused why) next legal is = as_before role past fed next legal is.1
one_call role past fed (act.GoAway code) (Events told) next legal is = absurd is
one_call role past fed (act.GoAway code) (Stream m) next legal is = absurd is
one_call role past fed (act.GoAway code) (Count m) next legal is = absurd is

one : (role : Role) (point : Point) (call : Act) (answer : ActAnswer) (next : Point) → IsLegalAt role point → Answers role point call answer next → IsLegalAt role next
one role (At past fed) call answer next legal is = one_call role past fed call answer next legal is
one role (Over out) call answer next legal is = subst (IsLegalAt role) (sym is.1) tt

all : (role : Role) (point : Point) (calls : List Act) (answers : List ActAnswer) (last : Point) → IsLegalAt role point → AnswersAll role point calls answers last → IsLegalAt role last
all role point [] [] last legal is = subst (IsLegalAt role) (sym is) legal
all role point [] (answer ∷ answers) last legal is = absurd is
all role point (call ∷ calls) [] last legal is = absurd is
all role point (call ∷ calls) (answer ∷ answers) last legal is = all role is.0 calls answers last (one role point call answer is.0 legal is.1) is.2

pub run_is_legal : RunIsLegal
run_is_legal role calls answers past fed is = all role (At [] []) calls answers (At past fed) (tt, tt, ([], record { whole = refl; frames_are = tt; rest_is = omega arith })) is
