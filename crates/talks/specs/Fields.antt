-- What the fields of a talk say. Inside: no public clause cites it.
use Rattle.std.specs.Prelude.{◌≡◌, ℕ, List, [], ◌∷◌, Option, Some, None, Result, Ok, Err}
use Rattle.ms_select.specs.declared.answer.Answer.{Answer}
use Rattle.ms_select.specs.declared.answer.Answer.TheVariants.{Going, Agreed, NoneLeft}
use Rattle.ms_select.specs.declared.answer.Step.{Step}
use Rattle.ms_select.specs.declared.fault.SelectFault.{SelectFault}
use Rattle.ms_select.specs.Sides.{Negotiating}
use Rattle.talks.specs.declared.talk.Kind.{Kind}
use Rattle.talks.specs.declared.talk.Kind.TheVariants.{Asking, Answering}
use Rattle.talks.specs.Talks.{Side, Asks, Answers}
use Rattle.talks.specs.State.{Talking}

-- the index in the connection's list of a name that a negotiation has at this place
abbrev pub index_at : Side → ℕ → ℕ
index_at (Asks name index) place = index
index_at (Answers names) place = place

-- what a negotiation answers, in the indexes of the connection's list
abbrev pub told : Side → Answer → Answer
told side Going = Going
told side (Agreed place) = Agreed (index_at side place)
told side NoneLeft = NoneLeft

abbrev pub told_if : Side → Option Answer → Option Answer
told_if side None = None
told_if side (Some answer) = Some (told side answer)

abbrev pub told_standing : Side → Result Answer SelectFault → Result Answer SelectFault
told_standing side (Ok answer) = Ok (told side answer)
told_standing side (Err fault) = Err fault

abbrev pub told_step : Side → Result Step SelectFault → Result Step SelectFault
told_step side (Ok step) = Ok (record { used = step.used; answer = told side step.answer })
told_step side (Err fault) = Err fault

-- a negotiation as the talk of a side
abbrev pub talking : Side → Negotiating → Talking
talking side x = record { side = side; answer = told_if side x.answer; pending = x.pending; negotiating = x }

abbrev pub first_of : List (List ℕ) → List ℕ
first_of [] = []
first_of (name ∷ names) = name

-- the talk that is held
abbrev pub talking_of : Kind → Talking
talking_of (Asking dialer index) = talking (Asks (first_of dialer.names) index) dialer
talking_of (Answering listener) = talking (Answers listener.names) listener

-- one that asks has one name
abbrev pub AsksOne : Kind → Type 0
AsksOne (Asking dialer index) = dialer.names ≡ first_of dialer.names ∷ []
AsksOne (Answering listener) = Unit {0}
