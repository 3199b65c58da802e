-- A talk as its owner sees it, and where it stands.
-- Source: multistream-select 1.0, "Protocol Negotiation"; that a talk is told its input in pieces is this project's
-- profile.
use Rattle.std.specs.Prelude.{ℕ, List, ◌++◌, length, take, Option, Some, None, Result, Ok, Err}
use Rattle.ms_select.specs.declared.answer.Answer.{Answer}
use Rattle.ms_select.specs.declared.answer.Answer.TheVariants.{Going, Agreed, NoneLeft}
use Rattle.ms_select.specs.declared.answer.Step.{Step}
use Rattle.ms_select.specs.declared.fault.SelectFault.{SelectFault}
use Rattle.ms_select.specs.Sides.{Negotiating, Stands as NegotiationStands}
use Rattle.talks.specs.Talks.{Side, IsOpen, Agrees, IsTurnedDown}

pub record Talking : Type 0 where
  pub side : Side
  -- None after a fault
  pub answer : Option Answer
  -- written, and not yet taken
  pub pending : List ℕ
  -- the negotiation, as it goes on
  pub negotiating : Negotiating

-- by its answer; nothing is said of a talk that has failed
abbrev pub StandsWith : Option Answer → Talking → List ℕ → List ℕ → Type 0
StandsWith None x input taken = Unit {0}
StandsWith (Some Going) x input taken =
    IsOpen x.side input (taken ++ x.pending) × NegotiationStands x.negotiating input (length input) taken
StandsWith (Some (Agreed index)) x input taken = Agrees x.side input index (taken ++ x.pending)
StandsWith (Some NoneLeft) x input taken = IsTurnedDown x.side input (taken ++ x.pending)

-- The talk stands where it comes to by exactly this input, where `taken` is what was taken of its output.
abbrev pub Stands : Talking → List ℕ → List ℕ → Type 0
Stands x input taken = StandsWith x.answer x input taken

-- a fact of every input at which the talk stands
abbrev pub Whenever : Talking → (List ℕ → List ℕ → Type 0) → Type 0
Whenever x fact = (input : List ℕ) (taken : List ℕ) → Stands x input taken → fact input taken

-- ---- what was made of a piece

-- the bytes of the piece that are the talk's: all of it behind a fault
abbrev pub used_of : Result Step SelectFault → List ℕ → List ℕ
used_of (Ok step) piece = take step.used piece
used_of (Err fault) piece = piece

abbrev pub answer_of : Result Step SelectFault → Result Answer SelectFault
answer_of (Ok step) = Ok step.answer
answer_of (Err fault) = Err fault
