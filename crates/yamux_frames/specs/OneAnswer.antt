-- The clauses of a cutter determine its answer.
-- Source: This project's law on the calls of a cutter.
use Rattle.std.specs.Prelude.{◌≡◌, ℕ, List, ◌++◌, take}
use Rattle.yamux_frames.specs.declared.header.FrameFault.{FrameFault}
use Rattle.yamux_frames.specs.declared.cutter.Cut.{Cut}
use Rattle.yamux_frames.specs.Place.{Place}
use Rattle.yamux_frames.specs.Frames.{Arrival, Stands, StopsIn, Uses, IsLongest, EndsExactly, IsOfLast, with_cut}

-- what the clauses of `feed` say of an answer that is no fault
pub record IsAllowed (bytes : List ℕ) (past : List Arrival) (piece : List ℕ) (used : ℕ) (cut : Cut) (new : Place)
    : Type 0 where
  pub uses : Uses piece used cut
  pub frames : Stands (bytes ++ take used piece) (with_cut (take used piece) cut past) new
  pub longest : IsLongest piece cut
  pub exact : EndsExactly cut new
  pub stream : IsOfLast past cut

-- nothing else is asked
abbrev pub AreAllowed : Type 0
AreAllowed = (bytes : List ℕ) (past : List Arrival) (piece : List ℕ) (used : ℕ) (cut : Cut) (new : Place)
    → Uses piece used cut → Stands (bytes ++ take used piece) (with_cut (take used piece) cut past) new
    → IsLongest piece cut → EndsExactly cut new
    → IsOfLast past cut → IsAllowed bytes past piece used cut new

-- two answers to the same piece, from where the cutter stands, are one
abbrev pub OneAnswer : Type 0
OneAnswer = (bytes : List ℕ) (past : List Arrival) (piece : List ℕ) (old : Place) (used n : ℕ) (cut other : Cut)
    (new place : Place)
    → Stands bytes past old → IsAllowed bytes past piece used cut new → IsAllowed bytes past piece n other place
    → (used ≡ n) × (cut ≡ other) × (new.part ≡ place.part) × (new.left ≡ place.left)

-- an answer and a fault aren't both allowed
abbrev pub AnswerOrFault : Type 0
AnswerOrFault = (bytes : List ℕ) (past : List Arrival) (piece : List ℕ) (old : Place) (used : ℕ) (cut : Cut)
    (new : Place) (fault : FrameFault)
    → Stands bytes past old → IsAllowed bytes past piece used cut new → StopsIn bytes past piece fault → ⊥

-- two faults are one
abbrev pub OneFault : Type 0
OneFault = (bytes : List ℕ) (past : List Arrival) (piece : List ℕ) (fault other : FrameFault)
    → StopsIn bytes past piece fault → StopsIn bytes past piece other → fault ≡ other
