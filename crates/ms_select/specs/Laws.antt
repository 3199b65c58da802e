-- What holds of both sides of a talk: this project's laws on the definitions of `Listening` and `Dialing`.
use Rattle.std.specs.Prelude.{◌≡◌, ◌≢◌, ℕ, List, [], ◌∷◌, ◌++◌, length, Result, Ok, Err}
use Rattle.ms_select.specs.declared.answer.Answer.{Answer}
use Rattle.ms_select.specs.declared.answer.Answer.TheVariants.{Going}
use Rattle.ms_select.specs.declared.fault.SelectFault.{SelectFault}
use Rattle.ms_select.specs.Messages.{header, spelled}
use Rattle.ms_select.specs.Listening.{Listens}
use Rattle.ms_select.specs.Dialing.{Dials}

-- What is decided stays so when bytes are added, and none of them is used.
pub record DecisionStays : Type 0 where
  pub listener : (names : List (List ℕ)) (input more : List ℕ) (answer : Answer) (used : ℕ) (output : List ℕ)
      → answer ≢ Going
      → Listens names input (Ok answer) used output → Listens names (input ++ more) (Ok answer) used output
  pub dialer : (names : List (List ℕ)) (input more : List ℕ) (answer : Answer) (used : ℕ) (output : List ℕ)
      → answer ≢ Going
      → Dials names input (Ok answer) used output → Dials names (input ++ more) (Ok answer) used output

-- A fault stays when bytes are added.
pub record FaultStays : Type 0 where
  pub listener : (names : List (List ℕ)) (input more : List ℕ) (fault : SelectFault) (used : ℕ) (output : List ℕ)
      → Listens names input (Err fault) used output
      → Listens names (input ++ more) (Err fault) (length (input ++ more)) output
  pub dialer : (names : List (List ℕ)) (input more : List ℕ) (fault : SelectFault) (used : ℕ) (output : List ℕ)
      → Dials names input (Err fault) used output
      → Dials names (input ++ more) (Err fault) (length (input ++ more)) output

-- Nothing behind the bytes that are used matters: a side stands where it stands by them alone.
pub record NothingBehind : Type 0 where
  pub listener : (names : List (List ℕ)) (first rest : List ℕ) (standing : Result Answer SelectFault) (output : List ℕ)
      → Listens names (first ++ rest) standing (length first) output
      → Listens names first standing (length first) output
  pub dialer : (names : List (List ℕ)) (first rest : List ℕ) (standing : Result Answer SelectFault) (output : List ℕ)
      → Dials names (first ++ rest) standing (length first) output → Dials names first standing (length first) output

-- A dialer of one name has written all that it ever writes, whatever has come.
abbrev pub AskedAll : Type 0
AskedAll =
    (name input : List ℕ) (standing : Result Answer SelectFault) (used : ℕ) (output : List ℕ)
    → Dials (name ∷ []) input standing used output → output ≡ spelled (header ∷ name ∷ [])
