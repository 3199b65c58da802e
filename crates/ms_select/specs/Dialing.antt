-- The dialer's side of a talk.
-- Source: multistream-select 1.0, "Protocol Negotiation"; the order of refusals is this project's profile.
use Rattle.std.specs.Prelude.{◌≡◌, ◌≢◌, ◌⊎◌, ℕ, ◌+◌, ◌<◌, List, [], ◌∷◌, ◌++◌, length, drop, take, slice_get}
use Rattle.std.specs.Prelude.{slice_index, Option, Some, None, Result, Ok, Err}
use Rattle.std.specs.List.{All}
use Rattle.ms_select.specs.declared.answer.Answer.{Answer}
use Rattle.ms_select.specs.declared.answer.Answer.TheVariants.{Going, Agreed, NoneLeft}
use Rattle.ms_select.specs.declared.fault.SelectFault.{SelectFault}
use Rattle.ms_select.specs.declared.fault.SelectFault.TheVariants.{BadHeader, NotProposed}
use Rattle.ms_select.specs.Messages.{header, na, message, spelled, IsShort, ReadsMessage}

-- texts that agree on nothing: the header, and then na
abbrev pub IsRefusals : List (List ℕ) → Type 0
IsRefusals [] = Unit {0}
IsRefusals (first ∷ answers) = (first ≡ header) × All (λ text. text ≡ na) answers

-- how many names got na
abbrev pub refused : List (List ℕ) → ℕ
refused texts = length (drop 1 texts)

-- the input is texts that agree on nothing, and a rest
pub record Answered (input : List ℕ) (texts : List (List ℕ)) (rest : List ℕ) : Type 0 where
  pub parts : input ≡ spelled texts ++ rest
  pub refusals : IsRefusals texts

-- a name is left that it may answer
pub record Proposing (names : List (List ℕ)) (input : List ℕ) (texts : List (List ℕ)) (rest : List ℕ) : Type 0 where
  pub answered : Answered input texts rest
  pub left : refused texts < length names

-- behind these answers the name of this index is proposed, and this is it
pub record IsEchoed (names answers : List (List ℕ)) (name : List ℕ) (index : ℕ) : Type 0 where
  pub short : IsShort name
  pub place : length answers ≡ index
  pub proposed : slice_get names index ≡ Some name
  pub other : name ≢ na

-- each name got na, the last of them by the last text
pub record AreRefused (names texts : List (List ℕ)) : Type 0 where
  pub all : refused texts ≡ length names
  pub none : names ≡ [] → texts ≡ []

-- what has been written where so many names got na: the header, and one name more than these as long as there are names
abbrev pub proposals : List (List ℕ) → ℕ → List ℕ
proposals [] count = []
proposals (name ∷ names) count = spelled (header ∷ take (count + 1) (name ∷ names))

-- the message at the front of the rest is refused
abbrev pub IsNotAnswer : List (List ℕ) → List (List ℕ) → List ℕ → SelectFault → Type 0
IsNotAnswer names [] rest fault =
    ReadsMessage rest (Err fault)
    ⊎ ((text : List ℕ) × ReadsMessage rest (Ok (Some text)) × (text ≢ header) × (fault ≡ BadHeader))
IsNotAnswer names (first ∷ answers) rest fault =
    ReadsMessage rest (Err fault) ⊎ ((text : List ℕ) × ReadsMessage rest (Ok (Some text)) × (text ≢ na)
    × (slice_get names (length answers) ≢ Some text) × (fault ≡ NotProposed))

-- A dialer of these names, told this whole input, stands here, has used so many bytes of it, and has written this.
abbrev pub Dials : List (List ℕ) → List ℕ → Result Answer SelectFault → ℕ → List ℕ → Type 0
-- a message isn't whole, and nothing is decided
Dials names input (Ok Going) used output =
    (texts : List (List ℕ)) × (rest : List ℕ) × Proposing names input texts rest × ReadsMessage rest (Ok None)
    × (used ≡ length input) × (output ≡ proposals names (refused texts))
-- the standing proposal is echoed
Dials names input (Ok (Agreed index)) used output =
    (answers : List (List ℕ)) × (name : List ℕ) × (after : List ℕ)
    × Answered input (header ∷ answers) (message name ++ after) × IsEchoed names answers name index
    × (used + length after ≡ length input) × (output ≡ proposals names index)
-- each name got na
Dials names input (Ok NoneLeft) used output =
    (texts : List (List ℕ)) × (after : List ℕ) × Answered input texts after × AreRefused names texts
    × (used + length after ≡ length input) × (output ≡ proposals names (length names))
Dials names input (Err fault) used output =
    (texts : List (List ℕ)) × (rest : List ℕ) × Proposing names input texts rest
    × IsNotAnswer names texts rest fault × (used ≡ length input) × (output ≡ proposals names (refused texts))

-- An end with this dialer may send more than the dialer wrote: once it has agreed, and with one name also before the
-- answer.
abbrev pub MaySend : List (List ℕ) → Option Answer → Type 0
MaySend names (Some (Agreed index)) = Unit {0}
MaySend names (Some Going) = length names ≡ 1
MaySend names (Some NoneLeft) = ⊥
MaySend names None = ⊥

-- ---- one outcome

-- Names and input determine where a dialer stands, what it has used and what it has written.
abbrev pub OneDialer : Type 0
OneDialer =
    (names : List (List ℕ)) (input : List ℕ) (a b : Result Answer SelectFault) (used more : ℕ) (output other : List ℕ)
    → Dials names input a used output → Dials names input b more other
    → (a ≡ b) × (used ≡ more) × (output ≡ other)

-- Each input of bytes comes to something.
abbrev pub SomeDialer : Type 0
SomeDialer = (names : List (List ℕ)) (input : List ℕ) → ((i : ℕ) → slice_index input i < 256)
    → (standing : Result Answer SelectFault) × (used : ℕ) × (output : List ℕ) × Dials names input standing used output
