-- What holds of a talk of either end: this project's laws on the definitions of `Talks` and `State`.
use Rattle.std.specs.Prelude.{◌≡◌, ◌≢◌, ℕ, ◌<◌, List, [], ◌∷◌, ◌++◌, slice_index, slice_get, Some, None, Result, Ok}
use Rattle.ms_select.specs.declared.answer.Answer.{Answer}
use Rattle.ms_select.specs.declared.answer.Answer.TheVariants.{Going, Agreed}
use Rattle.ms_select.specs.declared.fault.SelectFault.{SelectFault}
use Rattle.ms_select.specs.Messages.{header, na, spelled, IsShort}
use Rattle.ms_select.specs.Listening.{IsSupported, choice}
use Rattle.talks.specs.Talks.{Side, Asks, Answers, Talks, IsOpen, Agrees, IsTurnedDown, Faults, ComesTo}
use Rattle.talks.specs.State.{Talking, Stands}

-- ---- one outcome

-- Side and input determine which bytes are the talk's, where it stands and what it has written.
abbrev pub OneOutcome : Type 0
OneOutcome =
    (side : Side) (input first other : List ℕ) (a b : Result Answer SelectFault) (output more : List ℕ)
    → ComesTo side input first a output → ComesTo side input other b more
    → (first ≡ other) × (a ≡ b) × (output ≡ more)

-- Each input of bytes comes to something.
abbrev pub SomeOutcome : Type 0
SomeOutcome = (side : Side) (input : List ℕ) → ((i : ℕ) → slice_index input i < 256)
    → (first : List ℕ) × (standing : Result Answer SelectFault) × (output : List ℕ)
    × ComesTo side input first standing output

-- What is decided stays so when bytes are added, and none of them is the talk's.
abbrev pub DecisionStays : Type 0
DecisionStays =
    (side : Side) (input first more : List ℕ) (answer : Answer) (output : List ℕ) → answer ≢ Going
    → ComesTo side input first (Ok answer) output → ComesTo side (input ++ more) first (Ok answer) output

-- A fault stays when bytes are added.
abbrev pub FaultStays : Type 0
FaultStays =
    (side : Side) (input more : List ℕ) (fault : SelectFault) (output : List ℕ)
    → Faults side input fault output → Faults side (input ++ more) fault output

-- No byte behind a decision is the talk's.
abbrev pub NothingBehind : Type 0
NothingBehind =
    (side : Side) (first more : List ℕ) (answer : Answer) (standing : Result Answer SelectFault)
    (output other : List ℕ) → answer ≢ Going
    → Talks side first (Ok answer) output → Talks side (first ++ more) standing other → more ≡ []

-- A talk that stands at an input comes to what its definition says of that input.
abbrev pub AnswersAsDefined : Type 0
AnswersAsDefined =
    (x : Talking) (input taken : List ℕ) (answer : Answer) → x.answer ≡ Some answer
    → Stands x input taken → Talks x.side input (Ok answer) (taken ++ x.pending)

-- An end that asks has written all that it ever writes, whatever has come.
abbrev pub AskedAll : Type 0
AskedAll =
    (name : List ℕ) (index : ℕ) (input : List ℕ) (standing : Result Answer SelectFault) (output : List ℕ)
    → Talks (Asks name index) input standing output → output ≡ spelled (header ∷ name ∷ [])

-- ---- two ends

-- What an end has written that stands here: its side of the talk, and whatever it wrote behind.
pub record Writes (side : Side) (input : List ℕ) (standing : Result Answer SelectFault) (written : List ℕ)
    : Type 0 where
  pub first : List ℕ
  pub talk : List ℕ
  pub more : List ℕ
  pub comes : ComesTo side input first standing talk
  pub written_is : written ≡ talk ++ more

-- At one place of two joined ends the input of each is a front of what the other has written.
pub record Joined (asking answering : Side) (to_asking to_answering : List ℕ)
    (asked answered : Result Answer SelectFault) : Type 0 where
  pub from_asking : List ℕ
  pub from_answering : List ℕ
  pub asks : Writes asking to_asking asked from_asking
  pub answers : Writes answering to_answering answered from_answering
  pub on_the_way : List ℕ
  pub delivered : from_answering ≡ to_asking ++ on_the_way
  pub on_the_way_back : List ℕ
  pub delivered_back : from_asking ≡ to_answering ++ on_the_way_back

-- Two ends that both agree in one talk name the same protocol: the end that asks the one that it asked for, and the
-- other one of that name.
abbrev pub OneName : Type 0
OneName =
    (name : List ℕ) (index : ℕ) (names : List (List ℕ)) (to_asking to_answering : List ℕ) (i j : ℕ)
    → Joined (Asks name index) (Answers names) to_asking to_answering (Ok (Agreed i)) (Ok (Agreed j))
    → (i ≡ index) × (slice_get names j ≡ Some name)

-- Where the other end supports the name that is asked for, both agree, each by all that the other writes.
abbrev pub BothAgree : Type 0
BothAgree =
    (name : List ℕ) (index : ℕ) (names : List (List ℕ)) (place : ℕ) → IsSupported names name place
    → let talk = spelled (header ∷ name ∷ []) in
    Agrees (Asks name index) talk index talk × Agrees (Answers names) talk place talk

-- Where it doesn't, the end that asks is turned down, and the other goes on.
abbrev pub NoneAgrees : Type 0
NoneAgrees =
    (name : List ℕ) (index : ℕ) (names : List (List ℕ)) → IsShort name → choice names name ≡ None
    → let question = spelled (header ∷ name ∷ []) in
    let refusal = spelled (header ∷ na ∷ []) in
    IsTurnedDown (Asks name index) refusal question × IsOpen (Answers names) question refusal
