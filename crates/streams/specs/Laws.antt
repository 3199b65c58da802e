-- What holds of a stream: this project's laws on the definitions of `Streams` and `Hearing`.
use Rattle.std.specs.Prelude.{◌≡◌, ◌≢◌, ℕ, ◌+◌, List, ◌++◌, length, Result, Ok, Err}
use Rattle.talks.specs.Talks.{Side}
use Rattle.streams.specs.declared.heard.Heard.{Heard}
use Rattle.streams.specs.declared.heard.Heard.TheVariants.{Going, Agreed, Refused}
use Rattle.streams.specs.declared.stop.Stop.{Stop}
use Rattle.streams.specs.Streams.{Past, HasAgreed}
use Rattle.streams.specs.Hearing.{Hears}

-- Side and data determine what is answered, and what the talk has written.
abbrev pub OneAnswer : Type 0
OneAnswer =
    (side : Side) (got piece : List ℕ) (a b : Result Heard Stop) (output other : List ℕ)
    → Hears side got piece a output → Hears side got piece b other → (a ≡ b) × (output ≡ other)

-- What is decided stays so when the piece is longer.
abbrev pub AnswerStays : Type 0
AnswerStays =
    (side : Side) (got piece more : List ℕ) (answer : Result Heard Stop) (output : List ℕ) → answer ≢ Ok Going
    → Hears side got piece answer output → Hears side got (piece ++ more) answer output

-- the same, where so many bytes of the piece stand before those that it is counted from
abbrev pub counted_from : ℕ → Result Heard Stop → Result Heard Stop
counted_from n (Ok Going) = Ok Going
counted_from n (Ok (Agreed index used)) = Ok (Agreed index (n + used))
counted_from n (Ok Refused) = Ok Refused
counted_from n (Err stop) = Err stop

-- Where data is cut changes nothing: what is answered to the second of two pieces is answered to both as one.
abbrev pub CutAnywhere : Type 0
CutAnywhere =
    (side : Side) (got first second : List ℕ) (answer : Result Heard Stop) (output : List ℕ)
    → Hears side (got ++ first) second answer output
    → Hears side got (first ++ second) (counted_from (length first) answer) output

-- The data determines on which protocol both ends agree, and which data is its handler's; with what was sent and waits,
-- what the handler gave.
abbrev pub OneSplit : {H : Type 0} → Past H → Type 0
OneSplit past =
    (i j : ℕ) (rest other gave more waiting : List ℕ) → HasAgreed past i rest gave waiting
    → HasAgreed past j other more waiting → (i ≡ j) × (rest ≡ other) × (gave ≡ more)
