-- The listener's side of a talk.
-- Source: multistream-select 1.0, "Protocol Negotiation"; the order of refusals is this project's profile.
use Rattle.std.specs.Prelude.{◌≡◌, ◌≢◌, ◌⊎◌, ℕ, ◌+◌, ◌<◌, Bool, ◌||◌, if◌then◌else◌, List, [], ◌∷◌, ◌++◌, length, drop}
use Rattle.std.specs.Prelude.{map, slice_index, Option, Some, None, Result, Ok, Err}
use Rattle.std.specs.List.{position, All}
use Rattle.std.specs.Str.{bytes_eq}
use Rattle.ms_select.specs.declared.answer.Answer.{Answer}
use Rattle.ms_select.specs.declared.answer.Answer.TheVariants.{Going, Agreed, NoneLeft}
use Rattle.ms_select.specs.declared.fault.SelectFault.{SelectFault}
use Rattle.ms_select.specs.declared.fault.SelectFault.TheVariants.{BadHeader}
use Rattle.ms_select.specs.Messages.{header, na, ls, message, spelled, IsShort, ReadsMessage}

-- a name has 1 to 1023 bytes
abbrev pub IsName : List ℕ → Type 0
IsName name = (0 < length name) × (length name < 1024)

-- texts that have a meaning of their own
abbrev pub is_reserved : List ℕ → Bool
is_reserved text = bytes_eq text header || bytes_eq text na || bytes_eq text ls

-- The least index of a name that is proposed. The header, na and ls are never supported.
abbrev pub choice : List (List ℕ) → List ℕ → Option ℕ
choice names text = if is_reserved text then None else position (λ name. bytes_eq name text) names

-- texts that decide nothing: the header, and proposals that aren't supported
abbrev pub IsUndecided : List (List ℕ) → List (List ℕ) → Type 0
IsUndecided names [] = Unit {0}
IsUndecided names (first ∷ proposals) = (first ≡ header) × All (λ text. choice names text ≡ None) proposals

-- the input is texts that decide nothing, and a rest
pub record Heard (names : List (List ℕ)) (input : List ℕ) (texts : List (List ℕ)) (rest : List ℕ) : Type 0 where
  pub parts : input ≡ spelled texts ++ rest
  pub short : All IsShort texts
  pub undecided : IsUndecided names texts

-- a name that is supported, with its index
pub record IsSupported (names : List (List ℕ)) (name : List ℕ) (index : ℕ) : Type 0 where
  pub short : IsShort name
  pub chosen : choice names name ≡ Some index

-- what has been written then: the header, and na for each proposal
abbrev pub refusals : List (List ℕ) → List ℕ
refusals texts = spelled (header ∷ map (λ _. na) (drop 1 texts))

-- the message at the front of the rest is refused
abbrev pub IsRefused : List (List ℕ) → List ℕ → SelectFault → Type 0
IsRefused (first ∷ proposals) rest fault = ReadsMessage rest (Err fault)
IsRefused [] rest fault =
    ReadsMessage rest (Err fault)
    ⊎ ((text : List ℕ) × ReadsMessage rest (Ok (Some text)) × (text ≢ header) × (fault ≡ BadHeader))

-- A listener of these names, told this whole input, stands here, has used so many bytes of it, and has written this.
abbrev pub Listens : List (List ℕ) → List ℕ → Result Answer SelectFault → ℕ → List ℕ → Type 0
-- a message isn't whole, and nothing is decided
Listens names input (Ok Going) used output =
    (texts : List (List ℕ)) × (rest : List ℕ) × Heard names input texts rest × ReadsMessage rest (Ok None)
    × (used ≡ length input) × (output ≡ refusals texts)
-- a proposal is supported, and the output ends with its echo
Listens names input (Ok (Agreed index)) used output =
    (proposals : List (List ℕ)) × (name : List ℕ) × (after : List ℕ)
    × Heard names input (header ∷ proposals) (message name ++ after) × IsSupported names name index
    × (used + length after ≡ length input) × (output ≡ refusals (header ∷ proposals) ++ message name)
-- a listener never gives up
Listens names input (Ok NoneLeft) used output = ⊥
Listens names input (Err fault) used output =
    (texts : List (List ℕ)) × (rest : List ℕ) × Heard names input texts rest × IsRefused texts rest fault
    × (used ≡ length input) × (output ≡ refusals texts)

-- ---- one outcome

-- Names and input determine where a listener stands, what it has used and what it has written.
abbrev pub OneListener : Type 0
OneListener =
    (names : List (List ℕ)) (input : List ℕ) (a b : Result Answer SelectFault) (used more : ℕ) (output other : List ℕ)
    → Listens names input a used output → Listens names input b more other
    → (a ≡ b) × (used ≡ more) × (output ≡ other)

-- Each input of bytes comes to something.
abbrev pub SomeListener : Type 0
SomeListener = (names : List (List ℕ)) (input : List ℕ) → ((i : ℕ) → slice_index input i < 256)
    → (standing : Result Answer SelectFault) × (used : ℕ) × (output : List ℕ) × Listens names input standing used output
