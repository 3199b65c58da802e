-- A side of a talk: what it is to its callers, and where it stands.
-- Source: multistream-select 1.0, "Protocol Negotiation"; where memory is asked for is this project's profile.
use Rattle.std.specs.Prelude.{◌≡◌, ℕ, ◌+◌, ◌<◌, ◌≤◌, Bool, true, false, List, [], ◌∷◌, ◌++◌, length, take, slice_get}
use Rattle.std.specs.Prelude.{slice_index}
use Rattle.std.specs.Prelude.{Option, Some, None, Result, Ok}
use Rattle.std.specs.List.{All}
use Rattle.std.specs.Option.{option_map_or}
use Rattle.varint_proto.specs.Varint.{BeginsShortest}
use Rattle.varint_proto.specs.Incoming.{Arriving, ReadsFramed, Stands as Arrives}
use Rattle.ms_select.specs.declared.answer.Answer.{Answer}
use Rattle.ms_select.specs.declared.answer.Answer.TheVariants.{Going, Agreed, NoneLeft}
use Rattle.ms_select.specs.declared.fault.SelectFault.{SelectFault}
use Rattle.ms_select.specs.declared.verdict.Role.{Role}
use Rattle.ms_select.specs.declared.verdict.Role.TheVariants.{Dialer, Listener}
use Rattle.ms_select.specs.Messages.{spelled, longest, IsShort}
use Rattle.ms_select.specs.Listening.{IsUndecided, refusals, Listens}
use Rattle.ms_select.specs.Dialing.{IsRefusals, refused, proposals, Dials}

-- A side of these names, told this whole input, stands here, has used so many bytes of it, and has written this.
abbrev pub Comes : Role → List (List ℕ) → List ℕ → Result Answer SelectFault → ℕ → List ℕ → Type 0
Comes Listener names input standing used output = Listens names input standing used output
Comes Dialer names input standing used output = Dials names input standing used output

-- texts that decide nothing
abbrev pub IsHeard : Role → List (List ℕ) → List (List ℕ) → Type 0
IsHeard Listener names texts = All IsShort texts × IsUndecided names texts
IsHeard Dialer names texts = IsRefusals texts × (refused texts < length names)

-- what has been written behind them
abbrev pub written : Role → List (List ℕ) → List (List ℕ) → List ℕ
written Listener names texts = refusals texts
written Dialer names texts = proposals names (refused texts)

-- how many names of a dialer they refuse
abbrev pub count_of : Role → List (List ℕ) → ℕ
count_of Listener texts = 0
count_of Dialer texts = refused texts

-- how many when one text more was heard
abbrev pub next_count : Role → Bool → ℕ → ℕ
next_count Listener begun count = count
next_count Dialer true count = count + 1
next_count Dialer false count = count

-- there are such texts
abbrev pub is_begun : List (List ℕ) → Bool
is_begun [] = false
is_begun (text ∷ texts) = true

-- the most bytes that are answered to a message of this length
abbrev pub answer_room : Role → List (List ℕ) → ℕ → ℕ → ℕ
answer_room Listener names count len = len + 4
answer_room Dialer names count len = option_map_or (λ name. length name + 3) (slice_get names (count + 1)) 0

-- ---- what a side is to its callers

pub record Negotiating : Type 0 where
  pub role : Role
  pub names : List (List ℕ)
  -- the header has come
  pub begun : Bool
  -- how many names of a dialer were refused
  pub count : ℕ
  -- the message that comes in
  pub incoming : Arriving
  -- None after a fault
  pub answer : Option Answer
  -- written, and not yet taken
  pub pending : List ℕ
  -- how many bytes of an answer find room
  pub room : ℕ

-- what a side has heard while nothing is decided: these texts, and of the next message this rest
pub record Hears (x : Negotiating) (input taken : List ℕ) (texts : List (List ℕ)) (rest : List ℕ) : Type 0 where
  pub parts : input ≡ spelled texts ++ rest
  pub bytes : (i : ℕ) → slice_index rest i < 256
  pub heard : IsHeard x.role x.names texts
  pub arrives : Arrives rest x.incoming
  pub limit : x.incoming.limit ≡ longest
  pub begun : x.begun ≡ is_begun texts
  pub count : x.count ≡ count_of x.role texts
  pub written : taken ++ x.pending ≡ written x.role x.names texts
  pub room : (len : ℕ) → x.incoming.expected ≡ Some len → 0 < len
      → answer_room x.role x.names x.count len ≤ x.room

-- by its answer; nothing is said of a side that has failed
abbrev pub StandsWith : Option Answer → Negotiating → List ℕ → ℕ → List ℕ → Type 0
StandsWith None x input used taken = Unit {0}
StandsWith (Some Going) x input used taken =
    (texts : List (List ℕ)) × (rest : List ℕ) × Hears x input taken texts rest × ReadsFramed longest rest (Ok None)
    × (used ≡ length input)
StandsWith (Some (Agreed index)) x input used taken =
    Comes x.role x.names input (Ok (Agreed index)) used (taken ++ x.pending)
StandsWith (Some NoneLeft) x input used taken = Comes x.role x.names input (Ok NoneLeft) used (taken ++ x.pending)

-- The side is what it comes to by this whole input, of which it has used so many bytes, where `taken` is what was taken
-- of its output.
abbrev pub Stands : Negotiating → List ℕ → ℕ → List ℕ → Type 0
Stands x input used taken = StandsWith x.answer x input used taken

-- a fact of every input at which the side stands
abbrev pub Whenever : Negotiating → (List ℕ → ℕ → List ℕ → Type 0) → Type 0
Whenever x fact = (input : List ℕ) (used : ℕ) (taken : List ℕ) → Stands x input used taken → fact input used taken

-- the input ends with the last byte of a length
abbrev pub EndsLength : List ℕ → Type 0
EndsLength input =
    (texts : List (List ℕ)) × (rest : List ℕ) × (len : ℕ) × (input ≡ spelled texts ++ rest) × BeginsShortest rest len []

-- Behind this input memory is refused: a front of the piece was heard and answered, and the byte behind it, the last
-- one of a length, decides nothing either. So want of memory hides neither a fault nor an agreement.
pub record RunsOut (role : Role) (names : List (List ℕ)) (output input piece : List ℕ) : Type 0 where
  pub n : ℕ
  pub within : n < length piece
  pub before : Comes role names (input ++ take n piece) (Ok Going) (length (input ++ take n piece)) output
  pub behind : Comes role names (input ++ take (n + 1) piece) (Ok Going) (length (input ++ take (n + 1) piece)) output
  pub ends : EndsLength (input ++ take (n + 1) piece)

-- A side that stands at an input answers what its definition says of that input, an undecided one too.
abbrev pub AnswersAsDefined : Type 0
AnswersAsDefined =
    (x : Negotiating) (input : List ℕ) (used : ℕ) (taken : List ℕ) (answer : Answer) → x.answer ≡ Some answer
    → Stands x input used taken → Comes x.role x.names input (Ok answer) used (taken ++ x.pending)
