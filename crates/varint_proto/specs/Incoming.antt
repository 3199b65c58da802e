-- Messages behind their length: a multiformats varint, and as many bytes as it says (multiformats unsigned-varint; so
-- multistream-select, plaintext and identify send theirs). That a length has a limit is this project's profile.
use Rattle.std.specs.Prelude.{◌≡◌, ◌⊎◌, ℕ, ◌+◌, ◌<◌, ◌≤◌, ◌^◌, Bool, true, false, List, [], ◌∷◌, ◌++◌, length, take}
use Rattle.std.specs.Prelude.{Option, Some, None, Result, Ok, Err}
use Rattle.varint_proto.specs.declared.fault.WireFault.{WireFault}
use Rattle.varint_proto.specs.declared.fault.IncomingRefused.{IncomingRefused}
use Rattle.varint_proto.specs.declared.fault.IncomingRefused.TheVariants.{Failed, BadLength, TooLong, OutOfMemory}
use Rattle.varint_proto.specs.Varint.{BeginsShortest, ReadsShortest, shortest}

-- A length of at most the limit stands at the front, and the rest follows it.
pub record Announces (limit : ℕ) (input : List ℕ) (len : ℕ) (rest : List ℕ) : Type 0 where
  pub begins : BeginsShortest input len rest
  pub allowed : len ≤ limit

-- A body stands at the front, behind its length, and the rest follows it.
abbrev pub Frames : ℕ → List ℕ → List ℕ → List ℕ → Type 0
Frames limit input body rest = Announces limit input (length body) (body ++ rest)

-- What the bytes come to as a message whose body may have up to `limit` bytes: its body and what follows it.
abbrev pub ReadsFramed : ℕ → List ℕ → Result (Option (List ℕ × List ℕ)) IncomingRefused → Type 0
ReadsFramed limit input (Ok (Some found)) = Frames limit input found.0 found.1
-- More bytes are needed: the length isn't whole, or fewer bytes follow it.
ReadsFramed limit input (Ok None) =
    ReadsShortest input (Ok None) ⊎ ((len : ℕ) × (part : List ℕ) × Announces limit input len part
    × (length part < len))
ReadsFramed limit input (Err BadLength) = (fault : WireFault) × ReadsShortest input (Err fault)
ReadsFramed limit input (Err TooLong) =
    (len : ℕ) × (rest : List ℕ) × BeginsShortest input len rest × (limit < len)
ReadsFramed limit input (Err Failed) = ⊥
ReadsFramed limit input (Err OutOfMemory) = ⊥

-- Memory is asked for where the last byte of the length has come, for a body that has no room.
abbrev pub AsksMemory : ℕ → ℕ → List ℕ → Type 0
AsksMemory limit room input = (len : ℕ) × Announces limit input len [] × (room < len)

-- Behind this input memory is refused at the last byte of a length, up to which nothing has a fault.
abbrev pub RefusesRoom : ℕ → ℕ → List ℕ → List ℕ → Type 0
RefusesRoom limit room input piece =
    (n : ℕ) × (n < length piece) × ReadsFramed limit (input ++ take n piece) (Ok None)
    × AsksMemory limit room (input ++ take (n + 1) piece)

-- ---- what a message that comes in is to its callers

pub record Arriving : Type 0 where
  pub limit : ℕ
  -- of the length, until it is whole
  pub spelling : List ℕ
  -- the length of the body, once it is known
  pub expected : Option ℕ
  -- of the body
  pub body : List ℕ
  -- how many bytes of a body find room
  pub room : ℕ
  pub failed : Bool

-- what is held of this input
abbrev pub Holds : Option ℕ → Arriving → List ℕ → Type 0
Holds None x input = ReadsShortest input (Ok None) × (x.spelling ≡ input) × (x.body ≡ [])
Holds (Some len) x input = Announces x.limit input len x.body × (length x.body ≤ len)

-- All of this input, and no more, belongs to the message that has come so far.
pub record Stands (input : List ℕ) (x : Arriving) : Type 0 where
  pub going : x.failed ≡ false
  pub holds : Holds x.expected x input

-- a fact of every input at which the message stands
abbrev pub Whenever : Arriving → (List ℕ → Type 0) → Type 0
Whenever x fact = (input : List ℕ) → Stands input x → fact input

-- all of the body has come
abbrev pub IsWhole : Arriving → Type 0
IsWhole x = x.expected ≡ Some (length x.body)

-- what has come and what follows it, where the message is whole
abbrev pub whole_at : Bool → List ℕ → List ℕ → Option (List ℕ × List ℕ)
whole_at true body rest = Some (body, rest)
whole_at false body rest = None

-- ---- what holds of the reading of a message

-- Reading has one outcome, and some outcome.
abbrev pub OneFramed : Type 0
OneFramed =
    (limit : ℕ) (input : List ℕ) (r s : Result (Option (List ℕ × List ℕ)) IncomingRefused)
    → ReadsFramed limit input r → ReadsFramed limit input s → r ≡ s

abbrev pub SomeFramed : Type 0
SomeFramed = (limit : ℕ) (input : List ℕ)
    → (outcome : Result (Option (List ℕ × List ℕ)) IncomingRefused) × ReadsFramed limit input outcome

-- What is whole and what is refused stays so when bytes are added.
pub record FramedStays : Type 0 where
  pub whole : (limit : ℕ) (input more body rest : List ℕ) → ReadsFramed limit input (Ok (Some (body, rest)))
      → ReadsFramed limit (input ++ more) (Ok (Some (body, rest ++ more)))
  pub fault : (limit : ℕ) (input more : List ℕ) (fault : IncomingRefused) → ReadsFramed limit input (Err fault)
      → ReadsFramed limit (input ++ more) (Err fault)

-- A message becomes whole at its last byte.
abbrev pub FramedEnds : Type 0
FramedEnds = (limit : ℕ) (input body : List ℕ) (b : ℕ)
    → ReadsFramed limit (input ++ b ∷ []) (Ok (Some (body, [])))
    → ReadsFramed limit input (Ok None)

-- A body behind the shortest spelling of its length is read back.
abbrev pub FramedIsRead : Type 0
FramedIsRead = (limit : ℕ) (body rest : List ℕ) → length body ≤ limit → length body < 2 ^ 63
    → ReadsFramed limit (shortest (length body) ++ (body ++ rest)) (Ok (Some (body, rest)))

-- Where a message that comes in stands is what is read of its input.
pub record StandsRead : Type 0 where
  pub whole : (x : Arriving) (input : List ℕ) → Stands input x → IsWhole x
      → ReadsFramed x.limit input (Ok (Some (x.body, [])))
  pub partial : (x : Arriving) (input : List ℕ) → Stands input x → ¬ IsWhole x
      → ReadsFramed x.limit input (Ok None)
