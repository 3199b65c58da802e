-- The messages of multistream-select 1.0: how a text is spelt, and what stands at the front of some bytes.
use Rattle.std.specs.Prelude.{◌≡◌, ◌≢◌, ◌⊎◌, ℕ, ◌+◌, ◌-◌, ◌<◌, ◌≤◌, List, [], ◌∷◌, ◌++◌, length, slice_index, codes}
use Rattle.std.specs.Prelude.{Option, Some, None, Result, Ok, Err}
use Rattle.std.specs.List.{flat_map}
use Rattle.varint_proto.specs.declared.fault.WireFault.{WireFault}
use Rattle.varint_proto.specs.declared.fault.IncomingRefused.{IncomingRefused}
use Rattle.varint_proto.specs.declared.fault.IncomingRefused.TheVariants as framing
use Rattle.varint_proto.specs.Varint.{BeginsShortest, ReadsShortest, shortest}
use Rattle.ms_select.specs.declared.fault.SelectFault.{SelectFault}
use Rattle.ms_select.specs.declared.fault.SelectFault.TheVariants.{Failed, BadLength, NoNewline, BadHeader, NotProposed}
use Rattle.ms_select.specs.declared.fault.SelectFault.TheVariants.{OutOfMemory}

-- the texts that have a meaning of their own
abbrev pub header : List ℕ
header = codes "/multistream/1.0.0"

abbrev pub na : List ℕ
na = codes "na"

abbrev pub ls : List ℕ
ls = codes "ls"

-- A message is a varint length, a text and a newline, which the length counts.
unfoldable pub message : List ℕ → List ℕ
message text = shortest (length text + 1) ++ (text ++ 10 ∷ [])

abbrev pub spelled : List (List ℕ) → List ℕ
spelled texts = flat_map message texts

-- This project's profile: a length is from 1 to 1024.
abbrev pub longest : ℕ
longest = 1024

abbrev pub IsLength : ℕ → Type 0
IsLength len = (0 < len) × (len ≤ longest)

-- a text that a message can have
abbrev pub IsShort : List ℕ → Type 0
IsShort text = length text < 1024

-- the bytes are a message and what comes after it
pub record IsMessage (bytes text rest : List ℕ) : Type 0 where
  pub parts : bytes ≡ message text ++ rest
  pub short : IsShort text

-- What reading the message at the front gives: its text, None where more bytes are needed, or why it is refused.
abbrev pub ReadsMessage : List ℕ → Result (Option (List ℕ)) SelectFault → Type 0
ReadsMessage bytes (Ok (Some text)) = (rest : List ℕ) × IsMessage bytes text rest
-- the length isn't whole, or fewer bytes follow it
ReadsMessage bytes (Ok None) =
    ReadsShortest bytes (Ok None)
    ⊎ ((len : ℕ) × (part : List ℕ) × BeginsShortest bytes len part × IsLength len × (length part < len))
-- the length is badly spelt, or none that a message may have
ReadsMessage bytes (Err BadLength) = ((fault : WireFault) × ReadsShortest bytes (Err fault))
    ⊎ ((len : ℕ) × (rest : List ℕ) × BeginsShortest bytes len rest × ((len ≡ 0) ⊎ (1024 < len)))
-- the message is whole, and its last byte is no newline
ReadsMessage bytes (Err NoNewline) =
    (len : ℕ) × (rest : List ℕ) × BeginsShortest bytes len rest × IsLength len × (len ≤ length rest)
    × (slice_index rest (len - 1) ≢ 10)
ReadsMessage bytes (Err Failed) = ⊥
ReadsMessage bytes (Err BadHeader) = ⊥
ReadsMessage bytes (Err NotProposed) = ⊥
ReadsMessage bytes (Err OutOfMemory) = ⊥

-- a length that is badly spelt, or too large
abbrev pub of_refused : IncomingRefused → SelectFault
of_refused framing.Failed = Failed
of_refused framing.BadLength = BadLength
of_refused framing.TooLong = BadLength
of_refused framing.OutOfMemory = OutOfMemory

-- why a body has no text
abbrev pub IsNoText : List ℕ → SelectFault → Type 0
IsNoText body BadLength = body ≡ []
IsNoText body NoNewline = (0 < length body) × (slice_index body (length body - 1) ≢ 10)
IsNoText body Failed = ⊥
IsNoText body BadHeader = ⊥
IsNoText body NotProposed = ⊥
IsNoText body OutOfMemory = ⊥

-- ---- what holds of the reading of a message

-- Reading has one outcome.
abbrev pub OneMessage : Type 0
OneMessage = (bytes : List ℕ) (r s : Result (Option (List ℕ)) SelectFault)
    → ReadsMessage bytes r → ReadsMessage bytes s → r ≡ s

-- Reading of bytes has an outcome.
abbrev pub SomeMessage : Type 0
SomeMessage = (bytes : List ℕ) → ((i : ℕ) → slice_index bytes i < 256)
    → (outcome : Result (Option (List ℕ)) SelectFault) × ReadsMessage bytes outcome
