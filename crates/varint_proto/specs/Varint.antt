-- Base-128 varints: the unsigned varint of multiformats (unsigned-varint, "Specification"), and the wider
-- one of protobuf (Protocol Buffers, "Encoding", base 128 varints).
use Rattle.std.specs.Prelude.{◌≡◌, ◌≢◌, ℕ, zero, suc, ◌+◌, ◌-◌, ◌*◌, ◌/◌, ◌%◌, ◌^◌, ◌<◌, ◌≤◌, nat_lt, List, [], ◌∷◌}
use Rattle.std.specs.Prelude.{◌++◌, length, take, drop, slice_index, All, Option, Some, None, Result, Ok, Err}
use Rattle.std.specs.Prelude.{if◌then◌else◌}
use Rattle.std.specs.List.{AllByRecursion}
use Rattle.varint_proto.specs.declared.fault.WireFault.{WireFault}
use Rattle.varint_proto.specs.declared.fault.WireFault.TheVariants.{TooLong, NotShortest, Cut, BadNumber, BadWire}

-- The top bit is set on every byte but the last.
abbrev pub IsSpelling : List ℕ → Type 0
IsSpelling [] = ⊥
IsSpelling (b ∷ []) = b < 128
IsSpelling (b ∷ c ∷ bytes) = (128 ≤ b) × IsSpelling (c ∷ bytes)

-- the sum of (byte mod 128) * 128 ^ place
abbrev pub value_of : List ℕ → ℕ
value_of [] = 0
value_of (b ∷ bytes) = b % 128 + 128 * value_of bytes

-- A spelling of several bytes, the last of which adds nothing.
pub record EndsInZero (bytes : List ℕ) : Type 0 where
  pub ends : IsSpelling bytes
  pub within : length bytes ≤ 9
  pub several : 1 < length bytes
  pub zero : slice_index bytes (length bytes - 1) ≡ 0

-- Multiformats: at most nine bytes, the last one not 0 unless it is alone.
pub record SpellsShortest (bytes : List ℕ) (n : ℕ) : Type 0 where
  pub ends : IsSpelling bytes
  pub within : length bytes ≤ 9
  pub shortest : 1 < length bytes → slice_index bytes (length bytes - 1) ≢ 0
  pub value : value_of bytes ≡ n

-- Protobuf: at most ten bytes, of a value below 2 ^ 64.
pub record SpellsWide (bytes : List ℕ) (n : ℕ) : Type 0 where
  pub ends : IsSpelling bytes
  pub within : length bytes ≤ 10
  pub fits : n < 2 ^ 64
  pub value : value_of bytes ≡ n

-- No byte ends a spelling.
abbrev pub IsUnended : List ℕ → Type 0
IsUnended bytes = AllByRecursion (λ b. 128 ≤ b) bytes

-- What keeps the bytes from beginning with a protobuf varint.
abbrev pub WideFault : List ℕ → WireFault → Type 0
WideFault bytes Cut = IsUnended bytes × (length bytes < 10)
WideFault bytes TooLong = IsUnended (take 9 bytes) × (10 ≤ length bytes) × (1 < slice_index bytes 9)
WideFault bytes NotShortest = ⊥
WideFault bytes BadNumber = ⊥
WideFault bytes BadWire = ⊥

-- What reading a multiformats varint at the front gives: the number and the length of its spelling.
abbrev pub ReadsShortest : List ℕ → Result (Option (ℕ × ℕ)) WireFault → Type 0
ReadsShortest bytes (Ok (Some found)) = (found.1 ≤ length bytes) × SpellsShortest (take found.1 bytes) found.0
-- more bytes are needed
ReadsShortest bytes (Ok None) = IsUnended bytes × (length bytes < 9)
ReadsShortest bytes (Err TooLong) = IsUnended (take 9 bytes) × (9 ≤ length bytes)
ReadsShortest bytes (Err NotShortest) = (len : ℕ) × (len ≤ length bytes) × EndsInZero (take len bytes)
ReadsShortest bytes (Err Cut) = ⊥
ReadsShortest bytes (Err BadNumber) = ⊥
ReadsShortest bytes (Err BadWire) = ⊥

-- the one shortest spelling, of up to so many bytes and one more
unfoldable pub shortest_within : ℕ → ℕ → List ℕ
shortest_within zero n = n ∷ []
shortest_within (suc k) n = if nat_lt n 128 then n ∷ [] else (n % 128 + 128) ∷ shortest_within k (n / 128)

-- the one shortest spelling of a number below 2 ^ 64
unfoldable pub shortest : ℕ → List ℕ
shortest n = shortest_within 9 n

-- A protobuf varint stands at the front, and the rest follows it.
abbrev pub BeginsWide : List ℕ → ℕ → List ℕ → Type 0
BeginsWide bytes n rest = (spelling : List ℕ) × SpellsWide spelling n × (bytes ≡ spelling ++ rest)

-- A multiformats varint stands at the front, and the rest follows it.
abbrev pub BeginsShortest : List ℕ → ℕ → List ℕ → Type 0
BeginsShortest bytes n rest = (spelling : List ℕ) × SpellsShortest spelling n × (bytes ≡ spelling ++ rest)

-- ---- what holds of the reading of a multiformats varint

-- What is read stands at the front.
abbrev pub Takes : Type 0
Takes = (bytes : List ℕ) (n len : ℕ) → ReadsShortest bytes (Ok (Some (n, len)))
    → BeginsShortest bytes n (drop len bytes)

-- What stands at the front is read, whatever follows it.
abbrev pub Again : Type 0
Again = (spelling rest : List ℕ) (n : ℕ) → SpellsShortest spelling n
    → ReadsShortest (spelling ++ rest) (Ok (Some (n, length spelling)))

-- An outcome that asks for no more bytes stays when bytes are added.
abbrev pub Stays : Type 0
Stays = (bytes more : List ℕ) (outcome : Result (Option (ℕ × ℕ)) WireFault)
    → outcome ≢ Ok None → ReadsShortest bytes outcome → ReadsShortest (bytes ++ more) outcome

-- The length of what is read lies within the bytes, and within nine, and the number is below 2 ^ 63.
abbrev pub Inside : Type 0
Inside = (bytes : List ℕ) (n len : ℕ) → ReadsShortest bytes (Ok (Some (n, len)))
    → (0 < len) × (len ≤ length bytes) × (len ≤ 9) × (n < 2 ^ 63)

-- A varint becomes whole at its last byte.
abbrev pub EndsAt : Type 0
EndsAt = (bytes : List ℕ) (b n len : ℕ) → ReadsShortest bytes (Ok None)
    → ReadsShortest (bytes ++ b ∷ []) (Ok (Some (n, len))) → len ≡ length bytes + 1

-- Reading has one outcome, and some outcome.
abbrev pub OneOutcome : Type 0
OneOutcome = (bytes : List ℕ) (r s : Result (Option (ℕ × ℕ)) WireFault) → ReadsShortest bytes r
    → ReadsShortest bytes s → r ≡ s

abbrev pub SomeOutcome : Type 0
SomeOutcome = (bytes : List ℕ) → (outcome : Result (Option (ℕ × ℕ)) WireFault) × ReadsShortest bytes outcome

-- ---- spellings

-- No spelling begins another: where two stand at the front of the same bytes, they are one.
abbrev pub NoSpellingBeginsAnother : Type 0
NoSpellingBeginsAnother = (a b x y : List ℕ) → IsSpelling a → IsSpelling b → a ++ x ≡ b ++ y
    → (a ≡ b) × (x ≡ y)

-- `shortest n` is the multiformats spelling of n, where there is one, and a protobuf spelling of n.
pub record ShortestSpells : Type 0 where
  pub multiformats : (n : ℕ) → n < 2 ^ 63 → SpellsShortest (shortest n) n
  pub protobuf : (n : ℕ) → n < 2 ^ 64 → SpellsWide (shortest n) n

-- It is the only multiformats spelling of n in bytes, and no protobuf spelling of n has fewer bytes.
pub record NoneIsShorter : Type 0 where
  pub multiformats : (bytes : List ℕ) (n : ℕ) → All (λ b. b < 256) bytes
      → SpellsShortest bytes n → bytes ≡ shortest n
  pub protobuf : (bytes : List ℕ) (n : ℕ) → SpellsWide bytes n → length (shortest n) ≤ length bytes
