-- A protobuf message: a list of fields, whose spellings joined are its bytes (Protocol Buffers, "Encoding",
-- message structure). Groups and tags of 2 ^ 32 or more are not read: this project's profile.
use Rattle.std.specs.Prelude.{Result, IsOkAnd, IsSomeAnd, ◌≡◌, ◌≢◌, ◌⊎◌, ℕ, ◌+◌, ◌*◌, ◌%◌, ◌^◌, ◌<◌, ◌≤◌, ◌==◌, List}
use Rattle.std.specs.Prelude.{[], ◌∷◌, ◌++◌, length, Option, Some, None, if◌then◌else◌}
use Rattle.std.specs.List.{filter_map, flat_map, last_or, AllByRecursion}
use Rattle.varint_proto.specs.declared.fault.WireFault.{WireFault}
use Rattle.varint_proto.specs.declared.fault.WireFault.TheVariants.{TooLong, NotShortest, Cut, BadNumber, BadWire}
use Rattle.varint_proto.specs.declared.message.Field.{Field}
use Rattle.varint_proto.specs.declared.message.Value.{Value}
use Rattle.varint_proto.specs.declared.message.Value.TheVariants as values
use Rattle.varint_proto.specs.Varint.{SpellsWide, BeginsWide, WideFault, shortest}

-- what a field holds
pub data Content : Type 0 where
  Varint : ℕ → Content
  Fixed64 : List ℕ → Content
  Bytes : List ℕ → Content
  Fixed32 : List ℕ → Content

-- a field without where it lies in memory
pub record Entry : Type 0 where
  pub number : ℕ
  pub content : Content

abbrev pub entry : ℕ → Content → Entry
entry number content = record { number = number; content = content }

abbrev pub content_of : Value → Content
content_of (values.Varint n) = Varint n
content_of (values.Fixed64 bytes) = Fixed64 bytes
content_of (values.Bytes body) = Bytes body.now
content_of (values.Fixed32 bytes) = Fixed32 bytes

abbrev pub entry_of : Field → Entry
entry_of f = record { number = f.number; content = content_of f.value }

abbrev pub wire_type : Content → ℕ
wire_type (Varint n) = 0
wire_type (Fixed64 bytes) = 1
wire_type (Bytes body) = 2
wire_type (Fixed32 bytes) = 5

abbrev pub SpellsContent : List ℕ → Content → Type 0
SpellsContent bytes (Varint n) = SpellsWide bytes n
SpellsContent bytes (Fixed64 eight) = (bytes ≡ eight) × (length eight ≡ 8)
SpellsContent bytes (Bytes body) = BeginsWide bytes (length body) body
SpellsContent bytes (Fixed32 four) = (bytes ≡ four) × (length four ≡ 4)

-- A value stands at the front, and the rest follows it.
abbrev pub BeginsContent : List ℕ → Content → List ℕ → Type 0
BeginsContent bytes content rest = (spelling : List ℕ) × SpellsContent spelling content
    × (bytes ≡ spelling ++ rest)

-- A field's tag is its number times 8 plus its wire type, and fits 32 bits.
abbrev pub IsTag : ℕ → Type 0
IsTag tag = (8 ≤ tag) × (tag < 2 ^ 32)

-- a tag, and then a value
pub record SpellsField (bytes : List ℕ) (f : Entry) : Type 0 where
  pub value : List ℕ
  pub fits : IsTag (8 * f.number + wire_type f.content)
  pub tag : BeginsWide bytes (8 * f.number + wire_type f.content) value
  pub content : SpellsContent value f.content

-- A field stands at the front, and the rest follows it.
abbrev pub Begins : List ℕ → Entry → List ℕ → Type 0
Begins bytes f rest = (spelling : List ℕ) × SpellsField spelling f × (bytes ≡ spelling ++ rest)

-- The spellings of these fields joined, and then the rest, are the bytes.
abbrev pub Leads : List ℕ → List Entry → List ℕ → Type 0
Leads bytes [] rest = bytes ≡ rest
Leads bytes (f ∷ fields) rest = (middle : List ℕ) × Begins bytes f middle × Leads middle fields rest

-- The spellings of these fields joined are the bytes.
abbrev pub IsMessage : List ℕ → List Entry → Type 0
IsMessage bytes fields = Leads bytes fields []

-- ---- what keeps bytes from being a message

-- A length stands at the front, and fewer bytes follow it.
abbrev pub IsShortOfLength : List ℕ → Type 0
IsShortOfLength bytes = (len : ℕ) × (rest : List ℕ) × BeginsWide bytes len rest × (length rest < len)

-- What keeps the bytes behind a tag from beginning with a value of this wire type.
abbrev pub ValueFault : ℕ → List ℕ → WireFault → Type 0
ValueFault wire bytes TooLong = ((wire ≡ 0) ⊎ (wire ≡ 2)) × WideFault bytes TooLong
ValueFault wire bytes Cut = (((wire ≡ 0) ⊎ (wire ≡ 2)) × WideFault bytes Cut)
    ⊎ ((wire ≡ 1) × (length bytes < 8))
    ⊎ ((wire ≡ 2) × IsShortOfLength bytes) ⊎ ((wire ≡ 5) × (length bytes < 4))
ValueFault wire bytes BadWire = (wire ≢ 0) × (wire ≢ 1) × (wire ≢ 2) × (wire ≢ 5)
ValueFault wire bytes BadNumber = ⊥
ValueFault wire bytes NotShortest = ⊥

-- What is wrong behind a well spelt tag: the tag itself comes first.
abbrev pub FaultAfterTag : ℕ → List ℕ → WireFault → Type 0
FaultAfterTag tag rest BadNumber = (tag < 8) ⊎ (2 ^ 32 ≤ tag)
FaultAfterTag tag rest fault = IsTag tag × ValueFault (tag % 8) rest fault

-- What keeps the bytes, of which there are some, from beginning with a field.
abbrev pub FieldFault : List ℕ → WireFault → Type 0
FieldFault bytes fault = ((0 < length bytes) × WideFault bytes fault)
    ⊎ ((tag : ℕ) × (rest : List ℕ) × BeginsWide bytes tag rest × FaultAfterTag tag rest fault)

-- The first field without a spelling has this fault.
abbrev pub FaultIn : List ℕ → WireFault → Type 0
FaultIn bytes fault = (fields : List Entry) × (rest : List ℕ) × Leads bytes fields rest × FieldFault rest fault

-- A reader of fields answered this one.
abbrev pub IsField : Result (Option Field) WireFault → Entry → Type 0
IsField result f = IsOkAnd result (λ read. IsSomeAnd read (λ field. entry_of field ≡ f))

-- ---- the values of the fields of one number, where they are of its own wire type

abbrev pub varint_in : Content → Option ℕ
varint_in (Varint n) = Some n
varint_in (Fixed64 bytes) = None
varint_in (Bytes body) = None
varint_in (Fixed32 bytes) = None

abbrev pub body_in : Content → Option (List ℕ)
body_in (Varint n) = None
body_in (Fixed64 bytes) = None
body_in (Bytes body) = Some body
body_in (Fixed32 bytes) = None

abbrev pub varint_at : ℕ → Entry → Option ℕ
varint_at number f = if f.number == number then varint_in f.content else None

abbrev pub body_at : ℕ → Entry → Option (List ℕ)
body_at number f = if f.number == number then body_in f.content else None

-- all of them, in order
abbrev pub all_varints : ℕ → List Entry → List ℕ
all_varints number fields = filter_map (varint_at number) fields

abbrev pub all_bodies : ℕ → List Entry → List (List ℕ)
all_bodies number fields = filter_map (body_at number) fields

-- the last of them
abbrev pub last_varint : ℕ → List Entry → Option ℕ
last_varint number fields = last_or None (all_varints number fields)

abbrev pub last_body : ℕ → List Entry → Option (List ℕ)
last_body number fields = last_or None (all_bodies number fields)

-- ---- the shortest spelling of a field

abbrev pub shortest_content : Content → List ℕ
shortest_content (Varint n) = shortest n
shortest_content (Fixed64 bytes) = bytes
shortest_content (Bytes body) = shortest (length body) ++ body
shortest_content (Fixed32 bytes) = bytes

abbrev pub shortest_field : Entry → List ℕ
shortest_field f = shortest (8 * f.number + wire_type f.content) ++ shortest_content f.content

-- ---- readings

-- All bytes are a message or have a fault.
abbrev pub SomeReading : Type 0
SomeReading = (bytes : List ℕ) → ((fields : List Entry) × IsMessage bytes fields)
    ⊎ ((fault : WireFault) × FaultIn bytes fault)

-- Bytes have one reading: one list of fields or one first fault, and not both.
pub record OneReading : Type 0 where
  pub message : (bytes : List ℕ) (fields others : List Entry)
      → IsMessage bytes fields → IsMessage bytes others → fields ≡ others
  pub fault : (bytes : List ℕ) (fault other : WireFault)
      → FaultIn bytes fault → FaultIn bytes other → fault ≡ other
  pub either : (bytes : List ℕ) (fields : List Entry) (fault : WireFault)
      → IsMessage bytes fields → ¬ FaultIn bytes fault

-- ---- writing

-- What a field can hold.
abbrev pub FitsContent : Content → Type 0
FitsContent (Varint n) = n < 2 ^ 64
FitsContent (Fixed64 bytes) = length bytes ≡ 8
FitsContent (Bytes body) = length body < 2 ^ 64
FitsContent (Fixed32 bytes) = length bytes ≡ 4

-- A field that can be written.
abbrev pub IsWritable : Entry → Type 0
IsWritable f = IsTag (8 * f.number + wire_type f.content) × FitsContent f.content

-- The shortest spellings of fields, joined, are read back as these fields.
abbrev pub WrittenIsRead : Type 0
WrittenIsRead = (fields : List Entry) → AllByRecursion IsWritable fields
    → IsMessage (flat_map shortest_field fields) fields
