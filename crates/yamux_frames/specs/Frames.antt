-- The frames of a whole input (hashicorp yamux specification, "Framing"): each a header, and of Data the payload that
-- it announces, one frame after another, up to the first twelve bytes that are no header. Lists of arrivals have the
-- newest first.
use Rattle.std.specs.Prelude.{◌≡◌, ◌≢◌, ℕ, ◌-◌, ◌<◌, ◌≤◌, false, nat_lt, if◌then◌else◌, List, [], ◌∷◌, ◌++◌, length}
use Rattle.std.specs.Prelude.{take, None}
use Rattle.std.specs.List.{AllByRecursion}
use Rattle.yamux_frames.specs.declared.header.Header.{Header}
use Rattle.yamux_frames.specs.declared.header.FrameFault.{FrameFault}
use Rattle.yamux_frames.specs.declared.cutter.Cut.{Cut}
use Rattle.yamux_frames.specs.declared.cutter.Cut.TheVariants.{More, Part}
use Rattle.yamux_frames.specs.declared.cutter.Cut.TheVariants as cut
use Rattle.yamux_frames.specs.Spelling.{header_bytes, payload_length, IsHeader, HasFault}
use Rattle.yamux_frames.specs.Place.{Place}

-- What arrives: of each frame its head, the bytes of its payload one by one, and its tail, which is its end. Garbled:
-- twelve bytes that are no header
pub data Arrival : Type 0 where
  Head : Header → Arrival
  Byte : ℕ → Arrival
  Tail : Arrival
  Garbled : List ℕ → Arrival

abbrev pub spelling : Arrival → List ℕ
spelling (Head h) = header_bytes h
spelling (Byte b) = b ∷ []
spelling Tail = []
spelling (Garbled bytes) = bytes

abbrev pub spelled : List Arrival → List ℕ
spelled [] = []
spelled (x ∷ past) = spelled past ++ spelling x

-- how many bytes of the last payload are still to come
abbrev pub bytes_left : List Arrival → ℕ
bytes_left [] = 0
bytes_left (Head h ∷ past) = payload_length h
bytes_left (Byte b ∷ past) = bytes_left past - 1
bytes_left (Tail ∷ past) = 0
bytes_left (Garbled bytes ∷ past) = 0

-- the stream that the last header names
abbrev pub last_stream : List Arrival → ℕ
last_stream [] = 0
last_stream (Head h ∷ past) = h.stream
last_stream (Byte b ∷ past) = last_stream past
last_stream (Tail ∷ past) = last_stream past
last_stream (Garbled bytes ∷ past) = last_stream past

-- a header may come next
abbrev pub IsBetween : List Arrival → Type 0
IsBetween [] = Unit {0}
IsBetween (Tail ∷ past) = Unit {0}
IsBetween (Head h ∷ past) = ⊥
IsBetween (Byte b ∷ past) = ⊥
IsBetween (Garbled bytes ∷ past) = ⊥

-- a frame has a head and no tail yet
abbrev pub IsWithin : List Arrival → Type 0
IsWithin (Head h ∷ past) = Unit {0}
IsWithin (Byte b ∷ past) = Unit {0}
IsWithin [] = ⊥
IsWithin (Tail ∷ past) = ⊥
IsWithin (Garbled bytes ∷ past) = ⊥

-- a head, as many bytes as it says, and a tail, again and again, up to what is no header
abbrev pub AreFrames : List Arrival → Type 0
AreFrames [] = Unit {0}
AreFrames (Head h ∷ past) = IsBetween past × IsHeader h × AreFrames past
AreFrames (Byte b ∷ past) = (0 < bytes_left past) × AreFrames past
AreFrames (Tail ∷ past) = IsWithin past × (bytes_left past ≡ 0) × AreFrames past
AreFrames (Garbled bytes ∷ past) = IsBetween past × ((fault : FrameFault) × HasFault bytes fault) × AreFrames past

-- too little for what comes next: less than a header, or nothing of an unfinished payload. Behind what is no header
-- anything may stand
abbrev pub IsRest : List Arrival → List ℕ → Type 0
IsRest [] rest = length rest < 12
IsRest (Tail ∷ past) rest = length rest < 12
IsRest (Head h ∷ past) rest = (0 < payload_length h) × (rest ≡ [])
IsRest (Byte b ∷ past) rest = (0 < bytes_left past - 1) × (rest ≡ [])
IsRest (Garbled bytes ∷ past) rest = Unit {0}

-- the bytes are these frames, as many as there are, and then too little
pub record Reads (bytes : List ℕ) (frames : List Arrival) (rest : List ℕ) : Type 0 where
  pub whole : bytes ≡ spelled frames ++ rest
  pub frames_are : AreFrames frames
  pub rest_is : IsRest frames rest

-- twelve bytes that are no header haven't come
abbrev pub IsSound : List Arrival → Type 0
IsSound (Garbled bytes ∷ past) = ⊥
IsSound past = Unit {0}

-- a cutter that has used these bytes stands behind these frames, and has met no fault
pub record Stands (bytes : List ℕ) (frames : List Arrival) (place : Place) : Type 0 where
  pub going : place.fault ≡ None
  pub reads : Reads bytes frames place.part
  pub sound : IsSound frames
  pub left : place.left ≡ bytes_left frames
  pub stream : 0 < place.left → place.stream ≡ last_stream frames

-- the frames with these bytes of a payload, one after another
abbrev pub with_bytes : List ℕ → List Arrival → List Arrival
with_bytes [] past = past
with_bytes (b ∷ bytes) past = with_bytes bytes (Byte b ∷ past)

-- the frames with what an answer says to have arrived; the tail comes with the payload's last byte
abbrev pub with_cut : List ℕ → Cut → List Arrival → List Arrival
with_cut used More past = past
with_cut used (cut.Head h) past = if nat_lt 0 (payload_length h) then Head h ∷ past else Tail ∷ Head h ∷ past
with_cut used (Part stream from to last) past = if last then Tail ∷ with_bytes used past else with_bytes used past

-- an answer uses some of the piece, and a part is a range of it
abbrev pub Uses : List ℕ → ℕ → Cut → Type 0
Uses piece used More = used ≡ length piece
Uses piece used (cut.Head h) = (0 < used) × (used ≤ length piece)
Uses piece used (Part stream from to last) = (0 < used) × (used ≤ length piece) × (from ≡ 0) × (to ≡ used)

-- a header ends with the last byte that its answer uses
abbrev pub EndsExactly : Cut → Place → Type 0
EndsExactly (cut.Head h) place = place.part ≡ []
EndsExactly answer place = Unit {0}

-- a part that doesn't end its payload is the whole piece
abbrev pub IsLongest : List ℕ → Cut → Type 0
IsLongest piece (Part stream from to last) = last ≡ false → to ≡ length piece
IsLongest piece cut = Unit {0}

-- a part is of the stream that the last header names
abbrev pub IsOfLast : List Arrival → Cut → Type 0
IsOfLast past (Part stream from to last) = stream ≡ last_stream past
IsOfLast past cut = Unit {0}

-- behind these frames stand twelve bytes that are no header, and the piece has the last of them
pub record StopsIn (bytes : List ℕ) (past : List Arrival) (piece : List ℕ) (fault : FrameFault) : Type 0 where
  pub used : ℕ
  pub garbled : List ℕ
  pub within : used ≤ length piece
  pub why : HasFault garbled fault
  pub reads : Reads (bytes ++ take used piece) (Garbled garbled ∷ past) []

-- the frames end with a part of a header, or within a payload
abbrev pub IsMidFrame : List Arrival → List ℕ → Type 0
IsMidFrame [] rest = rest ≢ []
IsMidFrame (Tail ∷ past) rest = rest ≢ []
IsMidFrame (Head h ∷ past) rest = Unit {0}
IsMidFrame (Byte b ∷ past) rest = Unit {0}
IsMidFrame (Garbled bytes ∷ past) rest = ⊥

-- the bytes end within a frame
pub record EndsWithin (bytes : List ℕ) : Type 0 where
  pub frames : List Arrival
  pub rest : List ℕ
  pub reads : Reads bytes frames rest
  pub mid_frame : IsMidFrame frames rest

-- bytes are read in one way
abbrev pub OneReading : Type 0
OneReading = (bytes : List ℕ) (frames others : List Arrival) (rest more : List ℕ) → Reads bytes frames rest
    → Reads bytes others more
    → (frames ≡ others) × (rest ≡ more)

-- all bytes are read
abbrev pub SomeReading : Type 0
SomeReading = (bytes : List ℕ) → AllByRecursion (λ b. b < 256) bytes
    → (frames : List Arrival) × (rest : List ℕ) × Reads bytes frames rest
