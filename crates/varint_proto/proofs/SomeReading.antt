-- All bytes have a reading: a message, or a fault.
use Rattle.std.proofs.Common.{◌≡◌, ◌≢◌, ◌⊎◌, ℕ, zero, suc, ◌+◌, ◌*◌, ◌/◌, ◌%◌, ◌^◌, ◌<◌, ◌≤◌, List, [], ◌∷◌, ◌++◌, length, get_or, take, drop, refl, sym, ap, subst, ◌∙◌, arith, inl, inr}
use Rattle.std.proofs.lemmas.Bool.{cases_lt, cases_eq}
use Rattle.std.proofs.lemmas.List.{take-append-drop, length-take-le, get_or_append_left}
use Rattle.varint_proto.specs.declared.fault.WireFault.{WireFault}
use Rattle.varint_proto.specs.declared.fault.WireFault.TheVariants.{TooLong, NotShortest, Cut, BadNumber, BadWire}
use Rattle.varint_proto.specs.Varint.{IsSpelling, IsUnended, value_of, BeginsWide, WideFault}
use Rattle.varint_proto.specs.Message.{Entry, entry, Content, Varint, Fixed64, Bytes, Fixed32, wire_type, BeginsContent, Begins, IsTag, ValueFault, FaultAfterTag, FieldFault, IsMessage, FaultIn, SomeReading}
use Rattle.varint_proto.proofs.Spellings.{nine_fit, ten_fit}
use Rattle.varint_proto.proofs.Shortest.{spelling_cons}
use Rattle.varint_proto.proofs.Front.{take_all}
use Rattle.varint_proto.proofs.Messages.{body_begins, field_begins}
use Rattle.varint_proto.proofs.OneReading.{begins_shorter, ended_within}

-- ---- varints

-- a spelling of at most k bytes stands at the front
record Split (bytes : List ℕ) (k : ℕ) : Type 0 where
  spelling : List ℕ
  rest : List ℕ
  ends : IsSpelling spelling
  within : length spelling ≤ k
  parts : bytes ≡ spelling ++ rest

split : (bytes : List ℕ) (k : ℕ) → Split bytes k ⊎ IsUnended (take k bytes)
split bytes zero = inr tt
split [] (suc k) = inr tt
split (b ∷ bytes) (suc k) = elim (cases_lt b 128) [
  | inl last ↦ inl (record { spelling = b ∷ []; rest = bytes; ends = last; within = omega arith; parts = refl })
  | inr top ↦ elim (split bytes k) [
    | inl h ↦ inl (record { spelling = b ∷ h.spelling; rest = h.rest; ends = spelling_cons b h.spelling top h.ends; within = omega (arith, h.within); parts = ap (λ (t : List ℕ). b ∷ t) h.parts })
    | inr h ↦ inr (top, h)
  ]
]

unended_place : (bytes : List ℕ) (k n : ℕ) → IsUnended (take k bytes) → n < k → n < length bytes → 128 ≤ get_or bytes n 0
unended_place bytes zero n h lt in_bytes = absurd (omega arith)
unended_place [] (suc k) n h lt in_bytes = absurd (omega arith)
unended_place (b ∷ bytes) (suc k) zero h lt in_bytes = h.0
unended_place (b ∷ bytes) (suc k) (suc n) h lt in_bytes = unended_place bytes k n h.1 (omega arith) (omega arith)

Wide : List ℕ → Type 0
Wide bytes = ((n : ℕ) × (rest : List ℕ) × BeginsWide bytes n rest) ⊎ ((fault : WireFault) × WideFault bytes fault)

begins : (bytes : List ℕ) (k : ℕ) (h : Split bytes k) → length h.spelling ≤ 10 → value_of h.spelling < 2 ^ 64 → (n : ℕ) × (rest : List ℕ) × BeginsWide bytes n rest
begins bytes k h short fits = (value_of h.spelling, h.rest, (h.spelling, record { ends = h.ends; within = short; fits = fits; value = refl }, h.parts))

-- the tenth byte ends the spelling
tenth : (bytes : List ℕ) (h : Split bytes 10) → IsUnended (take 9 bytes) → get_or bytes 9 0 ≤ 1 → value_of h.spelling < 2 ^ 64
tenth bytes h nine low = elim (cases_lt 9 (length h.spelling)) [
  | inr less ↦ absurd (ended_within h.spelling h.rest 9 h.ends less (subst (λ (b : List ℕ). IsUnended (take 9 b)) h.parts nine))
  | inl more ↦
      let same : get_or bytes 9 0 ≡ get_or h.spelling 9 0 = ap (λ (b : List ℕ). get_or b 9 0) h.parts ∙ get_or_append_left h.spelling h.rest 0 9 more in
      ten_fit h.spelling (omega (arith, h.within, more)) (omega (arith, same, low))
]

wide : (bytes : List ℕ) → Wide bytes
unfolding Wide
wide bytes = elim (split bytes 9) [
  | inl h ↦ inl (begins bytes 9 h (omega (arith, h.within)) (omega (arith, nine_fit h.spelling h.within)))
  | inr nine ↦ elim (cases_lt (length bytes) 10) [
    | inl less ↦ inr (Cut, (subst IsUnended (take_all bytes 9 (omega arith)) nine, less))
    | inr more ↦ elim (cases_lt 1 (get_or bytes 9 0)) [
      | inl high ↦ inr (TooLong, (nine, more, high))
      | inr low ↦ elim (split bytes 10) [
        | inl h ↦ inl (begins bytes 10 h h.within (tenth bytes h nine low))
        | inr ten ↦ absurd (omega (arith, low, unended_place bytes 10 9 ten (omega arith) (omega arith)))
      ]
    ]
  ]
]

-- ---- values

ValueOf : ℕ → List ℕ → Type 0
ValueOf wire bytes = ((c : Content) × (rest : List ℕ) × (wire ≡ wire_type c) × BeginsContent bytes c rest) ⊎ ((fault : WireFault) × (fault ≢ BadNumber) × ValueFault wire bytes fault)

varint_value : (bytes : List ℕ) → ValueOf 0 bytes
unfolding ValueOf Wide
varint_value bytes = elim (wide bytes) [
  | inl h ↦ inl (Varint h.0, h.1, refl, h.2)
  | inr (TooLong, h) ↦ inr (TooLong, (λ e. cc), (inl refl, h))
  | inr (Cut, h) ↦ inr (Cut, (λ e. cc), inl (inl refl, h))
  | inr (NotShortest, h) ↦ absurd h
  | inr (BadNumber, h) ↦ absurd h
  | inr (BadWire, h) ↦ absurd h
]

bytes_value : (bytes : List ℕ) → ValueOf 2 bytes
unfolding ValueOf Wide
bytes_value bytes = elim (wide bytes) [
  | inl h ↦ elim (cases_lt (length h.1) h.0) [
    | inl short ↦ inr (Cut, (λ e. cc), inr (inr (inl (refl, (h.0, h.1, h.2, short)))))
    | inr enough ↦ inl (Bytes (take h.0 h.1), drop h.0 h.1, refl, body_begins bytes h.1 h.0 h.2 enough)
  ]
  | inr (TooLong, h) ↦ inr (TooLong, (λ e. cc), (inr refl, h))
  | inr (Cut, h) ↦ inr (Cut, (λ e. cc), inl (inr refl, h))
  | inr (NotShortest, h) ↦ absurd h
  | inr (BadNumber, h) ↦ absurd h
  | inr (BadWire, h) ↦ absurd h
]

eight_value : (bytes : List ℕ) → ValueOf 1 bytes
unfolding ValueOf
eight_value bytes = elim (cases_lt (length bytes) 8) [
  | inl short ↦ inr (Cut, (λ e. cc), inr (inl (refl, short)))
  | inr enough ↦ inl (Fixed64 (take 8 bytes), drop 8 bytes, refl, (take 8 bytes, (refl, length-take-le 8 bytes enough), sym (take-append-drop 8 bytes)))
]

four_value : (bytes : List ℕ) → ValueOf 5 bytes
unfolding ValueOf
four_value bytes = elim (cases_lt (length bytes) 4) [
  | inl short ↦ inr (Cut, (λ e. cc), inr (inr (inr (refl, short))))
  | inr enough ↦ inl (Fixed32 (take 4 bytes), drop 4 bytes, refl, (take 4 bytes, (refl, length-take-le 4 bytes enough), sym (take-append-drop 4 bytes)))
]

value : (wire : ℕ) (bytes : List ℕ) → ValueOf wire bytes
unfolding ValueOf
value wire bytes = elim (cases_eq wire 0) [
  | inl e ↦ subst (λ (w : ℕ). ValueOf w bytes) (sym e) (varint_value bytes)
  | inr zero-not ↦ elim (cases_eq wire 1) [
    | inl e ↦ subst (λ (w : ℕ). ValueOf w bytes) (sym e) (eight_value bytes)
    | inr one-not ↦ elim (cases_eq wire 2) [
      | inl e ↦ subst (λ (w : ℕ). ValueOf w bytes) (sym e) (bytes_value bytes)
      | inr two-not ↦ elim (cases_eq wire 5) [
        | inl e ↦ subst (λ (w : ℕ). ValueOf w bytes) (sym e) (four_value bytes)
        | inr five-not ↦ inr (BadWire, (λ e. cc), (zero-not, one-not, two-not, five-not))
      ]
    ]
  ]
]

-- ---- fields

after_tag : (tag : ℕ) (rest : List ℕ) (fault : WireFault) → fault ≢ BadNumber → IsTag tag → ValueFault (tag % 8) rest fault → FaultAfterTag tag rest fault
after_tag tag rest BadNumber n t h = absurd (n refl)
after_tag tag rest TooLong n t h = (t, h)
after_tag tag rest NotShortest n t h = (t, h)
after_tag tag rest Cut n t h = (t, h)
after_tag tag rest BadWire n t h = (t, h)

FieldOf : List ℕ → Type 0
FieldOf bytes = ((f : Entry) × (rest : List ℕ) × Begins bytes f rest) ⊎ ((fault : WireFault) × FieldFault bytes fault)

behind_tag : (bytes : List ℕ) (tag : ℕ) (rest : List ℕ) → BeginsWide bytes tag rest → FieldOf bytes
unfolding FieldOf ValueOf
behind_tag bytes tag rest b = elim (cases_lt tag 8) [
  | inl low ↦ inr (BadNumber, inr (tag, rest, b, inl low))
  | inr high ↦ elim (cases_lt tag (2 ^ 32)) [
    | inr large ↦ inr (BadNumber, inr (tag, rest, b, inr large))
    | inl fits ↦ elim (value (tag % 8) rest) [
      | inl h ↦
          let f : Entry = entry (tag / 8) h.0 in
          let same : tag ≡ 8 * f.number + wire_type f.content = omega (arith, h.2) in
          inl (f, h.1, field_begins bytes rest h.1 f (subst IsTag same (high, fits)) (subst (λ (t : ℕ). BeginsWide bytes t rest) same b) h.3)
      | inr h ↦ inr (h.0, inr (tag, rest, b, after_tag tag rest h.0 h.1 (high, fits) h.2))
    ]
  ]
]

field : (bytes : List ℕ) → 0 < length bytes → FieldOf bytes
unfolding FieldOf Wide
field bytes some = elim (wide bytes) [
  | inl h ↦ behind_tag bytes h.0 h.1 h.2
  | inr h ↦ inr (h.0, inl (some, h.1))
]

-- ---- messages

Reading : List ℕ → Type 0
Reading bytes = ((fields : List Entry) × IsMessage bytes fields) ⊎ ((fault : WireFault) × FaultIn bytes fault)

reading : (n : ℕ) (bytes : List ℕ) → length bytes ≤ n → Reading bytes
unfolding Reading FieldOf
reading n [] le = inl ([], refl)
reading zero (b ∷ bytes) le = absurd (omega arith)
reading (suc n) (b ∷ bytes) le = elim (field (b ∷ bytes) (omega arith)) [
  | inr h ↦ inr (h.0, ([], b ∷ bytes, refl, h.1))
  | inl h ↦ elim (reading n h.1 (omega (arith, begins_shorter (b ∷ bytes) h.0 h.1 h.2))) [
    | inl rest ↦ inl (h.0 ∷ rest.0, (h.1, h.2, rest.1))
    | inr rest ↦ inr (rest.0, (h.0 ∷ rest.1.0, rest.1.1, (h.1, h.2, rest.1.2), rest.1.3))
  ]
]

pub some_reading : SomeReading
unfolding Reading
some_reading bytes = reading (length bytes) bytes (omega arith)
