-- How the reading of a multiformats varint goes on when bytes are added.
use Rattle.std.proofs.Common.{◌≡◌, ℕ, zero, suc, ◌-◌, ◌^◌, ◌<◌, ◌≤◌, List, [], ◌∷◌, ◌++◌, length, get_or, take, drop, Option, Some, None, Result, Ok, Err, refl, sym, ap, subst, ◌∙◌, arith, inl, inr, position}
use Rattle.std.proofs.Math.Seq.{take-append_seam}
use Rattle.std.proofs.lemmas.Bool.{cases_lt, cases_eq}
use Rattle.std.proofs.lemmas.List.{take-append-drop, take-append-le, length-append, length-take, length-take-le}
use Rattle.varint_proto.specs.declared.fault.WireFault.{WireFault}
use Rattle.varint_proto.specs.declared.fault.WireFault.TheVariants.{TooLong, NotShortest, Cut, BadNumber, BadWire}
use Rattle.varint_proto.specs.Varint.{IsSpelling, IsUnended, value_of, SpellsShortest, EndsInZero, ReadsShortest, BeginsShortest, Takes, Again, Stays, Inside, EndsAt, SomeOutcome}
use Rattle.varint_proto.proofs.OneReading.{ended, one_spelling}
use Rattle.varint_proto.proofs.Spellings.{ends_spelling, spelling_at, unended_at, nine_fit}

pub takes : Takes
takes bytes n len h = (take len bytes, h.1, sym (take-append-drop len bytes))

pub again : Again
again spelling rest n h = (omega (arith, length-append spelling rest), rw take-append_seam h)

same_front : (bytes more : List ℕ) (n : ℕ) → n ≤ length bytes → take n bytes ≡ take n (bytes ++ more)
same_front bytes more n le = sym (take-append-le n bytes more le)

pub stays : Stays
stays bytes more (Ok (Some found)) ne h = (omega (arith, length-append bytes more, h.0), subst (λ (t : List ℕ). SpellsShortest t found.0) (same_front bytes more found.1 h.0) h.1)
stays bytes more (Ok None) ne h = absurd (ne refl)
stays bytes more (Err TooLong) ne h = (subst IsUnended (same_front bytes more 9 h.1) h.0, omega (arith, length-append bytes more, h.1))
stays bytes more (Err NotShortest) ne h = (h.0, omega (arith, length-append bytes more, h.1), subst EndsInZero (same_front bytes more h.0 h.1) h.2)
stays bytes more (Err Cut) ne h = h
stays bytes more (Err BadNumber) ne h = h
stays bytes more (Err BadWire) ne h = h

some : (a : List ℕ) → IsSpelling a → 0 < length a
some [] p = absurd p
some (b ∷ a) p = omega arith

pub inside : Inside
inside bytes n len h =
    let size : length (take len bytes) ≡ len = length-take-le len bytes h.0 in
    (omega (arith, size, some (take len bytes) h.1.ends), h.0, omega (arith, size, h.1.within), subst (λ (m : ℕ). m < 2 ^ 63) h.1.value (nine_fit (take len bytes) h.1.within))

pub ends_at : EndsAt
ends_at bytes b n len none h = elim (cases_lt (length bytes) len) [
  | inl less ↦ omega (arith, h.0, length-append bytes (b ∷ []))
  | inr more ↦
      let here : IsSpelling (take len bytes) = subst IsSpelling (take-append-le len bytes (b ∷ []) more) h.1.ends in
      absurd (ended (take len bytes) (drop len bytes) here (rw take-append-drop none.0))
]

pub take_all : (bytes : List ℕ) (n : ℕ) → length bytes ≤ n → take n bytes ≡ bytes
take_all [] zero le = refl
take_all [] (suc n) le = refl
take_all (b ∷ bytes) zero le = absurd (omega arith)
take_all (b ∷ bytes) (suc n) le = ap (λ (t : List ℕ). b ∷ t) (take_all bytes n (omega arith))

outcome_of : (bytes : List ℕ) (len : ℕ) → len ≤ length bytes → len ≤ 9 → IsSpelling (take len bytes) → (outcome : Result (Option (ℕ × ℕ)) WireFault) × ReadsShortest bytes outcome
outcome_of bytes len le nine ends =
    let within : length (take len bytes) ≤ 9 = omega (arith, length-take-le len bytes le) in
    elim (cases_eq (get_or (take len bytes) (length (take len bytes) - 1) 0) 0) [
      | inr counts ↦ (Ok (Some (value_of (take len bytes), len)), (le, record { ends = ends; within = within; shortest = λ several. counts; value = refl }))
      | inl nothing ↦ elim (cases_lt 1 (length (take len bytes))) [
        | inl several ↦ (Err NotShortest, (len, le, record { ends = ends; within = within; several = several; zero = nothing }))
        | inr one ↦ (Ok (Some (value_of (take len bytes), len)), (le, record { ends = ends; within = within; shortest = λ several. absurd (omega (arith, one, several)); value = refl }))
      ]
    ]

outcome_at : (bytes : List ℕ) (place : Option ℕ) → position ends_spelling (take 9 bytes) ≡ place → (outcome : Result (Option (ℕ × ℕ)) WireFault) × ReadsShortest bytes outcome
outcome_at bytes None e = elim (cases_lt (length bytes) 9) [
  | inl less ↦ (Ok None, (subst IsUnended (take_all bytes 9 (omega arith)) (unended_at (take 9 bytes) e), less))
  | inr more ↦ (Err TooLong, (unended_at (take 9 bytes) e, more))
]
outcome_at bytes (Some n) e =
    let found = spelling_at (take 9 bytes) n e in
    let size : length (take 9 bytes) ≤ 9 = omega (arith, length-take 9 bytes) in
    let less : length (take 9 bytes) ≤ length bytes = omega (arith, length-take 9 bytes) in
    let same : take (suc n) (take 9 bytes) ≡ take (suc n) bytes = rw take-append-drop at (sym (take-append-le (suc n) (take 9 bytes) (drop 9 bytes) (omega (arith, found.0)))) in
    outcome_of bytes (suc n) (omega (arith, found.0, less)) (omega (arith, found.0, size)) (subst IsSpelling same found.1)

pub some_outcome : SomeOutcome
some_outcome bytes = outcome_at bytes (position ends_spelling (take 9 bytes)) refl

pub one_begins : (bytes : List ℕ) (m n : ℕ) (r s : List ℕ) → BeginsShortest bytes m r → BeginsShortest bytes n s → (m ≡ n) × (r ≡ s)
one_begins bytes m n r s p q =
    let same = one_spelling p.0 q.0 r s p.1.ends q.1.ends (sym p.2 ∙ q.2) in
    (sym p.1.value ∙ ap value_of same.0 ∙ q.1.value, same.1)
