-- The message at the front: it has one reading, which stays when bytes are added, and what is spelt is read.
use Rattle.std.proofs.Common.{◌≡◌, ◌≢◌, ℕ, ◌+◌, ◌-◌, ◌<◌, ◌≤◌, cond, eqb, ltb, List, [], ◌∷◌, ◌++◌, length, take, drop, get_or, Option, Some, None, Result, Ok, Err, refl, ap, sym, subst, ◌∙◌, ◌⊎◌, inl, inr, append_assoc, arith}
use Rattle.std.proofs.lemmas.Bool.{cases_lt, cases_eq, lt-ltb, le-ltb, ne_eqb, eq-eqb}
use Rattle.std.proofs.lemmas.List.{length-append, length-take, take-append-drop, take_at, get_or_append_left, get_or-append_right, take_more}
use Rattle.varint_proto.specs.declared.fault.WireFault.{WireFault}
use Rattle.varint_proto.specs.Varint.{BeginsShortest, ReadsShortest, shortest}
use Rattle.varint_proto.proofs.Front.{takes, again, stays, some_outcome}
use Rattle.varint_proto.proofs.OneShortest.{one_outcome}
use Rattle.varint_proto.proofs.Shortest.{spells_shortest}
use Rattle.ms_select.specs.declared.fault.SelectFault.{SelectFault}
use Rattle.ms_select.specs.declared.fault.SelectFault.TheVariants.{Failed, BadLength, NoNewline, BadHeader, NotProposed, OutOfMemory}
use Rattle.ms_select.specs.Messages.{message, IsLength, IsShort, IsMessage, ReadsMessage, OneMessage, SomeMessage}
use Rattle.ms_select.proofs.OneSpelling.{number_leads}

abbrev pub Read : Type 0
Read = Result (Option (List ℕ)) SelectFault

abbrev pub some_text : List ℕ → Read
some_text text = Ok (Some text)

abbrev pub no_text : Read
no_text = Ok None

abbrev Length : Type 0
Length = Result (Option (ℕ × ℕ)) WireFault

-- ---- one reading

-- what a length and the bytes behind it come to
text_in : List ℕ → ℕ → Read
text_in body len =
    cond (eqb len 0) (Err BadLength) (cond (ltb 1024 len) (Err BadLength) (cond (ltb (length body) len) (Ok None) (cond (eqb (get_or body (len - 1) 0) 10) (Ok (Some (take (len - 1) body))) (Err NoNewline))))

settled : List ℕ → Length → Read
settled bytes (Err fault) = Err BadLength
settled bytes (Ok None) = Ok None
settled bytes (Ok (Some found)) = text_in (drop found.1 bytes) found.0

record Settles (bytes : List ℕ) (r : Read) : Type 0 where
  pub outcome : Length
  pub reads : ReadsShortest bytes outcome
  pub is : settled bytes outcome ≡ r

-- a length that stands at the front
at_front : (bytes : List ℕ) (len : ℕ) (rest : List ℕ) (r : Read) → BeginsShortest bytes len rest → text_in rest len ≡ r → Settles bytes r
unfolding settled
at_front bytes len rest r h e = record {
  outcome = Ok (Some (len, length h.0));
  reads = subst (λ (b : List ℕ). ReadsShortest b (Ok (Some (len, length h.0)))) (sym h.2) (again h.0 rest len h.1);
  is = ap (λ (b : List ℕ). text_in (drop (length h.0) b) len) h.2 ∙ ap (λ (b : List ℕ). text_in b len) (behind h.0 rest) ∙ e;
}
  where
    behind : (front rest : List ℕ) → drop (length front) (front ++ rest) ≡ rest
    behind [] rest = refl
    behind (b ∷ front) rest = behind front rest

not_allowed : (body : List ℕ) (len : ℕ) → (len ≡ 0) ⊎ (1024 < len) → text_in body len ≡ Err BadLength
unfolding text_in
not_allowed body len (inl zero) = rw zero refl
not_allowed body len (inr large) = rw (ne_eqb len 0 (omega arith), lt-ltb 1024 len large) refl

too_short : (body : List ℕ) (len : ℕ) → IsLength len → length body < len → text_in body len ≡ Ok None
unfolding text_in
too_short body len allowed short = rw (ne_eqb len 0 (omega (arith, allowed.0)), le-ltb 1024 len allowed.1, lt-ltb (length body) len short) refl

no_newline : (body : List ℕ) (len : ℕ) → IsLength len → len ≤ length body → get_or body (len - 1) 0 ≢ 10 → text_in body len ≡ Err NoNewline
unfolding text_in
no_newline body len allowed enough other = rw (ne_eqb len 0 (omega (arith, allowed.0)), le-ltb 1024 len allowed.1, le-ltb (length body) len enough, ne_eqb (get_or body (len - 1) 0) 10 other) refl

newline : (body : List ℕ) (len : ℕ) → IsLength len → len ≤ length body → get_or body (len - 1) 0 ≡ 10 → text_in body len ≡ some_text (take (len - 1) body)
unfolding text_in
newline body len allowed enough here = rw (ne_eqb len 0 (omega (arith, allowed.0)), le-ltb 1024 len allowed.1, le-ltb (length body) len enough, eq-eqb (get_or body (len - 1) 0) 10 here) refl

zero_is : (n : ℕ) → n - n ≡ 0
zero_is n = omega arith

whole : (text rest : List ℕ) → IsShort text → text_in (text ++ 10 ∷ rest) (length text + 1) ≡ some_text text
whole text rest short =
    let size : length (text ++ 10 ∷ rest) ≡ length text + (length rest + 1) = omega (arith, length-append text (10 ∷ rest)) in
    let place : length text + 1 - 1 ≡ length text = omega arith in
    let here : get_or (text ++ 10 ∷ rest) (length text + 1 - 1) 0 ≡ 10 = rw place (get_or-append_right text (10 ∷ rest) (length text) (length text) 0 refl (omega arith) ∙ ap (λ i. get_or (10 ∷ rest) i 0) (zero_is (length text))) in
    newline (text ++ 10 ∷ rest) (length text + 1) (omega arith, omega arith) (omega (arith, size)) here ∙ ap some_text (rw place (take_at text (10 ∷ rest) (length text) refl))

pub begins_message : (bytes text rest : List ℕ) → IsMessage bytes text rest → BeginsShortest bytes (length text + 1) (text ++ 10 ∷ rest)
unfolding message
begins_message bytes text rest h =
    let parts : bytes ≡ shortest (length text + 1) ++ (text ++ 10 ∷ rest) = h.parts ∙ append_assoc (shortest (length text + 1)) (text ++ 10 ∷ []) rest ∙ ap (λ (b : List ℕ). shortest (length text + 1) ++ b) (append_assoc text (10 ∷ []) rest) in
    (shortest (length text + 1), spells_shortest (length text + 1) (omega (arith, h.short)), parts)

settles : (bytes : List ℕ) (r : Read) → ReadsMessage bytes r → Settles bytes r
unfolding settled
settles bytes (Ok (Some text)) h = at_front bytes (length text + 1) (text ++ 10 ∷ h.0) (some_text text) (begins_message bytes text h.0 h.1) (whole text h.0 h.1.short)
settles bytes (Ok None) (inl h) = record { outcome = Ok None; reads = h; is = refl }
settles bytes (Ok None) (inr h) = at_front bytes h.0 h.1 no_text h.2 (too_short h.1 h.0 h.3 h.4)
settles bytes (Err BadLength) (inl h) = record { outcome = Err h.0; reads = h.1; is = refl }
settles bytes (Err BadLength) (inr h) = at_front bytes h.0 h.1 (Err BadLength) h.2 (not_allowed h.1 h.0 h.3)
settles bytes (Err NoNewline) h = at_front bytes h.0 h.1 (Err NoNewline) h.2 (no_newline h.1 h.0 h.3 h.4 h.5)
settles bytes (Err Failed) h = absurd h
settles bytes (Err BadHeader) h = absurd h
settles bytes (Err NotProposed) h = absurd h
settles bytes (Err OutOfMemory) h = absurd h

pub one_message : OneMessage
one_message bytes r s p q =
    let a = settles bytes r p in
    let b = settles bytes s q in
    sym a.is ∙ ap (settled bytes) (one_outcome bytes a.outcome b.outcome a.reads b.reads) ∙ b.is

-- ---- what is read

abbrev pub IsBytes : List ℕ → Type 0
IsBytes bytes = (i : ℕ) → get_or bytes i 0 < 256

pub bad_length : (bytes : List ℕ) (len size : ℕ) → ReadsShortest bytes (Ok (Some (len, size))) → (len ≡ 0) ⊎ (1024 < len) → ReadsMessage bytes (Err BadLength)
bad_length bytes len size h bad = inr (len, drop size bytes, takes bytes len size h, bad)

pub partial_text : (bytes : List ℕ) (len size : ℕ) → ReadsShortest bytes (Ok (Some (len, size))) → IsLength len → length (drop size bytes) < len → ReadsMessage bytes (Ok None)
partial_text bytes len size h allowed short = inr (len, drop size bytes, takes bytes len size h, allowed, short)

pub unended_text : (bytes : List ℕ) (len size : ℕ) → ReadsShortest bytes (Ok (Some (len, size))) → IsLength len → len ≤ length (drop size bytes) → get_or (drop size bytes) (len - 1) 0 ≢ 10 → ReadsMessage bytes (Err NoNewline)
unended_text bytes len size h allowed enough other = (len, drop size bytes, takes bytes len size h, allowed, enough, other)

pub whole_text : (bytes : List ℕ) (len size : ℕ) → IsBytes bytes → ReadsShortest bytes (Ok (Some (len, size))) → IsLength len → len ≤ length (drop size bytes) → get_or (drop size bytes) (len - 1) 0 ≡ 10 → ReadsMessage bytes (Ok (Some (take (len - 1) (drop size bytes))))
unfolding message
whole_text bytes len size fits h allowed enough here =
    let body = drop size bytes in
    let text = take (len - 1) body in
    let rest = drop len body in
    let place : len - 1 + 1 ≡ len = omega (arith, allowed.0) in
    let text_len : length text + 1 ≡ len = omega (arith, length-take (len - 1) body, allowed.0, enough) in
    let more : take (len - 1 + 1) body ≡ text ++ get_or body (len - 1) 0 ∷ [] = take_more body (len - 1) 0 (omega (arith, allowed.0, enough)) in
    let front : take len body ≡ text ++ 10 ∷ [] = ap (λ (n : ℕ). take n body) (sym place) ∙ more ∙ ap (λ (b : ℕ). text ++ b ∷ []) here in
    let behind : body ≡ (text ++ 10 ∷ []) ++ rest = sym (take-append-drop len body) ∙ ap (λ (b : List ℕ). b ++ rest) front in
    let parts : bytes ≡ (shortest len ++ (text ++ 10 ∷ [])) ++ rest = number_leads bytes len size fits h.1 ∙ ap (λ (b : List ℕ). shortest len ++ b) behind ∙ sym (append_assoc (shortest len) (text ++ 10 ∷ []) rest) in
    (rest, record { parts = subst (λ (n : ℕ). bytes ≡ (shortest n ++ (text ++ 10 ∷ [])) ++ rest) (sym text_len) parts; short = omega (arith, text_len, allowed.1) })

some_text_in : (bytes : List ℕ) (len size : ℕ) → IsBytes bytes → ReadsShortest bytes (Ok (Some (len, size))) → (r : Read) × ReadsMessage bytes r
some_text_in bytes len size fits h = elim (cases_eq len 0) [
  | inl zero ↦ (Err BadLength, bad_length bytes len size h (inl zero))
  | inr some ↦ elim (cases_lt 1024 len) [
    | inl large ↦ (Err BadLength, bad_length bytes len size h (inr large))
    | inr limited ↦ elim (cases_lt (length (drop size bytes)) len) [
      | inl short ↦ (Ok None, partial_text bytes len size h (omega arith, limited) short)
      | inr enough ↦ elim (cases_eq (get_or (drop size bytes) (len - 1) 0) 10) [
        | inl here ↦ (Ok (Some (take (len - 1) (drop size bytes))), whole_text bytes len size fits h (omega arith, limited) enough here)
        | inr other ↦ (Err NoNewline, unended_text bytes len size h (omega arith, limited) enough other)
      ]
    ]
  ]
]

some_read : (bytes : List ℕ) → IsBytes bytes → (outcome : Length) → ReadsShortest bytes outcome → (r : Read) × ReadsMessage bytes r
some_read bytes fits (Ok (Some found)) h = some_text_in bytes found.0 found.1 fits h
some_read bytes fits (Ok None) h = (Ok None, inl h)
some_read bytes fits (Err fault) h = (Err BadLength, inl (fault, h))

pub some_message : SomeMessage
some_message bytes fits =
    let o = some_outcome bytes in
    some_read bytes fits o.0 o.1

-- ---- what is spelt is read, whatever follows

pub message_again : (text rest : List ℕ) → IsShort text → ReadsMessage (message text ++ rest) (Ok (Some text))
message_again text rest short = (rest, record { parts = refl; short = short })

begins_more : (bytes : List ℕ) (len : ℕ) (rest more : List ℕ) → BeginsShortest bytes len rest → BeginsShortest (bytes ++ more) len (rest ++ more)
begins_more bytes len rest more h = (h.0, h.1, ap (λ (b : List ℕ). b ++ more) h.2 ∙ append_assoc h.0 rest more)

-- a reading that asks for no more bytes stays when bytes are added
pub message_stays : (bytes more : List ℕ) (r : Read) → ReadsMessage bytes r → (r ≡ Ok None → ⊥) → ReadsMessage (bytes ++ more) r
message_stays bytes more (Ok (Some text)) h some = (h.0 ++ more, record { parts = ap (λ (b : List ℕ). b ++ more) h.1.parts ∙ append_assoc (message text) h.0 more; short = h.1.short })
message_stays bytes more (Ok None) h some = absurd (some refl)
message_stays bytes more (Err BadLength) (inl h) some = inl (h.0, stays bytes more (Err h.0) (λ e. cc) h.1)
message_stays bytes more (Err BadLength) (inr h) some = inr (h.0, h.1 ++ more, begins_more bytes h.0 h.1 more h.2, h.3)
message_stays bytes more (Err NoNewline) h some = (
  h.0,
  h.1 ++ more,
  begins_more bytes h.0 h.1 more h.2,
  h.3,
  omega (arith, h.4, length-append h.1 more),
  λ e. h.5 (sym (get_or_append_left h.1 more 0 (h.0 - 1) (omega (arith, h.3.0, h.4))) ∙ e),
)
message_stays bytes more (Err Failed) h some = absurd h
message_stays bytes more (Err BadHeader) h some = absurd h
message_stays bytes more (Err NotProposed) h some = absurd h
message_stays bytes more (Err OutOfMemory) h some = absurd h
