-- A message behind its length: one reading, which stays when bytes are added.
use Rattle.std.proofs.Common.{◌≡◌, ℕ, ◌<◌, take, drop, List, [], ◌∷◌, ◌++◌, length, Option, Some, None, Result, Ok, Err, refl, ap, sym, subst, ◌∙◌, inl, inr, append_assoc, arith}
use Rattle.std.proofs.lemmas.Bool.{cases_lt}
use Rattle.std.proofs.lemmas.List.{length-append, length-take-le, take-append-drop}
use Rattle.varint_proto.specs.declared.fault.WireFault.{WireFault}
use Rattle.varint_proto.specs.declared.fault.IncomingRefused.{IncomingRefused}
use Rattle.varint_proto.specs.declared.fault.IncomingRefused.TheVariants.{Failed, BadLength, TooLong, OutOfMemory}
use Rattle.varint_proto.specs.Varint.{ReadsShortest, BeginsShortest}
use Rattle.varint_proto.specs.Incoming.{Announces, Frames, ReadsFramed, OneFramed, SomeFramed, FramedStays, FramedEnds, FramedIsRead}
use Rattle.varint_proto.proofs.Lists.{same_parts}
use Rattle.varint_proto.proofs.Front.{takes, again, stays, some_outcome, one_begins}
use Rattle.varint_proto.proofs.OneShortest.{one_outcome}
use Rattle.varint_proto.proofs.Writing.{begins_written}

abbrev pub Outcome : Type 0
Outcome = Result (Option (List ℕ × List ℕ)) IncomingRefused

-- ---- what follows changes nothing

pub begins_more : (input : List ℕ) (len : ℕ) (rest more : List ℕ) → BeginsShortest input len rest → BeginsShortest (input ++ more) len (rest ++ more)
begins_more input len rest more h = (h.0, h.1, ap (λ (b : List ℕ). b ++ more) h.2 ∙ append_assoc h.0 rest more)

pub announces_more : (limit : ℕ) (input : List ℕ) (len : ℕ) (rest more : List ℕ) → Announces limit input len rest → Announces limit (input ++ more) len (rest ++ more)
announces_more limit input len rest more h = record { begins = begins_more input len rest more h.begins; allowed = h.allowed }

pub frames_more : (limit : ℕ) (input more body rest : List ℕ) → Frames limit input body rest → Frames limit (input ++ more) body (rest ++ more)
frames_more limit input more body rest h = subst (λ (b : List ℕ). Announces limit (input ++ more) (length body) b) (append_assoc body rest more) (announces_more limit input (length body) (body ++ rest) more h)

pub fault_more : (limit : ℕ) (input more : List ℕ) (fault : IncomingRefused) → ReadsFramed limit input (Err fault) → ReadsFramed limit (input ++ more) (Err fault)
fault_more limit input more BadLength h = (h.0, stays input more (Err h.0) (λ e. cc) h.1)
fault_more limit input more TooLong h = (h.0, h.1 ++ more, begins_more input h.0 h.1 more h.2, h.3)
fault_more limit input more Failed h = h
fault_more limit input more OutOfMemory h = h

pub framed_stays : FramedStays
framed_stays = record { whole = frames_more; fault = fault_more }

-- ---- one reading

begins_or : (input : List ℕ) (len : ℕ) (rest : List ℕ) (r : Result (Option (ℕ × ℕ)) WireFault) → BeginsShortest input len rest → ReadsShortest input r → (size : ℕ) × (Ok (Some (len, size)) ≡ r)
begins_or input len rest r b h = (length b.0, one_outcome input _ r (subst (λ (t : List ℕ). ReadsShortest t (Ok (Some (len, length b.0)))) (sym b.2) (again b.0 rest len b.1)) h)

begins_not_more : (input : List ℕ) (len : ℕ) (rest : List ℕ) → BeginsShortest input len rest → ReadsShortest input (Ok None) → ⊥
begins_not_more input len rest b h = let same = (begins_or input len rest (Ok None) b h).1 in absurd cc

begins_not_bad : (input : List ℕ) (len : ℕ) (rest : List ℕ) (fault : WireFault) → BeginsShortest input len rest → ReadsShortest input (Err fault) → ⊥
begins_not_bad input len rest fault b h = let same = (begins_or input len rest (Err fault) b h).1 in absurd cc

more_not_bad : (input : List ℕ) (fault : WireFault) → ReadsShortest input (Ok None) → ReadsShortest input (Err fault) → ⊥
more_not_bad input fault p h = let same = one_outcome input (Ok None) (Err fault) p h in absurd cc

-- a length that is within the limit, and one that isn't
not_both : (limit : ℕ) (input : List ℕ) (m n : ℕ) (rest other : List ℕ) → Announces limit input m rest → BeginsShortest input n other → limit < n → ⊥
not_both limit input m n rest other a b long = omega (arith, a.allowed, long, (one_begins input m n rest other a.begins b).0)

pub whole_not_partial : (limit : ℕ) (input body rest : List ℕ) → Frames limit input body rest → ReadsFramed limit input (Ok None) → ⊥
whole_not_partial limit input body rest f (inl h) = begins_not_more input _ _ f.begins h
whole_not_partial limit input body rest f (inr h) =
    let same = one_begins input (length body) h.0 (body ++ rest) h.1 f.begins h.2.begins in
    omega (arith, same.0, ap length same.1, length-append body rest, h.3)

pub whole_not_faulty : (limit : ℕ) (input body rest : List ℕ) (fault : IncomingRefused) → Frames limit input body rest → ReadsFramed limit input (Err fault) → ⊥
whole_not_faulty limit input body rest BadLength f h = begins_not_bad input _ _ h.0 f.begins h.1
whole_not_faulty limit input body rest TooLong f h = not_both limit input _ _ _ _ f h.2 h.3
whole_not_faulty limit input body rest Failed f h = h
whole_not_faulty limit input body rest OutOfMemory f h = h

pub partial_not_faulty : (limit : ℕ) (input : List ℕ) (fault : IncomingRefused) → ReadsFramed limit input (Ok None) → ReadsFramed limit input (Err fault) → ⊥
partial_not_faulty limit input BadLength (inl p) h = more_not_bad input h.0 p h.1
partial_not_faulty limit input BadLength (inr p) h = begins_not_bad input _ _ h.0 p.2.begins h.1
partial_not_faulty limit input TooLong (inl p) h = begins_not_more input _ _ h.2 p
partial_not_faulty limit input TooLong (inr p) h = not_both limit input _ _ _ _ p.2 h.2 h.3
partial_not_faulty limit input Failed p h = h
partial_not_faulty limit input OutOfMemory p h = h

pub one_frame : (limit : ℕ) (input a b r s : List ℕ) → Frames limit input a r → Frames limit input b s → (a ≡ b) × (r ≡ s)
one_frame limit input a b r s p q = let same = one_begins input (length a) (length b) (a ++ r) (b ++ s) p.begins q.begins in same_parts a b r s same.0 same.1

pub one_fault : (limit : ℕ) (input : List ℕ) (d e : IncomingRefused) → ReadsFramed limit input (Err d) → ReadsFramed limit input (Err e) → d ≡ e
one_fault limit input BadLength BadLength p q = refl
one_fault limit input BadLength TooLong p q = absurd (begins_not_bad input _ _ p.0 q.2 p.1)
one_fault limit input BadLength Failed p q = absurd q
one_fault limit input BadLength OutOfMemory p q = absurd q
one_fault limit input TooLong BadLength p q = absurd (begins_not_bad input _ _ q.0 p.2 q.1)
one_fault limit input TooLong TooLong p q = refl
one_fault limit input TooLong Failed p q = absurd q
one_fault limit input TooLong OutOfMemory p q = absurd q
one_fault limit input Failed e p q = absurd p
one_fault limit input OutOfMemory e p q = absurd p

found : List ℕ → List ℕ → Outcome
found body rest = Ok (Some (body, rest))

same_found : (a b r s : List ℕ) → a ≡ b → r ≡ s → found a r ≡ found b s
same_found a b r s p q = cc

pub one_framed : OneFramed
unfolding found
one_framed limit input (Ok None) (Ok None) p q = refl
one_framed limit input (Ok None) (Ok (Some b)) p q = absurd (whole_not_partial limit input b.0 b.1 q p)
one_framed limit input (Ok None) (Err e) p q = absurd (partial_not_faulty limit input e p q)
one_framed limit input (Ok (Some a)) (Ok None) p q = absurd (whole_not_partial limit input a.0 a.1 p q)
one_framed limit input (Ok (Some a)) (Ok (Some b)) p q = let same = one_frame limit input a.0 b.0 a.1 b.1 p q in same_found a.0 b.0 a.1 b.1 same.0 same.1
one_framed limit input (Ok (Some a)) (Err e) p q = absurd (whole_not_faulty limit input a.0 a.1 e p q)
one_framed limit input (Err d) (Ok None) p q = absurd (partial_not_faulty limit input d q p)
one_framed limit input (Err d) (Ok (Some b)) p q = absurd (whole_not_faulty limit input b.0 b.1 d q p)
one_framed limit input (Err d) (Err e) p q = ap (λ (x : IncomingRefused). Err x) (one_fault limit input d e p q)

-- ---- some reading

announced : (limit : ℕ) (input : List ℕ) (len : ℕ) (rest : List ℕ) → Announces limit input len rest → (outcome : Outcome) × ReadsFramed limit input outcome
announced limit input len rest a = elim (cases_lt (length rest) len) [
  | inl short ↦ (Ok None, inr (len, rest, a, short))
  | inr enough ↦
      let size : length (take len rest) ≡ len = length-take-le len rest enough in
      let behind : Announces limit input len (take len rest ++ drop len rest) = subst (λ (t : List ℕ). Announces limit input len t) (sym (take-append-drop len rest)) a in
      (Ok (Some (take len rest, drop len rest)), subst (λ (n : ℕ). Announces limit input n (take len rest ++ drop len rest)) (sym size) behind)
]

outcome : (limit : ℕ) (input : List ℕ) (read : Result (Option (ℕ × ℕ)) WireFault) → ReadsShortest input read → (outcome : Outcome) × ReadsFramed limit input outcome
outcome limit input (Ok None) h = (Ok None, inl h)
outcome limit input (Err fault) h = (Err BadLength, (fault, h))
outcome limit input (Ok (Some read)) h = elim (cases_lt limit read.0) [
  | inl long ↦ (Err TooLong, (read.0, drop read.1 input, takes input read.0 read.1 h, long))
  | inr fits ↦ announced limit input read.0 (drop read.1 input) (record { begins = takes input read.0 read.1 h; allowed = fits })
]

pub some_framed : SomeFramed
some_framed limit input = let read = some_outcome input in outcome limit input read.0 read.1

last_byte : (limit : ℕ) (input body : List ℕ) (b : ℕ) (outcome : Outcome) → ReadsFramed limit input outcome
    → ReadsFramed limit (input ++ b ∷ []) (Ok (Some (body, []))) → ReadsFramed limit input (Ok None)
last_byte limit input body b (Ok None) here whole = here
last_byte limit input body b (Err fault) here whole =
    absurd (whole_not_faulty limit (input ++ b ∷ []) body [] fault whole (fault_more limit input (b ∷ []) fault here))
last_byte limit input body b (Ok (Some found)) here whole =
    let more = frames_more limit input (b ∷ []) found.0 found.1 here in
    let same = one_frame limit (input ++ b ∷ []) body found.0 [] (found.1 ++ b ∷ []) whole more in
    absurd (omega (arith, ap length same.1, length-append found.1 (b ∷ [])))

pub framed_ends : FramedEnds
framed_ends limit input body b whole =
    let here = some_framed limit input in
    last_byte limit input body b here.0 here.1 whole

pub framed_is_read : FramedIsRead
framed_is_read limit body rest fits lt = record { begins = begins_written (length body) (body ++ rest) lt; allowed = fits }
