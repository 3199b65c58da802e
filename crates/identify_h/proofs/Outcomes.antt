-- A stream has one outcome, and some outcome.
use Rattle.std.proofs.Common.{◌≡◌, ◌≢◌, ◌⊎◌, ◌↔◌, ℕ, zero, suc, ◌+◌, ◌-◌, ◌<◌, ◌≤◌, ◌==◌, Bool, true, false, List, [], ◌∷◌, ◌++◌, length, Option, Some, None, Result, Ok, Err, refl, sym, ap, subst, ◌∙◌, inl, inr, arith}
use Rattle.std.specs.List.{concat}
use Rattle.std.proofs.lemmas.Bool.{eqb-true, eq-eqb}
use Rattle.std.proofs.lemmas.List.{length-append}
use Rattle.varint_proto.specs.declared.fault.WireFault.{WireFault}
use Rattle.varint_proto.specs.declared.fault.IncomingRefused.{IncomingRefused}
use Rattle.varint_proto.specs.declared.fault.IncomingRefused.TheVariants as incoming
use Rattle.varint_proto.specs.Message.{Entry, IsMessage, FaultIn, all_bodies, last_body}
use Rattle.varint_proto.specs.Incoming.{Frames, ReadsFramed}
use Rattle.varint_proto.proofs.Framed.{one_framed, some_framed}
use Rattle.varint_proto.proofs.SomeReading.{some_reading}
use Rattle.peer_ids.specs.Key.{Key}
use Rattle.peer_ids.specs.PeerId.{id_of}
use Rattle.peer_ids.specs.ReadsKey.{SpellsKey, RefusesKey}
use Rattle.peer_ids.specs.declared.fault.KeyFault.{KeyFault}
use Rattle.peer_ids.specs.declared.fault.KeyFault.TheVariants as keys
use Rattle.peer_ids.proofs.SomeKey.{some_key}
use Rattle.identify_h.specs.declared.fault.IdentifyFault.{IdentifyFault}
use Rattle.identify_h.specs.declared.fault.IdentifyFault.TheVariants.{Failed, TooLong, TooMany, Wire, OtherKey, Cut, OutOfMemory}
use Rattle.identify_h.specs.Sending.{most_bytes}
use Rattle.identify_h.specs.Messages.{Message, IsKeyOf, Spells, IsOtherKey, Refuses}
use Rattle.identify_h.specs.Streams.{Lead, Begins, IsPart, left_behind, most_messages, GoesOn, NextFault, HasFault, Reads, EndFails, OneOutcome, SomeOutcome}
use Rattle.identify_h.proofs.Messages.{one_spelt, message_or_refused, wire_alone}

-- ---- one place where the whole messages end

-- no whole message more stands there that there might be
abbrev pub Stops : ℕ → ℕ → List ℕ → Type 0
Stops n left rest = (body after : List ℕ) → 0 < n → Frames left rest body after → ⊥

pub record Same (bodies others : List (List ℕ)) (rest other : List ℕ) : Type 0 where
  pub bodies_are : bodies ≡ others
  pub rest_is : rest ≡ other

shift : (n left : ℕ) (body : List ℕ) (bodies : List (List ℕ)) (rest : List ℕ) → Stops (suc n - length (body ∷ bodies)) (left - length (concat (body ∷ bodies))) rest
    → Stops (n - length bodies) ((left - length body) - length (concat bodies)) rest
shift n left body bodies rest stops found after some frames =
    let sum = length-append body (concat bodies) in
    let same : (left - length body) - length (concat bodies) ≡ left - length (body ++ concat bodies) = omega arith in
    stops found after (omega arith) (subst (λ k. Frames k rest found after) same frames)

one_place : (n left : ℕ) (input : List ℕ) (bodies others : List (List ℕ)) (rest other : List ℕ) → length bodies ≤ n → length others ≤ n
    → Lead left input bodies rest → Lead left input others other
    → Stops (n - length bodies) (left - length (concat bodies)) rest → Stops (n - length others) (left - length (concat others)) other
    → Same bodies others rest other
one_place n left input [] [] rest other few less a b p q = record { bodies_are = refl; rest_is = sym a ∙ b }
one_place n left input [] (c ∷ others) rest other few less a b p q =
    let all : left - 0 ≡ left = omega arith in
    absurd (p c b.0 (omega arith) (subst (λ k. Frames k rest c b.0) (sym all) (subst (λ (t : List ℕ). Frames left t c b.0) a b.1)))
one_place n left input (c ∷ bodies) [] rest other few less a b p q =
    let all : left - 0 ≡ left = omega arith in
    absurd (q c a.0 (omega arith) (subst (λ k. Frames k other c a.0) (sym all) (subst (λ (t : List ℕ). Frames left t c a.0) b a.1)))
one_place zero left input (b ∷ bodies) (c ∷ others) rest other few less x y p q = absurd (omega arith)
one_place (suc n) left input (b ∷ bodies) (c ∷ others) rest other few less x y p q =
    let same = one_framed left input (Ok (Some (b, x.0))) (Ok (Some (c, y.0))) x.1 y.1 in
    let pair : ◌≡◌ {A = List ℕ × List ℕ} (b, x.0) (c, y.0) = cc in
    let body : b ≡ c = ap (λ (t : List ℕ × List ℕ). t.0) pair in
    let middle : x.0 ≡ y.0 = ap (λ (t : List ℕ × List ℕ). t.1) pair in
    let later = one_place n (left - length b) x.0 bodies others rest other (omega arith) (omega arith) x.2
    (subst (λ (t : List ℕ). Lead (left - length b) t others other) (sym middle) (subst (λ (t : List ℕ). Lead (left - length t) y.0 others other) (sym body) y.2))
    (shift n left b bodies rest p) (shift n left b others other (subst (λ (t : List ℕ). Stops (suc n - length (t ∷ others)) (left - length (concat (t ∷ others))) other) (sym body) q)) in
    record {
      bodies_are = ap (λ (t : List ℕ). t ∷ bodies) body ∙ ap (λ (t : List (List ℕ)). c ∷ t) later.bodies_are;
      rest_is = later.rest_is;
    }

-- ---- where it ends

pub framed_not : (left : ℕ) (rest : List ℕ) (r : Result (Option (List ℕ × List ℕ)) IncomingRefused) → ((x : List ℕ × List ℕ) → r ≢ Ok (Some x)) → ReadsFramed left rest r
    → (body after : List ℕ) → Frames left rest body after → ⊥
framed_not left rest r other reads body after frames = other (body, after) (one_framed left rest r (Ok (Some (body, after))) reads frames)

pub stops_empty : (n left : ℕ) → Stops n left []
stops_empty n left body after some frames = framed_not left [] (Ok None) (λ x e. cc) (inl (tt, omega arith)) body after frames

pub stops_part : (n : ℕ) (bodies : List (List ℕ)) (rest : List ℕ) → IsPart bodies rest → Stops n (left_behind bodies) rest
stops_part n bodies rest (inl none) body after some frames =
    subst (λ (t : List ℕ). Stops n (left_behind bodies) t) (sym none) (stops_empty n (left_behind bodies)) body after some frames
stops_part n bodies rest (inr part) body after some frames = framed_not (left_behind bodies) rest (Ok None) (λ x e. cc) part.1 body after frames

stops_fault : (bodies : List (List ℕ)) (rest : List ℕ) (fault : IdentifyFault) → NextFault bodies rest fault → Stops (most_messages - length bodies) (left_behind bodies) rest
stops_fault bodies rest TooLong faulty body after some frames = framed_not (left_behind bodies) rest (Err incoming.TooLong) (λ x e. cc) faulty.1 body after frames
stops_fault bodies rest Wire faulty body after some frames = framed_not (left_behind bodies) rest (Err incoming.BadLength) (λ x e. cc) faulty.1 body after frames
stops_fault bodies rest TooMany faulty body after some frames = let full = faulty.0 in omega arith
stops_fault bodies rest Failed faulty body after some frames = absurd faulty
stops_fault bodies rest OtherKey faulty body after some frames = absurd faulty
stops_fault bodies rest Cut faulty body after some frames = absurd faulty
stops_fault bodies rest OutOfMemory faulty body after some frames = absurd faulty

pub there : (input : List ℕ) (bodies others : List (List ℕ)) (rest other : List ℕ) → Begins input bodies rest → Begins input others other
    → Stops (most_messages - length bodies) (left_behind bodies) rest → Stops (most_messages - length others) (left_behind others) other → Same bodies others rest other
there input bodies others rest other a b p q = one_place most_messages most_bytes input bodies others rest other a.few b.few a.lead b.lead p q

one_next : (bodies : List (List ℕ)) (rest : List ℕ) (fault other : IdentifyFault) → NextFault bodies rest fault → NextFault bodies rest other → fault ≡ other
one_next bodies rest TooLong TooLong p q = refl
one_next bodies rest TooLong Wire p q = absurd (let same = one_framed (left_behind bodies) rest (Err incoming.TooLong) (Err incoming.BadLength) p.1 q.1 in cc)
one_next bodies rest TooLong TooMany p q = absurd (let few = p.0 in let full = q.0 in omega arith)
one_next bodies rest Wire TooLong p q = absurd (let same = one_framed (left_behind bodies) rest (Err incoming.BadLength) (Err incoming.TooLong) p.1 q.1 in cc)
one_next bodies rest Wire Wire p q = refl
one_next bodies rest Wire TooMany p q = absurd (let few = p.0 in let full = q.0 in omega arith)
one_next bodies rest TooMany TooLong p q = absurd (let few = q.0 in let full = p.0 in omega arith)
one_next bodies rest TooMany Wire p q = absurd (let few = q.0 in let full = p.0 in omega arith)
one_next bodies rest TooMany TooMany p q = refl
one_next bodies rest Failed other p q = absurd p
one_next bodies rest OtherKey other p q = absurd p
one_next bodies rest Cut other p q = absurd p
one_next bodies rest OutOfMemory other p q = absurd p
one_next bodies rest TooLong Failed p q = absurd q
one_next bodies rest TooLong OtherKey p q = absurd q
one_next bodies rest TooLong Cut p q = absurd q
one_next bodies rest TooLong OutOfMemory p q = absurd q
one_next bodies rest Wire Failed p q = absurd q
one_next bodies rest Wire OtherKey p q = absurd q
one_next bodies rest Wire Cut p q = absurd q
one_next bodies rest Wire OutOfMemory p q = absurd q
one_next bodies rest TooMany Failed p q = absurd q
one_next bodies rest TooMany OtherKey p q = absurd q
one_next bodies rest TooMany Cut p q = absurd q
one_next bodies rest TooMany OutOfMemory p q = absurd q

one_fault : (input : List ℕ) (fault other : IdentifyFault) → HasFault input fault → HasFault input other → fault ≡ other
one_fault input fault other p q =
    let same = there input p.0 q.0 p.1 q.1 p.2 q.2 (stops_fault p.0 p.1 fault p.3) (stops_fault q.0 q.1 other q.3) in
    one_next p.0 p.1 fault other p.3
    (subst (λ (t : List (List ℕ)). NextFault t p.1 other) (sym same.bodies_are) (subst (λ (t : List ℕ). NextFault q.0 t other) (sym same.rest_is) q.3))

-- a part of a message has no fault
part_or_fault : (bodies : List (List ℕ)) (rest : List ℕ) (fault : IdentifyFault) → IsPart bodies rest → NextFault bodies rest fault → ⊥
part_or_fault bodies rest TooLong (inl none) p =
    let same = one_framed (left_behind bodies) [] (Err incoming.TooLong) (Ok None) (subst (λ (t : List ℕ). ReadsFramed (left_behind bodies) t (Err incoming.TooLong)) none p.1) (inl (tt, omega arith)) in cc
part_or_fault bodies rest TooLong (inr part) p = let same = one_framed (left_behind bodies) rest (Err incoming.TooLong) (Ok None) p.1 part.1 in cc
part_or_fault bodies rest Wire (inl none) p =
    let same = one_framed (left_behind bodies) [] (Err incoming.BadLength) (Ok None) (subst (λ (t : List ℕ). ReadsFramed (left_behind bodies) t (Err incoming.BadLength)) none p.1) (inl (tt, omega arith)) in cc
part_or_fault bodies rest Wire (inr part) p = let same = one_framed (left_behind bodies) rest (Err incoming.BadLength) (Ok None) p.1 part.1 in cc
part_or_fault bodies rest TooMany (inl none) p = let some = p.1 in let size = ap length none in omega arith
part_or_fault bodies rest TooMany (inr part) p = let full = p.0 in let few = part.0 in omega arith
part_or_fault bodies rest Failed part p = p
part_or_fault bodies rest OtherKey part p = p
part_or_fault bodies rest Cut part p = p
part_or_fault bodies rest OutOfMemory part p = p

goes_or_fault : (input : List ℕ) (fault : IdentifyFault) → GoesOn input → HasFault input fault → ⊥
goes_or_fault input fault g p =
    let same = there input p.0 g.bodies p.1 g.rest p.2 g.begins (stops_fault p.0 p.1 fault p.3) (stops_part (most_messages - length g.bodies) g.bodies g.rest g.part) in
    part_or_fault g.bodies g.rest fault g.part
    (subst (λ (t : List (List ℕ)). NextFault t g.rest fault) same.bodies_are (subst (λ (t : List ℕ). NextFault p.0 t fault) same.rest_is p.3))

-- ---- some place where they end

-- where the whole messages end, of at most n
record Place (n left : ℕ) (input : List ℕ) : Type 0 where
  bodies : List (List ℕ)
  rest : List ℕ
  few : length bodies ≤ n
  lead : Lead left input bodies rest
  next : (rest ≡ []) ⊎ (((length bodies < n) × ReadsFramed (left - length (concat bodies)) rest (Ok None))
      ⊎ (((fault : IncomingRefused) × (length bodies < n) × ReadsFramed (left - length (concat bodies)) rest (Err fault))
      ⊎ ((length bodies ≡ n) × (0 < length rest))))

longer : (n left : ℕ) (input body after : List ℕ) → Frames left input body after → Place n (left - length body) after → Place (suc n) left input
longer n left input body after frames later = record {
  bodies = body ∷ later.bodies;
  rest = later.rest;
  few = let few = later.few in omega arith;
  lead = (after, frames, later.lead);
  next = on later.next;
}
  where
    same : (left - length body) - length (concat later.bodies) ≡ left - length (body ++ concat later.bodies)
    same = let sum = length-append body (concat later.bodies) in omega arith

    on : (later.rest ≡ []) ⊎ (((length later.bodies < n) × ReadsFramed ((left - length body) - length (concat later.bodies)) later.rest (Ok None))
        ⊎ (((fault : IncomingRefused) × (length later.bodies < n) × ReadsFramed ((left - length body) - length (concat later.bodies)) later.rest (Err fault))
        ⊎ ((length later.bodies ≡ n) × (0 < length later.rest))))
        → (later.rest ≡ []) ⊎ (((length (body ∷ later.bodies) < suc n) × ReadsFramed (left - length (concat (body ∷ later.bodies))) later.rest (Ok None))
        ⊎ (((fault : IncomingRefused) × (length (body ∷ later.bodies) < suc n) × ReadsFramed (left - length (concat (body ∷ later.bodies))) later.rest (Err fault))
        ⊎ ((length (body ∷ later.bodies) ≡ suc n) × (0 < length later.rest))))
    on (inl none) = inl none
    on (inr (inl part)) = inr (inl (let few = part.0 in omega arith, subst (λ k. ReadsFramed k later.rest (Ok None)) same part.1))
    on (inr (inr (inl faulty))) = inr (inr (inl (faulty.0, (let few = faulty.1 in omega arith), subst (λ k. ReadsFramed k later.rest (Err faulty.0)) same faulty.2)))
    on (inr (inr (inr full))) = inr (inr (inr ((let all = full.0 in omega arith), full.1)))

some_place : (n left : ℕ) (input : List ℕ) → Place n left input
some_place n left [] = record { bodies = []; rest = []; few = omega arith; lead = refl; next = inl refl }
some_place zero left (x ∷ input) = record { bodies = []; rest = x ∷ input; few = omega arith; lead = refl; next = inr (inr (inr (refl, omega arith))) }
some_place (suc n) left (x ∷ input) = by (some_framed left (x ∷ input)) (λ k t. some_place n k t)
  where
    all : left - 0 ≡ left
    all = omega arith

    by : (outcome : Result (Option (List ℕ × List ℕ)) IncomingRefused) × ReadsFramed left (x ∷ input) outcome
        → ((k : ℕ) (t : List ℕ) → Place n k t) → Place (suc n) left (x ∷ input)
    by (Ok None, reads) later = record {
      bodies = [];
      rest = x ∷ input;
      few = omega arith;
      lead = refl;
      next = inr (inl (omega arith, subst (λ k. ReadsFramed k (x ∷ input) (Ok None)) (sym all) reads));
    }
    by (Err fault, reads) later = record {
      bodies = [];
      rest = x ∷ input;
      few = omega arith;
      lead = refl;
      next = inr (inr (inl (fault, omega arith, subst (λ k. ReadsFramed k (x ∷ input) (Err fault)) (sym all) reads)));
    }
    by (Ok (Some found), reads) later = longer n left (x ∷ input) found.0 found.1 reads (later (left - length found.0) found.1)

outcome_at : (input : List ℕ) (place : Place most_messages most_bytes input) → GoesOn input ⊎ ((fault : IdentifyFault) × HasFault input fault)
outcome_at input place = by place.next
  where
    begins : Begins input place.bodies place.rest
    begins = record { few = place.few; lead = place.lead }

    faulty : (fault : IncomingRefused) → length place.bodies < most_messages → ReadsFramed (left_behind place.bodies) place.rest (Err fault)
        → GoesOn input ⊎ ((f : IdentifyFault) × HasFault input f)
    faulty incoming.TooLong few reads = inr (TooLong, (place.bodies, place.rest, begins, (few, reads)))
    faulty incoming.BadLength few reads = inr (Wire, (place.bodies, place.rest, begins, (few, reads)))
    faulty incoming.Failed few reads = absurd reads
    faulty incoming.OutOfMemory few reads = absurd reads

    by : (place.rest ≡ []) ⊎ (((length place.bodies < most_messages) × ReadsFramed (left_behind place.bodies) place.rest (Ok None))
        ⊎ (((fault : IncomingRefused) × (length place.bodies < most_messages) × ReadsFramed (left_behind place.bodies) place.rest (Err fault))
        ⊎ ((length place.bodies ≡ most_messages) × (0 < length place.rest))))
        → GoesOn input ⊎ ((f : IdentifyFault) × HasFault input f)
    by (inl none) = inl (record { bodies = place.bodies; rest = place.rest; begins = begins; part = inl none })
    by (inr (inl part)) = inl (record { bodies = place.bodies; rest = place.rest; begins = begins; part = inr part })
    by (inr (inr (inl found))) = faulty found.0 found.1 found.2
    by (inr (inr (inr full))) = inr (TooMany, (place.bodies, place.rest, begins, full))

some_input : (input : List ℕ) → GoesOn input ⊎ ((fault : IdentifyFault) × HasFault input fault)
some_input input = outcome_at input (some_place most_messages most_bytes input)

-- ---- the end

same_list : (xs ys : List ℕ) → (xs ≡ ys) ⊎ (xs ≢ ys)
same_list [] [] = inl refl
same_list [] (y ∷ ys) = inr (λ e. cc)
same_list (x ∷ xs) [] = inr (λ e. cc)
same_list (x ∷ xs) (y ∷ ys) = by (x == y) refl (same_list xs ys)
  where
    by : (b : Bool) → (x == y) ≡ b → (xs ≡ ys) ⊎ (xs ≢ ys) → (x ∷ xs ≡ y ∷ ys) ⊎ (x ∷ xs ≢ y ∷ ys)
    by true is (inl same) = inl (ap (λ k. k ∷ xs) (eqb-true x y is) ∙ ap (λ (t : List ℕ). y ∷ t) same)
    by true is (inr other) = inr (λ e. other (let tails : xs ≡ ys = cc in tails))
    by false is rest = inr (λ e. let heads : x ≡ y = cc in let both : true ≡ false = sym (eq-eqb x y heads) ∙ is in cc)

some_key_of : (peer : List ℕ) (spelling : Option (List ℕ))
    → ((key : Option Key) × IsKeyOf peer spelling key) ⊎ ((bytes : List ℕ) × (spelling ≡ Some bytes) × IsOtherKey peer bytes)
some_key_of peer None = inl (None, tt)
some_key_of peer (Some bytes) = by (some_key bytes)
  where
    of : (key : Key) → SpellsKey bytes key → (id_of key ≡ peer) ⊎ (id_of key ≢ peer)
        → ((key : Option Key) × IsKeyOf peer (Some bytes) key) ⊎ ((s : List ℕ) × (Some bytes ≡ Some s) × IsOtherKey peer s)
    of key spells (inl own) = inl (Some key, (spells, own))
    of key spells (inr other) = inr (bytes, refl, inr (key, spells, other))

    by : ((key : Key) × SpellsKey bytes key) ⊎ ((fault : KeyFault) × (fault ≢ keys.OutOfMemory) × RefusesKey bytes fault)
        → ((key : Option Key) × IsKeyOf peer (Some bytes) key) ⊎ ((s : List ℕ) × (Some bytes ≡ Some s) × IsOtherKey peer s)
    by (inl spelt) = of spelt.0 spelt.1 (same_list (id_of spelt.0) peer)
    by (inr refused) = inr (bytes, refl, inl (refused.0, refused.1, refused.2))

some_message : (peer bytes : List ℕ) → ((m : Message) × Spells peer bytes m) ⊎ ((fault : IdentifyFault) × (fault ≢ OutOfMemory) × Refuses peer bytes fault)
some_message peer bytes = by (some_reading bytes)
  where
    of : (fields : List Entry) → IsMessage bytes fields
        → ((key : Option Key) × IsKeyOf peer (last_body 1 fields) key) ⊎ ((s : List ℕ) × (last_body 1 fields ≡ Some s) × IsOtherKey peer s)
        → ((m : Message) × Spells peer bytes m) ⊎ ((fault : IdentifyFault) × (fault ≢ OutOfMemory) × Refuses peer bytes fault)
    of fields message (inl key) = inl (
      record {
        key = key.0;
        listen = all_bodies 2 fields;
        protocols = all_bodies 3 fields;
        observed = last_body 4 fields;
        version = last_body 5 fields;
        agent = last_body 6 fields;
      },
      (fields, message, record { key = key.1; listen = refl; protocols = refl; observed = refl; version = refl; agent = refl }),
    )
    of fields message (inr other) = inr (OtherKey, (λ e. cc), (fields, message, (other.0, other.1, other.2)))

    by : ((fields : List Entry) × IsMessage bytes fields) ⊎ ((fault : WireFault) × FaultIn bytes fault)
        → ((m : Message) × Spells peer bytes m) ⊎ ((fault : IdentifyFault) × (fault ≢ OutOfMemory) × Refuses peer bytes fault)
    by (inl message) = of message.0 message.1 (some_key_of peer (last_body 1 message.0))
    by (inr fault) = inr (Wire, (λ e. cc), fault)

end_at : (peer input : List ℕ) (bodies : List (List ℕ)) → Begins input bodies [] → 0 < length bodies
    → ((m : Message) × Spells peer (concat bodies) m) ⊎ ((fault : IdentifyFault) × (fault ≢ OutOfMemory) × Refuses peer (concat bodies) fault)
    → ((m : Message) × Reads peer input m) ⊎ ((fault : IdentifyFault) × (fault ≢ OutOfMemory) × EndFails peer input fault)
end_at peer input bodies begins some (inl m) = inl (m.0, (bodies, begins, some, m.1))
end_at peer input bodies begins some (inr refused) = by refused.0 refused.1 refused.2
  where
    by : (fault : IdentifyFault) → fault ≢ OutOfMemory → Refuses peer (concat bodies) fault
        → ((m : Message) × Reads peer input m) ⊎ ((f : IdentifyFault) × (f ≢ OutOfMemory) × EndFails peer input f)
    by Wire other refused = inr (Wire, other, (bodies, begins, some, refused))
    by OtherKey other refused = inr (OtherKey, other, (bodies, begins, some, refused))
    by OutOfMemory other refused = absurd (other refl)
    by Failed other refused = absurd refused
    by TooLong other refused = absurd refused
    by TooMany other refused = absurd refused
    by Cut other refused = absurd refused

some_end : (peer input : List ℕ) → GoesOn input → ((m : Message) × Reads peer input m) ⊎ ((fault : IdentifyFault) × (fault ≢ OutOfMemory) × EndFails peer input fault)
some_end peer input g = by g.rest g.bodies refl refl
  where
    by : (rest : List ℕ) (bodies : List (List ℕ)) → g.rest ≡ rest → g.bodies ≡ bodies
        → ((m : Message) × Reads peer input m) ⊎ ((f : IdentifyFault) × (f ≢ OutOfMemory) × EndFails peer input f)
    by (b ∷ rest) bodies e f = inr (Cut, (λ x. cc), (g.bodies, g.rest, g.begins, g.part, inr (subst (λ (t : List ℕ). 0 < length t) (sym e) (omega arith))))
    by [] [] e f = inr (Cut, (λ x. cc), (g.bodies, g.rest, g.begins, g.part, inl f))
    by [] (body ∷ bodies) e f =
        end_at peer input g.bodies (subst (Begins input g.bodies) e g.begins) (subst (λ (t : List (List ℕ)). 0 < length t) (sym f) (omega arith)) (some_message peer (concat g.bodies))

pub some_outcome : SomeOutcome
some_outcome = record { input = some_input; end = some_end }

-- ---- one end

whole_same : (input : List ℕ) (bodies others : List (List ℕ)) → Begins input bodies [] → Begins input others [] → bodies ≡ others
whole_same input bodies others a b =
    (there input bodies others [] [] a b (stops_empty (most_messages - length bodies) (left_behind bodies)) (stops_empty (most_messages - length others) (left_behind others))).bodies_are

one_read : (peer input : List ℕ) (m n : Message) → Reads peer input m → Reads peer input n → m ≡ n
one_read peer input m n p q =
    one_spelt peer (concat p.0) m n p.3 (subst (λ (t : List (List ℕ)). Spells peer (concat t) n) (sym (whole_same input p.0 q.0 p.1 q.1)) q.3)

-- a stream that is cut isn't whole
cut_or_whole : (peer input : List ℕ) (bodies : List (List ℕ)) → EndFails peer input Cut → Begins input bodies [] → 0 < length bodies → ⊥
cut_or_whole peer input bodies cut whole some =
    let same = there input cut.0 bodies cut.1 [] cut.2 whole (stops_part (most_messages - length cut.0) cut.0 cut.1 cut.3) (stops_empty (most_messages - length bodies) (left_behind bodies)) in
    by same cut.4
  where
    by : Same cut.0 bodies cut.1 [] → (cut.0 ≡ []) ⊎ (0 < length cut.1) → ⊥
    by same (inl none) = let size = ap length (sym same.bodies_are ∙ none) in omega arith
    by same (inr left) = let size = ap length same.rest_is in omega arith

refused_same : (peer input : List ℕ) (bodies others : List (List ℕ)) (fault : IdentifyFault) → Begins input bodies [] → Begins input others []
    → Refuses peer (concat others) fault → Refuses peer (concat bodies) fault
refused_same peer input bodies others fault a b refused =
    subst (λ (t : List (List ℕ)). Refuses peer (concat t) fault) (sym (whole_same input bodies others a b)) refused

read_or_fails : (peer input : List ℕ) (m : Message) (fault : IdentifyFault) → fault ≢ OutOfMemory → Reads peer input m → EndFails peer input fault → ⊥
read_or_fails peer input m Cut other p q = cut_or_whole peer input p.0 q p.1 p.2
read_or_fails peer input m Wire other p q = message_or_refused peer (concat p.0) m Wire other p.3 (refused_same peer input p.0 q.0 Wire p.1 q.1 q.3)
read_or_fails peer input m OtherKey other p q = message_or_refused peer (concat p.0) m OtherKey other p.3 (refused_same peer input p.0 q.0 OtherKey p.1 q.1 q.3)
read_or_fails peer input m OutOfMemory other p q = other refl
read_or_fails peer input m Failed other p q = q.3
read_or_fails peer input m TooLong other p q = q.3
read_or_fails peer input m TooMany other p q = q.3

one_refused : (peer bytes : List ℕ) (a b : IdentifyFault) → a ≢ OutOfMemory → b ≢ OutOfMemory → Refuses peer bytes a → Refuses peer bytes b → a ≡ b
one_refused peer bytes Wire b p q x y = sym (wire_alone peer bytes b x.0 x.1 y)
one_refused peer bytes OtherKey OtherKey p q x y = refl
one_refused peer bytes OtherKey Wire p q x y = wire_alone peer bytes OtherKey y.0 y.1 x
one_refused peer bytes OtherKey OutOfMemory p q x y = absurd (q refl)
one_refused peer bytes OtherKey Failed p q x y = absurd y
one_refused peer bytes OtherKey TooLong p q x y = absurd y
one_refused peer bytes OtherKey TooMany p q x y = absurd y
one_refused peer bytes OtherKey Cut p q x y = absurd y
one_refused peer bytes OutOfMemory b p q x y = absurd (p refl)
one_refused peer bytes Failed b p q x y = absurd x
one_refused peer bytes TooLong b p q x y = absurd x
one_refused peer bytes TooMany b p q x y = absurd x
one_refused peer bytes Cut b p q x y = absurd x

-- what an end fails by that isn't Cut
record Whole (peer input : List ℕ) (fault : IdentifyFault) : Type 0 where
  bodies : List (List ℕ)
  begins : Begins input bodies []
  some : 0 < length bodies
  refused : Refuses peer (concat bodies) fault

how_fails : (peer input : List ℕ) (fault : IdentifyFault) → EndFails peer input fault → ((fault ≡ Cut) × EndFails peer input Cut) ⊎ Whole peer input fault
how_fails peer input Cut p = inl (refl, p)
how_fails peer input Wire p = inr (record { bodies = p.0; begins = p.1; some = p.2; refused = p.3 })
how_fails peer input OtherKey p = inr (record { bodies = p.0; begins = p.1; some = p.2; refused = p.3 })
how_fails peer input OutOfMemory p = inr (record { bodies = p.0; begins = p.1; some = p.2; refused = p.3 })
how_fails peer input Failed p = inr (record { bodies = p.0; begins = p.1; some = p.2; refused = p.3 })
how_fails peer input TooLong p = inr (record { bodies = p.0; begins = p.1; some = p.2; refused = p.3 })
how_fails peer input TooMany p = inr (record { bodies = p.0; begins = p.1; some = p.2; refused = p.3 })

one_end : (peer input : List ℕ) (fault other : IdentifyFault) → fault ≢ OutOfMemory → other ≢ OutOfMemory → EndFails peer input fault → EndFails peer input other
    → fault ≡ other
one_end peer input fault other a b p q = by (how_fails peer input fault p) (how_fails peer input other q)
  where
    by : ((fault ≡ Cut) × EndFails peer input Cut) ⊎ Whole peer input fault → ((other ≡ Cut) × EndFails peer input Cut) ⊎ Whole peer input other → fault ≡ other
    by (inl x) (inl y) = x.0 ∙ sym y.0
    by (inl x) (inr y) = absurd (cut_or_whole peer input y.bodies x.1 y.begins y.some)
    by (inr x) (inl y) = absurd (cut_or_whole peer input x.bodies y.1 x.begins x.some)
    by (inr x) (inr y) = one_refused peer (concat x.bodies) fault other a b x.refused (refused_same peer input x.bodies y.bodies other x.begins y.begins y.refused)

-- ---- whole messages

read_joined : (peer input : List ℕ) (bodies : List (List ℕ)) → Begins input bodies [] → 0 < length bodies → (m : Message)
    → Reads peer input m ↔ Spells peer (concat bodies) m
read_joined peer input bodies begins some m = (
  λ reads. subst (λ (t : List (List ℕ)). Spells peer (concat t) m) (sym (whole_same input bodies reads.0 begins reads.1)) reads.3,
  λ spells. (bodies, begins, some, spells),
)

fails_joined : (peer input : List ℕ) (bodies : List (List ℕ)) → Begins input bodies [] → 0 < length bodies → (fault : IdentifyFault)
    → EndFails peer input fault ↔ Refuses peer (concat bodies) fault
fails_joined peer input bodies begins some Cut = (λ cut. cut_or_whole peer input bodies cut begins some, λ never. absurd never)
fails_joined peer input bodies begins some Wire = (λ f. refused_same peer input bodies f.0 Wire begins f.1 f.3, λ r. (bodies, begins, some, r))
fails_joined peer input bodies begins some OtherKey = (λ f. refused_same peer input bodies f.0 OtherKey begins f.1 f.3, λ r. (bodies, begins, some, r))
fails_joined peer input bodies begins some OutOfMemory = (λ f. refused_same peer input bodies f.0 OutOfMemory begins f.1 f.3, λ r. (bodies, begins, some, r))
fails_joined peer input bodies begins some Failed = (λ f. refused_same peer input bodies f.0 Failed begins f.1 f.3, λ r. (bodies, begins, some, r))
fails_joined peer input bodies begins some TooLong = (λ f. refused_same peer input bodies f.0 TooLong begins f.1 f.3, λ r. (bodies, begins, some, r))
fails_joined peer input bodies begins some TooMany = (λ f. refused_same peer input bodies f.0 TooMany begins f.1 f.3, λ r. (bodies, begins, some, r))

pub one_outcome : OneOutcome
one_outcome = record {
  fault = one_fault;
  goes = goes_or_fault;
  message = one_read;
  end = one_end;
  either = read_or_fails;
  whole = λ peer input bodies begins some. (read_joined peer input bodies begins some, fails_joined peer input bodies begins some);
}
