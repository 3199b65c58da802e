-- A stream of messages, as its bytes come.
use Rattle.std.proofs.Common.{◌≡◌, ◌≢◌, ◌⊎◌, ℕ, zero, suc, ◌+◌, ◌-◌, ◌<◌, ◌≤◌, List, [], ◌∷◌, ◌++◌, length, Option, Some, None, Ok, Err, Bool, true, false, ◌||◌, ◌==◌, cond, refl, sym, ap, subst, ◌∙◌, inl, inr, append_assoc, arith}
use Rattle.std.specs.Prelude.{take, drop, IfSome, is_some}
use Rattle.std.specs.List.{concat}
use Rattle.std.proofs.lemmas.Bool.{cases_lt, eq-eqb}
use Rattle.std.proofs.lemmas.List.{append-nil, length-append, length-drop}
use Rattle.varint_proto.proofs.Pieces.{take_past}
use Rattle.varint_proto.specs.declared.fault.IncomingRefused.{IncomingRefused}
use Rattle.varint_proto.specs.declared.fault.IncomingRefused.TheVariants as incoming
use Rattle.varint_proto.specs.Incoming as framed
use Rattle.varint_proto.specs.Incoming.{Arriving, Announces, Frames, ReadsFramed, RefusesRoom, IsWhole}
use Rattle.varint_proto.proofs.Framed.{frames_more}
use Rattle.varint_proto.proofs.Arriving.{known, whole_read, partial_read, behind, two_places}
use Rattle.identify_h.specs.declared.fault.IdentifyFault.{IdentifyFault}
use Rattle.identify_h.specs.declared.fault.IdentifyFault.TheVariants.{Failed, TooLong, TooMany, Wire, OtherKey, Cut, OutOfMemory}
use Rattle.identify_h.specs.Faults.{of_incoming}
use Rattle.identify_h.specs.Sending.{most_bytes}
use Rattle.identify_h.specs.Streams.{Lead, Begins, left_behind, HasFault, TakeFails, AsksRoom, EndFails}
use Rattle.identify_h.specs.Messages.{Refuses}
use Rattle.identify_h.specs.Reading.{Reader, Stands, is_over}
use Rattle.identify_h.specs.Room.{HasRoom, Holds, waits, waiting}

lead_on : (left : ℕ) (input more : List ℕ) (bodies : List (List ℕ)) (rest : List ℕ) → Lead left input bodies rest → Lead left (input ++ more) bodies (rest ++ more)
lead_on left input more [] rest e = ap (λ (t : List ℕ). t ++ more) e
lead_on left input more (body ∷ bodies) rest leads =
    (leads.0 ++ more, frames_more left input more body leads.0 leads.1, lead_on (left - length body) leads.0 more bodies rest leads.2)

pub begins_on : (input more : List ℕ) (bodies : List (List ℕ)) (rest : List ℕ) → Begins input bodies rest → Begins (input ++ more) bodies (rest ++ more)
begins_on input more bodies rest begins = record { few = begins.few; lead = lead_on most_bytes input more bodies rest begins.lead }

lead_more : (left : ℕ) (input : List ℕ) (bodies : List (List ℕ)) (rest body after : List ℕ) → Lead left input bodies rest
    → Frames (left - length (concat bodies)) rest body after → Lead left input (bodies ++ body ∷ []) after
lead_more left input [] rest body after e frames =
    let all : left - 0 ≡ left = omega arith in
    (after, subst (λ (t : List ℕ). Frames left t body after) (sym e) (subst (λ k. Frames k rest body after) all frames), refl)
lead_more left input (b ∷ bodies) rest body after leads frames =
    let sum = length-append b (concat bodies) in
    let less : left - length (b ++ concat bodies) ≡ (left - length b) - length (concat bodies) = omega arith in
    (leads.0, leads.1, lead_more (left - length b) leads.0 bodies rest body after leads.2 (subst (λ k. Frames k rest body after) less frames))

count_more : (bodies : List (List ℕ)) (body : List ℕ) → length (bodies ++ body ∷ []) ≡ length bodies + 1
count_more [] body = refl
count_more (b ∷ bodies) body = let more = count_more bodies body in omega arith

concat_more : (bodies : List (List ℕ)) (body : List ℕ) → concat (bodies ++ body ∷ []) ≡ concat bodies ++ body
concat_more [] body = append-nil body
concat_more (b ∷ bodies) body = ap (λ (t : List ℕ). b ++ t) (concat_more bodies body) ∙ sym (append_assoc b (concat bodies) body)

-- ---- a message that has begun

pub few_unless : (n : ℕ) → n ≤ 10 → n ≢ 10 → n < 10
few_unless n le not_ten = by (cases_lt n 10)
  where
    by : (n < 10) ⊎ (10 ≤ n) → n < 10
    by (inl lt) = lt
    by (inr ge) = absurd (not_ten (omega arith))

pub holds_from : (input : List ℕ) (r : Reader) → Stands input r → r.count ≢ 10 → Holds input r
holds_from input r at not_ten = record {
  bodies = at.bodies;
  rest = at.rest;
  begins = at.begins;
  few = few_unless (length at.bodies) at.begins.few (λ ten. not_ten (at.count ∙ ten));
  count = at.count;
  joined = at.joined;
  next = at.next;
  limit = at.limit;
}

pub holds_on : (input more : List ℕ) (r s : Reader) → Holds input r → s.count ≡ r.count → s.joined ≡ r.joined
    → ((rest : List ℕ) → framed.Stands rest r.next → framed.Stands (rest ++ more) s.next) → s.next.limit ≡ r.next.limit → Holds (input ++ more) s
holds_on input more r s at count joined next limit = record {
  bodies = at.bodies;
  rest = at.rest ++ more;
  begins = begins_on input more at.bodies at.rest at.begins;
  few = at.few;
  count = count ∙ at.count;
  joined = joined ∙ at.joined;
  next = next at.rest at.next;
  limit = limit ∙ at.limit;
}

pub stands_partial : (input : List ℕ) (r : Reader) → Holds input r → r.failed ≡ false → (IsWhole r.next → ⊥) → Stands input r
stands_partial input r at going partial = record {
  going = going;
  bodies = at.bodies;
  rest = at.rest;
  begins = at.begins;
  part = inr (at.few, subst (λ k. ReadsFramed k at.rest (Ok None)) at.limit (partial_read r.next at.rest at.next partial));
  count = at.count;
  joined = at.joined;
  next = at.next;
  limit = at.limit;
}

pub stands_whole : (input : List ℕ) (r s : Reader) → Holds input r → IsWhole r.next → s.failed ≡ false → s.count ≡ r.count + 1
    → s.joined ≡ r.joined ++ r.next.body → framed.Stands [] s.next → s.next.limit ≡ most_bytes - length s.joined → Stands input s
stands_whole input r s at whole going count joined next limit =
    let body : List ℕ = r.next.body in
    let bodies : List (List ℕ) = at.bodies ++ body ∷ [] in
    let more = count_more at.bodies body in
    let all : s.joined ≡ concat bodies = joined ∙ ap (λ (t : List ℕ). t ++ body) at.joined ∙ sym (concat_more at.bodies body) in
    let frames = subst (λ k. Frames k at.rest body []) at.limit (whole_read r.next at.rest at.next whole) in
    record {
      going = going;
      bodies = bodies;
      rest = [];
      begins = record {
        few = let few = at.few in omega arith;
        lead = lead_more most_bytes input at.bodies at.rest body [] at.begins.lead frames;
      };
      part = inl refl;
      count = let was = at.count in omega arith;
      joined = all;
      next = next;
      limit = limit ∙ ap (λ (t : List ℕ). most_bytes - length t) all;
    }

-- ---- faults

pub too_many : (input bytes : List ℕ) (r : Reader) → Stands input r → r.count ≡ 10 → 0 < length bytes → HasFault (input ++ bytes) TooMany
too_many input bytes r at ten some =
    let full : length at.bodies ≡ 10 = sym at.count ∙ ten in
    (at.bodies, at.rest ++ bytes, begins_on input bytes at.bodies at.rest at.begins, (full, let sum = length-append at.rest bytes in omega arith))

pub length_fault : (input bytes : List ℕ) (r : Reader) (fault : IncomingRefused) → Holds input r → fault ≢ incoming.OutOfMemory
    → ((rest : List ℕ) → framed.Stands rest r.next → ReadsFramed r.next.limit (rest ++ bytes) (Err fault)) → TakeFails input bytes (of_incoming fault)
length_fault input bytes r incoming.BadLength at some faulty = (
  at.bodies,
  at.rest ++ bytes,
  begins_on input bytes at.bodies at.rest at.begins,
  (at.few, subst (λ k. ReadsFramed k (at.rest ++ bytes) (Err incoming.BadLength)) at.limit (faulty at.rest at.next)),
)
length_fault input bytes r incoming.TooLong at some faulty = (
  at.bodies,
  at.rest ++ bytes,
  begins_on input bytes at.bodies at.rest at.begins,
  (at.few, subst (λ k. ReadsFramed k (at.rest ++ bytes) (Err incoming.TooLong)) at.limit (faulty at.rest at.next)),
)
length_fault input bytes r incoming.Failed at some faulty = absurd (faulty at.rest at.next)
length_fault input bytes r incoming.OutOfMemory at some faulty = absurd (some refl)

pub no_room : (input bytes : List ℕ) (r : Reader) → Holds input r
    → ((rest : List ℕ) → framed.Stands rest r.next → RefusesRoom r.next.limit r.next.room rest bytes) → TakeFails input bytes OutOfMemory
no_room input bytes r at refuses =
    let place = refuses at.rest at.next in
    let n : ℕ = place.0 in
    let asks = place.3 in (
      n + 1,
      (omega arith),
      (let lt = place.1 in omega arith),
      (
        at.bodies,
        at.rest ++ take (n + 1) bytes,
        begins_on input (take (n + 1) bytes) at.bodies at.rest at.begins,
        at.few,
        (asks.0, subst (λ k. Announces k (at.rest ++ take (n + 1) bytes) asks.0 []) at.limit asks.1, (let more = asks.2 in omega arith)),
      ),
    )

pub length_refused : (input bytes : List ℕ) (r : Reader) (fault : IncomingRefused) → Holds input r
    → ((rest : List ℕ) → framed.Stands rest r.next → fault ≢ incoming.OutOfMemory → ReadsFramed r.next.limit (rest ++ bytes) (Err fault))
    → ((rest : List ℕ) → framed.Stands rest r.next → fault ≡ incoming.OutOfMemory → RefusesRoom r.next.limit r.next.room rest bytes)
    → TakeFails input bytes (of_incoming fault)
length_refused input bytes r incoming.BadLength at faulty refuses = length_fault input bytes r incoming.BadLength at (λ e. cc) (λ rest standing. faulty rest standing (λ e. cc))
length_refused input bytes r incoming.TooLong at faulty refuses = length_fault input bytes r incoming.TooLong at (λ e. cc) (λ rest standing. faulty rest standing (λ e. cc))
length_refused input bytes r incoming.Failed at faulty refuses = length_fault input bytes r incoming.Failed at (λ e. cc) (λ rest standing. faulty rest standing (λ e. cc))
length_refused input bytes r incoming.OutOfMemory at faulty refuses = no_room input bytes r at (λ rest standing. refuses rest standing refl)

pub none_joined : (input bytes : List ℕ) (n len : ℕ) (s : Reader) → Holds (input ++ take n bytes) s → s.next.expected ≡ Some len → s.next.body ≡ []
    → 0 < n → n ≤ length bytes → 0 < len → TakeFails input bytes OutOfMemory
none_joined input bytes n len s at expected empty some within pos =
    let announces = (known s.next at.rest len expected at.next).0 in (
      n,
      some,
      within,
      (
        at.bodies,
        at.rest,
        at.begins,
        at.few,
        (len, subst (λ (b : List ℕ). Announces (left_behind at.bodies) at.rest len b) empty (subst (λ k. Announces k at.rest len s.next.body) at.limit announces), pos),
      ),
    )

-- ---- room

-- a message that goes on has the room that it had
pub same_room : (failed : Bool) (count len capacity : ℕ) (x y : Arriving) → HasRoom failed count len capacity x → y.failed ≡ false → y.limit ≡ x.limit → y.expected ≡ x.expected
    → HasRoom failed count len capacity y
same_room failed count len capacity x y has goes limit same = record {
  few_messages = has.few_messages;
  next_goes = λ _. goes;
  few_bytes = λ going. ap (λ k. len + k) limit ∙ has.few_bytes going;
  room = λ n going known.
      let room = has.room n going (sym same ∙ known) in
      (room.0, subst (λ k. n ≤ k) (sym limit) room.1);
}

-- where no room was made, more than no byte of a length has come
pub some_digits : (digits : ℕ) (old new : Option ℕ) → (old ≡ None → 0 < digits) → (old ≢ None → digits ≡ 0 → new ≡ old) → (n len capacity : ℕ)
    → new ≡ Some n → ((m : ℕ) → old ≡ Some m → len + m ≤ capacity) → capacity < len + n → 0 < digits
some_digits digits None new some same n len capacity is room none = some refl
some_digits zero (Some m) new some same n len capacity is room none =
    absurd (let e : Some m ≡ Some n = sym (same (λ e. cc) refl) ∙ is in let eq : m ≡ n = cc in let fits = room m refl in omega arith)
some_digits (suc d) (Some m) new some same n len capacity is room none = omega arith

pub not_failed : (r : Reader) → is_over r ≡ false → r.failed ≡ false
not_failed r e = by r.failed (is_some r.message) e
  where
    by : (a b : Bool) → a || b ≡ false → a ≡ false
    by true b e = absurd cc
    by false b e = refl

-- behind a length
pub room_behind : (count len capacity : ℕ) (x y : Arriving) → count < 10 → len + x.limit ≡ most_bytes → y.failed ≡ false → y.limit ≡ x.limit
    → ((n : ℕ) → y.expected ≡ Some n → len + n ≤ capacity) → ((n : ℕ) → y.expected ≡ Some n → n ≤ y.limit) → HasRoom false count len capacity y
room_behind count len capacity x y few all goes limit room allowed = record {
  few_messages = omega arith;
  next_goes = λ _. goes;
  few_bytes = λ _. ap (λ k. len + k) limit ∙ all;
  room = λ n _ known. (room n known, allowed n known);
}

-- a length that is known was allowed: it was known before, or has just come
pub still_allowed : (old new : Option ℕ) (limit was : ℕ) → limit ≡ was → (old ≢ None → new ≡ old) → (old ≡ None → IfSome new (λ n. n ≤ limit))
    → ((n : ℕ) → old ≡ Some n → n ≤ was) → (n : ℕ) → new ≡ Some n → n ≤ limit
still_allowed None new limit was same stays comes before n is = subst (λ (o : Option ℕ). IfSome o (λ k. k ≤ limit)) is (comes refl)
still_allowed (Some m) new limit was same stays comes before n is =
    let small = before n (sym (stays (λ e. cc)) ∙ is) in omega arith

-- where bytes of a length have come, it wasn't known before
pub unknown_if : (old : Option ℕ) (digits : ℕ) → 0 < digits → (old ≢ None → digits ≡ 0) → old ≡ None
unknown_if None digits some same = refl
unknown_if (Some m) digits some same = absurd (let none = same (λ e. cc) in omega arith)

-- ---- a body that waits

pub not_waiting : (x : Arriving) → waiting x ≡ 0 → IsWhole x → ⊥
not_waiting x none whole =
    let one : waiting x ≡ 1 = ap (waits (length x.body)) whole ∙ ap (λ b. cond b 1 0) (eq-eqb (length x.body) (length x.body) refl) in
    omega arith

-- ---- where a piece goes on

rest_of : (piece : List ℕ) (n : ℕ) → take (length piece - n) (drop n piece) ≡ drop n piece
rest_of piece n = take_past (drop n piece) (length piece - n) (omega (arith, length-drop n piece))

pub places_on : (input piece : List ℕ) (m n : ℕ) → (input ++ take m piece) ++ take n (take (length piece - m) (drop m piece)) ≡ input ++ take (m + n) piece
places_on input piece m n = ap (λ (t : List ℕ). (input ++ take m piece) ++ take n t) (rest_of piece m) ∙ two_places input piece m n

all_on : (input piece : List ℕ) (m : ℕ) → (input ++ take m piece) ++ take (length piece - m) (drop m piece) ≡ input ++ piece
all_on input piece m = ap (λ (t : List ℕ). (input ++ take m piece) ++ t) (rest_of piece m) ∙ behind input piece m

-- a call that takes the rest of a piece fails where the whole call does
pub fails_on : (input piece : List ℕ) (m : ℕ) (fault : IdentifyFault) → m ≤ length piece
    → TakeFails (input ++ take m piece) (take (length piece - m) (drop m piece)) fault → TakeFails input piece fault
fails_on input piece m OutOfMemory within fails =
    let size : length (take (length piece - m) (drop m piece)) ≡ length piece - m = ap length (rest_of piece m) ∙ length-drop m piece in
    let small = fails.2 in
    let some = fails.1 in
    (m + fails.0, (omega arith), (omega arith), subst AsksRoom (places_on input piece m fails.0) fails.3)
fails_on input piece m TooLong within fails = subst (λ (t : List ℕ). HasFault t TooLong) (all_on input piece m) fails
fails_on input piece m TooMany within fails = subst (λ (t : List ℕ). HasFault t TooMany) (all_on input piece m) fails
fails_on input piece m Wire within fails = subst (λ (t : List ℕ). HasFault t Wire) (all_on input piece m) fails
fails_on input piece m OtherKey within fails = subst (λ (t : List ℕ). HasFault t OtherKey) (all_on input piece m) fails
fails_on input piece m Failed within fails = subst (λ (t : List ℕ). HasFault t Failed) (all_on input piece m) fails
fails_on input piece m Cut within fails = subst (λ (t : List ℕ). HasFault t Cut) (all_on input piece m) fails

-- ---- the end

none_of : (bodies : List (List ℕ)) → length bodies ≡ 0 → bodies ≡ []
none_of [] e = refl
none_of (b ∷ bodies) e = absurd (omega arith)

some_of : (rest : List ℕ) → rest ≢ [] → 0 < length rest
some_of [] some = absurd (some refl)
some_of (b ∷ rest) some = omega arith

pub cut_before : (peer input : List ℕ) (r : Reader) → Stands input r → r.count ≡ 0 → EndFails peer input Cut
cut_before peer input r at none = (at.bodies, at.rest, at.begins, at.part, inl (none_of at.bodies (sym at.count ∙ none)))

pub cut_within : (peer input : List ℕ) (r : Reader) → Stands input r → ((rest : List ℕ) → framed.Stands rest r.next → rest ≢ []) → EndFails peer input Cut
cut_within peer input r at some = (at.bodies, at.rest, at.begins, at.part, inr (some_of at.rest (some at.rest at.next)))

pub end_refused : (peer input : List ℕ) (r : Reader) (fault : IdentifyFault) → Stands input r → r.count ≢ 0
    → ((rest : List ℕ) → framed.Stands rest r.next → rest ≡ []) → Refuses peer r.joined fault → EndFails peer input fault
end_refused peer input r fault at some whole refuses = by fault (subst (λ (t : List ℕ). Refuses peer t fault) at.joined refuses)
  where
    begins : Begins input at.bodies []
    begins = subst (Begins input at.bodies) (whole at.rest at.next) at.begins

    pos : 0 < length at.bodies
    pos = by_count (length at.bodies) refl
      where
        by_count : (n : ℕ) → length at.bodies ≡ n → 0 < length at.bodies
        by_count zero e = absurd (some (at.count ∙ e))
        by_count (suc n) e = omega arith

    by : (f : IdentifyFault) → Refuses peer (concat at.bodies) f → EndFails peer input f
    by Wire refused = (at.bodies, begins, pos, refused)
    by OtherKey refused = (at.bodies, begins, pos, refused)
    by OutOfMemory refused = (at.bodies, begins, pos, refused)
    by Failed refused = absurd refused
    by TooLong refused = absurd refused
    by TooMany refused = absurd refused
    by Cut refused = absurd refused

-- ---- after the end, or a fault

pub over_failed : (r : Reader) → r.failed ≡ true → is_over r ≡ true
over_failed r e = ap (λ b. b || is_some r.message) e

pub over_read : (r : Reader) → is_some r.message ≡ true → is_over r ≡ true
over_read r e = ap (λ b. r.failed || b) e ∙ always r.failed
  where
    always : (b : Bool) → b || true ≡ true
    always true = refl
    always false = refl

pub not_both : (r : Reader) → is_over r ≡ true → is_over r ≡ false → ⊥
not_both r over going = let both : true ≡ false = sym over ∙ going in cc

pub goes : (r : Reader) → r.failed ≡ false → is_some r.message ≡ false → is_over r ≡ false
goes r f m = ap (λ b. b || is_some r.message) f ∙ m
