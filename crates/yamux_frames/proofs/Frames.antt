-- What a cutter answers are the frames of the bytes that it has used.
use Rattle.std.proofs.Common.{◌≡◌, ℕ, ◌-◌, ◌<◌, ◌≤◌, ◌↔◌, Bool, true, false, cond, nat_lt, IsTrue, List, [], ◌∷◌, ◌++◌, length, take, Option, Some, None, Result, Ok, Err, IfOk, IfErr, refl, sym, ap, ◌∙◌, subst, append_assoc, arith}
use Rattle.std.proofs.lemmas.Bool.{ltb-true, ltb-false}
use Rattle.std.proofs.lemmas.List.{append-nil, length-take}
use Rattle.yamux_frames.specs.declared.header.Header.{Header}
use Rattle.yamux_frames.specs.declared.header.FrameFault.{FrameFault}
use Rattle.yamux_frames.specs.declared.cutter.Cut.{Cut}
use Rattle.yamux_frames.specs.declared.cutter.Cut.TheVariants.{More, Part}
use Rattle.yamux_frames.specs.declared.cutter.Cut.TheVariants as cut
use Rattle.yamux_frames.specs.Spelling.{header_bytes, payload_length, IsHeader}
use Rattle.yamux_frames.specs.Place.{Place}
use Rattle.yamux_frames.specs.Cuts.{CutsAt, Answers, NeedsMore, HasHead, HasPart, IsRefused}
use Rattle.yamux_frames.specs.Frames.{Arrival, spelled, bytes_left, last_stream, IsBetween, IsWithin, AreFrames, IsRest, IsSound, Stands, StopsIn, Uses, IsLongest, EndsExactly, IsOfLast, with_bytes, with_cut}
use Rattle.yamux_frames.specs.Frames.Arrival.{Head, Byte, Tail, Garbled}

pub take_whole : (xs : List ℕ) → take (length xs) xs ≡ xs
take_whole [] = refl
take_whole (x ∷ xs) = ap (λ (t : List ℕ). x ∷ t) (take_whole xs)

-- ---- more of a header

more_rest : (past : List Arrival) (part piece : List ℕ) → IsSound past → IsRest past part → (0 < bytes_left past → piece ≡ []) → length (part ++ piece) < 12 → IsRest past (part ++ piece)
more_rest [] part piece good rest none short = short
more_rest (Tail ∷ past) part piece good rest none short = short
more_rest (Head h ∷ past) part piece good rest none short = (rest.0, ap (λ (t : List ℕ). t ++ piece) rest.1 ∙ none rest.0)
more_rest (Byte b ∷ past) part piece good rest none short = (rest.0, ap (λ (t : List ℕ). t ++ piece) rest.1 ∙ none rest.0)
more_rest (Garbled bytes ∷ past) part piece good rest none short = absurd good

-- with nothing left a header comes next
pub between : (past : List Arrival) (part : List ℕ) → IsSound past → IsRest past part → bytes_left past ≡ 0 → IsBetween past
between [] part good rest none = tt
between (Tail ∷ past) part good rest none = tt
between (Head h ∷ past) part good rest none = absurd (let some = rest.0 in omega arith)
between (Byte b ∷ past) part good rest none = absurd (let some = rest.0 in omega arith)
between (Garbled bytes ∷ past) part good rest none = absurd good

-- with something left the frame has no tail, and no header was begun
pub within : (past : List Arrival) (part : List ℕ) → IsRest past part → 0 < bytes_left past → IsWithin past × (part ≡ [])
within [] part rest some = absurd (omega arith)
within (Tail ∷ past) part rest some = absurd (omega arith)
within (Head h ∷ past) part rest some = (tt, rest.1)
within (Byte b ∷ past) part rest some = (tt, rest.1)
within (Garbled bytes ∷ past) part rest some = absurd (omega arith)

-- ---- bytes of a payload

pub bytes_spelled : (xs : List ℕ) (past : List Arrival) → spelled (with_bytes xs past) ≡ spelled past ++ xs
bytes_spelled [] past = sym (append-nil (spelled past))
bytes_spelled (x ∷ xs) past = bytes_spelled xs (Byte x ∷ past) ∙ append_assoc (spelled past) (x ∷ []) xs

pub bytes_after : (xs : List ℕ) (past : List Arrival) → bytes_left (with_bytes xs past) ≡ bytes_left past - length xs
bytes_after [] past = omega arith
bytes_after (x ∷ xs) past = let e = bytes_after xs (Byte x ∷ past) in omega arith

bytes_frames : (xs : List ℕ) (past : List Arrival) → AreFrames past → length xs ≤ bytes_left past → AreFrames (with_bytes xs past)
bytes_frames [] past frames fits = frames
bytes_frames (x ∷ xs) past frames fits = bytes_frames xs (Byte x ∷ past) (omega arith, frames) (omega arith)

pub bytes_older : (xs : List ℕ) (past : List Arrival) → AreFrames (with_bytes xs past) → AreFrames past
bytes_older [] past are = are
bytes_older (x ∷ xs) past are = (bytes_older xs (Byte x ∷ past) are).1

-- they are within it
pub bytes_fit : (xs : List ℕ) (past : List Arrival) → AreFrames (with_bytes xs past) → length xs ≤ bytes_left past
bytes_fit [] past are = omega arith
bytes_fit (x ∷ xs) past are =
    let fits = bytes_fit xs (Byte x ∷ past) are in
    let some = (bytes_older xs (Byte x ∷ past) are).0 in
    omega arith

bytes_stream : (xs : List ℕ) (past : List Arrival) → last_stream (with_bytes xs past) ≡ last_stream past
bytes_stream [] past = refl
bytes_stream (x ∷ xs) past = bytes_stream xs (Byte x ∷ past)

pub bytes_within : (xs : List ℕ) (past : List Arrival) → IsWithin past → IsWithin (with_bytes xs past)
bytes_within [] past w = w
bytes_within (x ∷ xs) past w = bytes_within xs (Byte x ∷ past) tt

pub bytes_good : (xs : List ℕ) (past : List Arrival) → IsSound past → IsSound (with_bytes xs past)
bytes_good [] past g = g
bytes_good (x ∷ xs) past g = bytes_good xs (Byte x ∷ past) tt

within_rest : (past : List Arrival) → IsWithin past → 0 < bytes_left past → IsRest past []
within_rest [] w some = absurd w
within_rest (Tail ∷ past) w some = absurd w
within_rest (Head h ∷ past) w some = (some, refl)
within_rest (Byte b ∷ past) w some = (some, refl)
within_rest (Garbled bytes ∷ past) w some = absurd w

-- ---- the answers

needs_more : (bytes piece : List ℕ) (past : List Arrival) (old new : Place) (used : ℕ) → Stands bytes past old → NeedsMore old piece used new → Stands (bytes ++ take used piece) past new
needs_more bytes piece past old new used at more =
    let left_is = at.left in
    subst (Stands (bytes ++ take used piece) past) (sym more.new_is) (record {
      going = refl;
      reads = record {
        whole = ap (λ k. bytes ++ take k piece) more.used_is ∙ ap (λ (t : List ℕ). bytes ++ t) (take_whole piece) ∙ ap (λ (t : List ℕ). t ++ piece) at.reads.whole ∙ append_assoc (spelled past) old.part piece;
        frames_are = at.reads.frames_are;
        rest_is = more_rest past old.part piece at.sound at.reads.rest_is (λ some. more.no_payload (omega arith)) (subst (λ (q : Place). length q.part < 12) more.new_is more.unfinished);
      };
      sound = at.sound;
      left = at.left;
      stream = at.stream;
    })

head_at : (bytes piece : List ℕ) (past : List Arrival) (old : Place) (used : ℕ) (h : Header) (b : Bool) → nat_lt 0 (payload_length h) ≡ b → Stands bytes past old
    → old.left ≡ 0 → old.part ++ take used piece ≡ header_bytes h → IsHeader h
    → Stands (bytes ++ take used piece) (cond b (Head h ∷ past) (Tail ∷ Head h ∷ past)) (record { part = []; stream = h.stream; left = payload_length h; fault = None })
head_at bytes piece past old used h true some at none head fits =
    record {
      going = refl;
      reads = record {
        whole = ap (λ (t : List ℕ). t ++ take used piece) at.reads.whole ∙ append_assoc (spelled past) old.part (take used piece) ∙ ap (λ (t : List ℕ). spelled past ++ t) head ∙ sym (append-nil (spelled past ++ header_bytes h));
        frames_are = (between past old.part at.sound at.reads.rest_is (let e = at.left in omega arith), fits, at.reads.frames_are);
        rest_is = (ltb-true 0 (payload_length h) some, refl);
      };
      sound = tt;
      left = refl;
      stream = λ _. refl;
    }
head_at bytes piece past old used h false some at none head fits =
    let empty : payload_length h ≤ 0 = ltb-false 0 (payload_length h) some in
    record {
      going = refl;
      reads = record {
        whole = ap (λ (t : List ℕ). t ++ take used piece) at.reads.whole ∙ append_assoc (spelled past) old.part (take used piece) ∙ ap (λ (t : List ℕ). spelled past ++ t) head
            ∙ sym (append-nil (spelled past ++ header_bytes h)) ∙ sym (append-nil ((spelled past ++ header_bytes h) ++ []));
        frames_are = (tt, omega arith, (between past old.part at.sound at.reads.rest_is (let e = at.left in omega arith), fits, at.reads.frames_are));
        rest_is = omega arith;
      };
      sound = tt;
      left = omega arith;
      stream = λ some_left. absurd (omega arith);
    }

has_head : (bytes piece : List ℕ) (past : List Arrival) (old new : Place) (used : ℕ) (h : Header) → Stands bytes past old → HasHead old piece used h new
    → Stands (bytes ++ take used piece) (with_cut (take used piece) (cut.Head h) past) new
has_head bytes piece past old new used h at head =
    subst (Stands (bytes ++ take used piece) (with_cut (take used piece) (cut.Head h) past)) (sym head.new_is)
    (head_at bytes piece past old used h (nat_lt 0 (payload_length h)) refl at head.between head.bytes head.fits)

-- the payload so far
part_whole : (bytes xs part : List ℕ) (past : List Arrival) → bytes ≡ spelled past ++ part → part ≡ [] → bytes ++ xs ≡ spelled (with_bytes xs past) ++ part
part_whole bytes xs part past whole none =
    ap (λ (t : List ℕ). t ++ xs) whole ∙ ap (λ (t : List ℕ). (spelled past ++ t) ++ xs) none ∙ ap (λ (t : List ℕ). t ++ xs) (append-nil (spelled past))
    ∙ sym (bytes_spelled xs past) ∙ sym (append-nil (spelled (with_bytes xs past))) ∙ ap (λ (t : List ℕ). spelled (with_bytes xs past) ++ t) (sym none)

has_part : (bytes piece : List ℕ) (past : List Arrival) (old new : Place) (used stream from to : ℕ) (last : Bool) → Stands bytes past old → HasPart old piece used stream from to new
    → (IsTrue last ↔ (used ≡ old.left)) → Stands (bytes ++ take used piece) (with_cut (take used piece) (Part stream from to last) past) new
has_part bytes piece past old new used stream from to true at part ends =
    let left_is = at.left in
    let some = part.some in
    let expected = part.expected in
    let all : used ≡ old.left = ends.0 refl in
    let xs : List ℕ = take used piece in
    let count : length xs ≡ used = (let fits = part.within in omega (arith, length-take used piece)) in
    let open_frame = within past old.part at.reads.rest_is (omega arith) in
    subst (Stands (bytes ++ xs) (Tail ∷ with_bytes xs past)) (sym part.new_is) (record {
      going = refl;
      reads = record {
        whole = part_whole bytes xs old.part past at.reads.whole open_frame.1 ∙ ap (λ (t : List ℕ). t ++ old.part) (sym (append-nil (spelled (with_bytes xs past))));
        frames_are = (bytes_within xs past open_frame.0, (let e = bytes_after xs past in omega arith), bytes_frames xs past at.reads.frames_are (omega arith));
        rest_is = subst (λ (t : List ℕ). length t < 12) (sym open_frame.1) (omega arith);
      };
      sound = tt;
      left = omega arith;
      stream = λ some_left. absurd (omega arith);
    })
has_part bytes piece past old new used stream from to false at part ends =
    let left_is = at.left in
    let some = part.some in
    let expected = part.expected in
    let xs : List ℕ = take used piece in
    let count : length xs ≡ used = (let fits = part.within in omega (arith, length-take used piece)) in
    let open_frame = within past old.part at.reads.rest_is (omega arith) in
    let not_all : used ≡ old.left → ⊥ = λ e. absurd (let bad = ends.1 e in cc) in
    let more : old.left - used ≡ bytes_left (with_bytes xs past) = (let e = bytes_after xs past in omega arith) in
    subst (Stands (bytes ++ xs) (with_bytes xs past)) (sym part.new_is) (record {
      going = refl;
      reads = record {
        whole = part_whole bytes xs old.part past at.reads.whole open_frame.1;
        frames_are = bytes_frames xs past at.reads.frames_are (omega arith);
        rest_is = subst (IsRest (with_bytes xs past)) (sym open_frame.1) (within_rest (with_bytes xs past) (bytes_within xs past open_frame.0) (omega arith));
      };
      sound = bytes_good xs past at.sound;
      left = more;
      stream = λ some_left. at.stream (omega arith) ∙ sym (bytes_stream xs past);
    })

pub stands : (bytes piece : List ℕ) (past : List Arrival) (old new : Place) (used : ℕ) (answer : Cut) → Stands bytes past old → Answers old piece used answer new
    → Stands (bytes ++ take used piece) (with_cut (take used piece) answer past) new
stands bytes piece past old new used More at a = needs_more bytes piece past old new used at a
stands bytes piece past old new used (cut.Head h) at a = has_head bytes piece past old new used h at a
stands bytes piece past old new used (Part stream from to last) at a = has_part bytes piece past old new used stream from to last at a.0 a.1

pub frames : (fault : Option FrameFault) (old new : Place) (piece : List ℕ) (result : Result (ℕ × Cut) FrameFault) → CutsAt fault old piece result new
    → IfOk result (λ answer. (bytes : List ℕ) (past : List Arrival) → Stands bytes past old
    → Stands (bytes ++ take answer.0 piece) (with_cut (take answer.0 piece) answer.1 past) new)
frames (Some known) old new piece (Ok answer) cuts = absurd (let e = cuts.0 in cc)
frames (Some known) old new piece (Err fault) cuts = tt
frames None old new piece (Ok answer) cuts = λ bytes past at. stands bytes piece past old new answer.0 answer.1 at cuts
frames None old new piece (Err fault) cuts = tt

uses_some : (old new : Place) (piece : List ℕ) (used : ℕ) (answer : Cut) → Answers old piece used answer new → Uses piece used answer
uses_some old new piece used More a = a.used_is
uses_some old new piece used (cut.Head h) a = (a.some, a.within)
uses_some old new piece used (Part stream from to last) a = (a.0.some, a.0.within, a.0.from_is, a.0.to_is)

pub uses : (fault : Option FrameFault) (old new : Place) (piece : List ℕ) (result : Result (ℕ × Cut) FrameFault) → CutsAt fault old piece result new
    → IfOk result (λ answer. Uses piece answer.0 answer.1)
uses (Some known) old new piece (Ok answer) cuts = absurd (let e = cuts.0 in cc)
uses (Some known) old new piece (Err fault) cuts = tt
uses None old new piece (Ok answer) cuts = uses_some old new piece answer.0 answer.1 cuts
uses None old new piece (Err fault) cuts = tt

is_longest : (old new : Place) (piece : List ℕ) (used : ℕ) (answer : Cut) → Answers old piece used answer new → IsLongest piece answer
is_longest old new piece used More a = tt
is_longest old new piece used (cut.Head h) a = tt
is_longest old new piece used (Part stream from to true) a = λ e. absurd (cc)
is_longest old new piece used (Part stream from to false) a = λ e.
    let expected = a.0.expected in
    let not_all : used ≡ old.left → ⊥ = λ all. absurd (let bad = a.1.1 all in cc) in
    a.0.to_is ∙ a.0.most (omega arith)

pub longest : (fault : Option FrameFault) (old new : Place) (piece : List ℕ) (result : Result (ℕ × Cut) FrameFault) → CutsAt fault old piece result new
    → IfOk result (λ answer. IsLongest piece answer.1)
longest (Some known) old new piece (Ok answer) cuts = absurd (let e = cuts.0 in cc)
longest (Some known) old new piece (Err fault) cuts = tt
longest None old new piece (Ok answer) cuts = is_longest old new piece answer.0 answer.1 cuts
longest None old new piece (Err fault) cuts = tt

ends_exactly : (old new : Place) (piece : List ℕ) (used : ℕ) (answer : Cut) → Answers old piece used answer new → EndsExactly answer new
ends_exactly old new piece used More a = tt
ends_exactly old new piece used (cut.Head h) a = ap (λ (q : Place). q.part) a.new_is
ends_exactly old new piece used (Part stream from to last) a = tt

pub exact : (fault : Option FrameFault) (old new : Place) (piece : List ℕ) (result : Result (ℕ × Cut) FrameFault) → CutsAt fault old piece result new
    → IfOk result (λ answer. EndsExactly answer.1 new)
exact (Some known) old new piece (Ok answer) cuts = absurd (let e = cuts.0 in cc)
exact (Some known) old new piece (Err fault) cuts = tt
exact None old new piece (Ok answer) cuts = ends_exactly old new piece answer.0 answer.1 cuts
exact None old new piece (Err fault) cuts = tt

of_last : (old new : Place) (bytes piece : List ℕ) (past : List Arrival) (used : ℕ) (answer : Cut) → Stands bytes past old → Answers old piece used answer new → IsOfLast past answer
of_last old new bytes piece past used More at a = tt
of_last old new bytes piece past used (cut.Head h) at a = tt
of_last old new bytes piece past used (Part stream from to last) at a =
    a.0.stream_is ∙ at.stream (let some = a.0.some in let expected = a.0.expected in omega arith)

pub streams : (fault : Option FrameFault) (old new : Place) (piece : List ℕ) (result : Result (ℕ × Cut) FrameFault) → CutsAt fault old piece result new
    → IfOk result (λ answer. (bytes : List ℕ) (past : List Arrival) → Stands bytes past old → IsOfLast past answer.1)
streams (Some known) old new piece (Ok answer) cuts = absurd (let e = cuts.0 in cc)
streams (Some known) old new piece (Err fault) cuts = tt
streams None old new piece (Ok answer) cuts = λ bytes past at. of_last old new bytes piece past answer.0 answer.1 at cuts
streams None old new piece (Err fault) cuts = tt

-- ---- the faults

stops_in : (bytes piece : List ℕ) (past : List Arrival) (old new : Place) (fault : FrameFault) → Stands bytes past old → IsRefused old piece fault new → StopsIn bytes past piece fault
stops_in bytes piece past old new fault at refused =
    let used : ℕ = refused.bytes.0 in
    let garbled : List ℕ = old.part ++ take used piece in
    record {
      used = used;
      garbled = garbled;
      within = refused.bytes.1;
      why = refused.bytes.2;
      reads = record {
        whole = ap (λ (t : List ℕ). t ++ take used piece) at.reads.whole ∙ append_assoc (spelled past) old.part (take used piece) ∙ sym (append-nil (spelled past ++ garbled));
        frames_are = (between past old.part at.sound at.reads.rest_is (let e = at.left in let none = refused.between in omega arith), (fault, refused.bytes.2), at.reads.frames_are);
        rest_is = tt;
      };
    }

pub stops : (fault : Option FrameFault) (old new : Place) (piece : List ℕ) (result : Result (ℕ × Cut) FrameFault) → old.fault ≡ fault → CutsAt fault old piece result new
    → IfErr result (λ f. (bytes : List ℕ) (past : List Arrival) → Stands bytes past old → StopsIn bytes past piece f)
stops (Some known) old new piece (Ok answer) e cuts = tt
stops (Some known) old new piece (Err fault) e cuts = λ bytes past at. absurd (let going = at.going in let bad : Some known ≡ None = sym e ∙ going in cc)
stops None old new piece (Ok answer) e cuts = tt
stops None old new piece (Err fault) e cuts = λ bytes past at. stops_in bytes piece past old new fault at cuts

pub stays : (fault : Option FrameFault) (old new : Place) (piece : List ℕ) (result : Result (ℕ × Cut) FrameFault) → old.fault ≡ fault → CutsAt fault old piece result new
    → IfErr result (λ f. new.fault ≡ Some f)
stays (Some known) old new piece (Ok answer) e cuts = tt
stays (Some known) old new piece (Err fault) e cuts = ap (λ (q : Place). q.fault) cuts.1 ∙ e ∙ (let same = cuts.0 in cc)
stays None old new piece (Ok answer) e cuts = tt
stays None old new piece (Err fault) e cuts = cuts.fault_is
