-- The clauses of a cutter determine its answer.
use Rattle.std.proofs.Common.{◌≡◌, ℕ, ◌-◌, ◌<◌, ◌≤◌, Bool, true, false, cond, nat_lt, List, [], ◌∷◌, ◌++◌, length, take, drop, refl, sym, ap, ◌∙◌, subst, append_assoc, arith}
use Rattle.std.proofs.lemmas.List.{append-nil, length-append, length-take-le, take-append-drop, length-drop, append_cancel_left}
use Rattle.std.proofs.lemmas.Bool.{ltb-true, ltb-false}
use Rattle.yamux_frames.specs.declared.header.Header.{Header}
use Rattle.yamux_frames.specs.declared.header.FrameFault.{FrameFault}
use Rattle.yamux_frames.specs.declared.header.FrameFault.TheVariants.{BadVersion, BadType}
use Rattle.yamux_frames.specs.declared.cutter.Cut.{Cut}
use Rattle.yamux_frames.specs.declared.cutter.Cut.TheVariants.{More, Part}
use Rattle.yamux_frames.specs.declared.cutter.Cut.TheVariants as cut
use Rattle.yamux_frames.specs.Spelling.{header_bytes, payload_length, HasFault}
use Rattle.yamux_frames.specs.Place.{Place}
use Rattle.yamux_frames.specs.Frames.{Arrival, spelled, bytes_left, IsWithin, AreFrames, IsRest, IsSound, Stands, StopsIn, with_bytes}
use Rattle.yamux_frames.specs.Frames.Arrival.{Head, Tail, Garbled}
use Rattle.yamux_frames.specs.OneAnswer.{IsAllowed, AreAllowed, OneAnswer, AnswerOrFault, OneFault}
use Rattle.yamux_frames.proofs.Front.{one_header, no_header, twelve, between_none, not_both, same_front}
use Rattle.yamux_frames.proofs.Frames.{within, between, bytes_spelled, bytes_after, bytes_within, take_whole, bytes_fit}
use Rattle.yamux_frames.proofs.Readings.{no_more}

pub are_allowed : AreAllowed
are_allowed bytes past piece used cut new uses frames longest exact stream = record { uses = uses; frames = frames; longest = longest; exact = exact; stream = stream }

-- ---- what each answer says

record IsMore (bytes : List ℕ) (past : List Arrival) (piece : List ℕ) (used : ℕ) (new : Place) : Type 0 where
  all : used ≡ length piece
  whole : bytes ++ piece ≡ spelled past ++ new.part
  rest : IsRest past new.part
  left : new.left ≡ bytes_left past

record IsHead (bytes : List ℕ) (past : List Arrival) (piece : List ℕ) (used : ℕ) (h : Header) (new : Place) : Type 0 where
  fits : used ≤ length piece
  whole : bytes ++ piece ≡ spelled past ++ (header_bytes h ++ drop used piece)
  are : AreFrames (Head h ∷ past)
  part : new.part ≡ []
  left : new.left ≡ payload_length h

record IsPart (bytes : List ℕ) (past : List Arrival) (piece : List ℕ) (used : ℕ) (last : Bool) (new : Place) : Type 0 where
  some : 0 < used
  fits : used ≤ length piece
  there : 0 < bytes_left past
  most : used ≤ bytes_left past
  ended : last ≡ true → used ≡ bytes_left past
  going : last ≡ false → used < bytes_left past
  part : new.part ≡ []
  left : new.left ≡ bytes_left past - used

is_more : (bytes : List ℕ) (past : List Arrival) (piece : List ℕ) (used : ℕ) (new : Place) → IsAllowed bytes past piece used More new → IsMore bytes past piece used new
is_more bytes past piece used new ok = record {
  all = ok.uses;
  whole = ap (λ (t : List ℕ). bytes ++ t) (sym (take_whole piece)) ∙ ap (λ k. bytes ++ take k piece) (sym ok.uses) ∙ ok.frames.reads.whole;
  rest = ok.frames.reads.rest_is;
  left = ok.frames.left;
}

on : (bytes piece ys : List ℕ) (used : ℕ) (part : List ℕ) → bytes ++ take used piece ≡ ys ++ part → part ≡ [] → bytes ++ piece ≡ ys ++ drop used piece
on bytes piece ys used part e none =
    ap (λ (t : List ℕ). bytes ++ t) (sym (take-append-drop used piece)) ∙ sym (append_assoc bytes (take used piece) (drop used piece))
    ∙ ap (λ (t : List ℕ). t ++ drop used piece) (e ∙ ap (λ (t : List ℕ). ys ++ t) none ∙ append-nil ys)

head_at : (bytes : List ℕ) (past : List Arrival) (piece : List ℕ) (used : ℕ) (h : Header) (new : Place) (b : Bool) → nat_lt 0 (payload_length h) ≡ b → used ≤ length piece → new.part ≡ []
    → Stands (bytes ++ take used piece) (cond b (Head h ∷ past) (Tail ∷ Head h ∷ past)) new → IsHead bytes past piece used h new
head_at bytes past piece used h new true is fits none at = record {
  fits = fits;
  whole = on bytes piece (spelled past ++ header_bytes h) used new.part at.reads.whole none ∙ append_assoc (spelled past) (header_bytes h) (drop used piece);
  are = at.reads.frames_are;
  part = none;
  left = at.left;
}
head_at bytes past piece used h new false is fits none at = record {
  fits = fits;
  whole = on bytes piece ((spelled past ++ header_bytes h) ++ []) used new.part at.reads.whole none
      ∙ ap (λ (t : List ℕ). t ++ drop used piece) (append-nil (spelled past ++ header_bytes h)) ∙ append_assoc (spelled past) (header_bytes h) (drop used piece);
  are = at.reads.frames_are.2;
  part = none;
  left = at.left ∙ (let e = ltb-false 0 (payload_length h) is in omega arith);
}

is_head : (bytes : List ℕ) (past : List Arrival) (piece : List ℕ) (used : ℕ) (h : Header) (new : Place) → IsAllowed bytes past piece used (cut.Head h) new → IsHead bytes past piece used h new
is_head bytes past piece used h new ok = head_at bytes past piece used h new (nat_lt 0 (payload_length h)) refl ok.uses.1 ok.exact ok.frames

nothing : (xs : List ℕ) → length xs ≡ 0 → xs ≡ []
nothing [] e = refl
nothing (x ∷ xs) e = absurd (omega arith)

part_at : (bytes : List ℕ) (past : List Arrival) (piece : List ℕ) (old : Place) (used : ℕ) (new : Place) (last : Bool) → Stands bytes past old → 0 < used → used ≤ length piece
    → Stands (bytes ++ take used piece) (cond last (Tail ∷ with_bytes (take used piece) past) (with_bytes (take used piece) past)) new → IsPart bytes past piece used last new
part_at bytes past piece old used new true was some fits at =
    let xs : List ℕ = take used piece in
    let n : length xs ≡ used = length-take-le used piece fits in
    let are = at.reads.frames_are.2 in
    let fit = bytes_fit xs past are in
    let none : bytes_left (with_bytes xs past) ≡ 0 = at.reads.frames_are.1 in
    let after = bytes_after xs past in
    let w = within past old.part was.reads.rest_is (omega arith) in
    let whole : length (bytes ++ xs) ≡ length ((spelled (with_bytes xs past) ++ []) ++ new.part) = ap length at.reads.whole in
    let spelt : length ((spelled (with_bytes xs past) ++ []) ++ new.part) ≡ length (((spelled past ++ xs) ++ []) ++ new.part) = ap (λ (t : List ℕ). length ((t ++ []) ++ new.part)) (bytes_spelled xs past) in
    let before : length bytes ≡ length (spelled past ++ []) = ap length (was.reads.whole ∙ ap (λ (t : List ℕ). spelled past ++ t) w.1) in
    record {
      some = some;
      fits = fits;
      there = omega arith;
      most = omega arith;
      ended = λ _. omega arith;
      going = λ bad. absurd (let e : true ≡ false = bad in cc);
      part = nothing new.part (omega (arith, length-append bytes xs, length-append ((spelled past ++ xs) ++ []) new.part, length-append (spelled past ++ xs) [], length-append (spelled past) xs, length-append (spelled past) []));
      left = let l = at.left in omega arith;
    }
part_at bytes past piece old used new false was some fits at =
    let xs : List ℕ = take used piece in
    let n : length xs ≡ used = length-take-le used piece fits in
    let fit = bytes_fit xs past at.reads.frames_are in
    let after = bytes_after xs past in
    let w = within past old.part was.reads.rest_is (omega arith) in
    let more : 0 < bytes_left (with_bytes xs past) = more_left (with_bytes xs past) new.part at.sound at.reads.rest_is (bytes_within xs past w.0) in
    record {
      some = some;
      fits = fits;
      there = omega arith;
      most = omega arith;
      ended = λ bad. absurd (let e : false ≡ true = bad in cc);
      going = λ _. omega arith;
      part = (within (with_bytes xs past) new.part at.reads.rest_is more).1;
      left = let l = at.left in omega arith;
    }
  where
    more_by : (f : List Arrival) (rest : List ℕ) (b : Bool) → nat_lt 0 (bytes_left f) ≡ b → IsSound f → IsRest f rest → IsWithin f → 0 < bytes_left f
    more_by f rest true is sound r w = ltb-true 0 (bytes_left f) is
    more_by f rest false is sound r w = absurd (not_both f (between f rest sound r (let e = ltb-false 0 (bytes_left f) is in omega arith)) w)

    more_left : (f : List Arrival) (rest : List ℕ) → IsSound f → IsRest f rest → IsWithin f → 0 < bytes_left f
    more_left f rest sound r w = more_by f rest (nat_lt 0 (bytes_left f)) refl sound r w

is_part : (bytes : List ℕ) (past : List Arrival) (piece : List ℕ) (old : Place) (used s f t : ℕ) (last : Bool) (new : Place) → Stands bytes past old → IsAllowed bytes past piece used (Part s f t last) new → IsPart bytes past piece used last new
is_part bytes past piece old used s f t last new was ok = part_at bytes past piece old used new last was ok.uses.0 ok.uses.1 ok.frames

-- ---- two that can't both be

more_head : (bytes : List ℕ) (past : List Arrival) (piece : List ℕ) (used n : ℕ) (h : Header) (new place : Place) → IsMore bytes past piece used new → IsHead bytes past piece n h place → ⊥
more_head bytes past piece used n h new place m k =
    no_more past (Head h) new.part (drop n piece) m.rest k.are (append_cancel_left (spelled past) new.part (header_bytes h ++ drop n piece) (sym m.whole ∙ k.whole))

more_part : (bytes : List ℕ) (past : List Arrival) (piece : List ℕ) (old : Place) (used n : ℕ) (last : Bool) (new place : Place) → Stands bytes past old → IsMore bytes past piece used new → IsPart bytes past piece n last place → ⊥
more_part bytes past piece old used n last new place was m p =
    let none : new.part ≡ [] = (within past new.part m.rest p.there).1 in
    let whole : length (bytes ++ piece) ≡ length (spelled past ++ []) = ap length (m.whole ∙ ap (λ (t : List ℕ). spelled past ++ t) none) in
    let before : length bytes ≡ length (spelled past ++ old.part) = ap length was.reads.whole in
    let a = p.some in
    let b = p.fits in
    omega (arith, length-append bytes piece, length-append (spelled past) old.part, length-append (spelled past) [])

head_part : (bytes : List ℕ) (past : List Arrival) (piece : List ℕ) (used n : ℕ) (h : Header) (last : Bool) (new place : Place) → IsHead bytes past piece used h new → IsPart bytes past piece n last place → ⊥
head_part bytes past piece used n h last new place k p = let none = between_none past k.are.0 in let some = p.there in omega arith

-- ---- one answer

parts : (used n left len : ℕ) (a b : Bool) (s f t u g v : ℕ) → used ≤ len → n ≤ len → s ≡ u → f ≡ 0 → g ≡ 0 → t ≡ used → v ≡ n → (a ≡ false → t ≡ len) → (b ≡ false → v ≡ len)
    → (a ≡ true → used ≡ left) → (b ≡ true → n ≡ left) → (a ≡ false → used < left) → (b ≡ false → n < left) → (used ≡ n) × (Part s f t a ≡ Part u g v b)
parts used n left len true true s f t u g v fu fn su fz gz tu vn la lb ea eb ga gb =
    let x = ea refl in let y = eb refl in let same : used ≡ n = omega arith in
    (same, ap (λ k. Part k f t true) su ∙ ap (λ k. Part u k t true) (fz ∙ sym gz) ∙ ap (λ k. Part u g k true) (tu ∙ same ∙ sym vn))
parts used n left len false false s f t u g v fu fn su fz gz tu vn la lb ea eb ga gb =
    let x = la refl in let y = lb refl in let same : used ≡ n = omega arith in
    (same, ap (λ k. Part k f t false) su ∙ ap (λ k. Part u k t false) (fz ∙ sym gz) ∙ ap (λ k. Part u g k false) (tu ∙ same ∙ sym vn))
parts used n left len true false s f t u g v fu fn su fz gz tu vn la lb ea eb ga gb = absurd (let x = ea refl in let y = gb refl in let z = lb refl in omega arith)
parts used n left len false true s f t u g v fu fn su fz gz tu vn la lb ea eb ga gb = absurd (let x = eb refl in let y = ga refl in let z = la refl in omega arith)

by_cuts : (bytes : List ℕ) (past : List Arrival) (piece : List ℕ) (old : Place) (used n : ℕ) (c d : Cut) (new place : Place)
    → Stands bytes past old → IsAllowed bytes past piece used c new → IsAllowed bytes past piece n d place
    → (used ≡ n) × (c ≡ d) × (new.part ≡ place.part) × (new.left ≡ place.left)
by_cuts bytes past piece old used n More More new place was a b =
    let x = is_more bytes past piece used new a in
    let y = is_more bytes past piece n place b in
    (x.all ∙ sym y.all, refl, append_cancel_left (spelled past) new.part place.part (sym x.whole ∙ y.whole), x.left ∙ sym y.left)
by_cuts bytes past piece old used n More (cut.Head h) new place was a b = absurd (more_head bytes past piece used n h new place (is_more bytes past piece used new a) (is_head bytes past piece n h place b))
by_cuts bytes past piece old used n (cut.Head h) More new place was a b = absurd (more_head bytes past piece n used h place new (is_more bytes past piece n place b) (is_head bytes past piece used h new a))
by_cuts bytes past piece old used n More (Part s f t last) new place was a b =
    absurd (more_part bytes past piece old used n last new place was (is_more bytes past piece used new a) (is_part bytes past piece old n s f t last place was b))
by_cuts bytes past piece old used n (Part s f t last) More new place was a b =
    absurd (more_part bytes past piece old n used last place new was (is_more bytes past piece n place b) (is_part bytes past piece old used s f t last new was a))
by_cuts bytes past piece old used n (cut.Head h) (Part s f t last) new place was a b =
    absurd (head_part bytes past piece used n h last new place (is_head bytes past piece used h new a) (is_part bytes past piece old n s f t last place was b))
by_cuts bytes past piece old used n (Part s f t last) (cut.Head h) new place was a b =
    absurd (head_part bytes past piece n used h last place new (is_head bytes past piece n h place b) (is_part bytes past piece old used s f t last new was a))
by_cuts bytes past piece old used n (cut.Head h) (cut.Head g) new place was a b =
    let x = is_head bytes past piece used h new a in
    let y = is_head bytes past piece n g place b in
    let both = one_header h g (drop used piece) (drop n piece) x.are.1 y.are.1 (append_cancel_left (spelled past) (header_bytes h ++ drop used piece) (header_bytes g ++ drop n piece) (sym x.whole ∙ y.whole)) in
    let long : length (drop used piece) ≡ length (drop n piece) = ap length both.1 in
    let i = x.fits in let j = y.fits in
    (omega (arith, length-drop used piece, length-drop n piece), ap cut.Head both.0, x.part ∙ sym y.part, x.left ∙ ap payload_length both.0 ∙ sym y.left)
by_cuts bytes past piece old used n (Part s f t last) (Part u g v other) new place was a b =
    let x = is_part bytes past piece old used s f t last new was a in
    let y = is_part bytes past piece old n u g v other place was b in
    let same = parts used n (bytes_left past) (length piece) last other s f t u g v x.fits y.fits (a.stream ∙ sym b.stream) a.uses.2 b.uses.2 a.uses.3 b.uses.3 a.longest b.longest x.ended y.ended x.going y.going in
    (same.0, same.1, x.part ∙ sym y.part, x.left ∙ ap (λ k. bytes_left past - k) same.0 ∙ sym y.left)

pub one_answer : OneAnswer
one_answer bytes past piece old used n c d new place was a b = by_cuts bytes past piece old used n c d new place was a b

-- ---- a fault

stop_whole : (bytes : List ℕ) (past : List Arrival) (piece : List ℕ) (fault : FrameFault) → (stop : StopsIn bytes past piece fault) → bytes ++ piece ≡ spelled past ++ (stop.garbled ++ drop stop.used piece)
stop_whole bytes past piece fault stop =
    on bytes piece (spelled past ++ stop.garbled) stop.used [] stop.reads.whole refl ∙ append_assoc (spelled past) stop.garbled (drop stop.used piece)

pub answer_or_fault : AnswerOrFault
answer_or_fault bytes past piece old used More new fault was ok stop =
    let m = is_more bytes past piece used new ok in
    no_more past (Garbled stop.garbled) new.part (drop stop.used piece) m.rest stop.reads.frames_are
    (append_cancel_left (spelled past) new.part (stop.garbled ++ drop stop.used piece) (sym m.whole ∙ stop_whole bytes past piece fault stop))
answer_or_fault bytes past piece old used (cut.Head h) new fault was ok stop =
    let k = is_head bytes past piece used h new ok in
    no_header h stop.garbled (drop used piece) (drop stop.used piece) fault stop.why
    (append_cancel_left (spelled past) (header_bytes h ++ drop used piece) (stop.garbled ++ drop stop.used piece) (sym k.whole ∙ stop_whole bytes past piece fault stop))
answer_or_fault bytes past piece old used (Part s f t last) new fault was ok stop =
    let p = is_part bytes past piece old used s f t last new was ok in
    let none = between_none past stop.reads.frames_are.0 in let some = p.there in omega arith

one_why : (g : List ℕ) (f o : FrameFault) → HasFault g f → HasFault g o → f ≡ o
one_why g BadVersion BadVersion a b = refl
one_why g BadType BadType a b = refl
one_why g BadVersion BadType a b = absurd (a.1 b.1)
one_why g BadType BadVersion a b = absurd (b.1 a.1)

pub one_fault : OneFault
one_fault bytes past piece fault other a b =
    let e = append_cancel_left (spelled past) (a.garbled ++ drop a.used piece) (b.garbled ++ drop b.used piece) (sym (stop_whole bytes past piece fault a) ∙ stop_whole bytes past piece other b) in
    let same : a.garbled ≡ b.garbled = same_front a.garbled b.garbled (drop a.used piece) (drop b.used piece) (twelve a.garbled fault a.why ∙ sym (twelve b.garbled other b.why)) e in
    one_why a.garbled fault other a.why (subst (λ (t : List ℕ). HasFault t other) (sym same) b.why)
