-- Bytes are read in one way, and all bytes are read.
use Rattle.std.proofs.Common.{◌≡◌, ℕ, zero, suc, ◌-◌, ◌<◌, ◌≤◌, ◌↔◌, ◌⊎◌, inl, inr, Bool, true, false, nat_lt, ◌==◌, IsTrue, List, [], ◌∷◌, ◌++◌, length, get_or, None, refl, sym, ap, ◌∙◌, subst, append_assoc, arith}
use Rattle.std.specs.Int.{w16, w32, from_be_bytes}
use Rattle.std.specs.List.{AllByRecursion}
use Rattle.std.proofs.lemmas.List.{append-nil, length-append, append_cancel_left}
use Rattle.std.proofs.lemmas.Bool.{eqb-true, eqb-false, ltb-true, ltb-false}
use Rattle.yamux_frames.specs.declared.header.Header.{Header}
use Rattle.yamux_frames.specs.declared.header.FrameFault.{FrameFault}
use Rattle.yamux_frames.specs.declared.header.FrameFault.TheVariants.{BadVersion, BadType}
use Rattle.yamux_frames.specs.declared.cutter.Cut.{Cut}
use Rattle.yamux_frames.specs.declared.cutter.Cut.TheVariants.{More, Part}
use Rattle.yamux_frames.specs.declared.cutter.Cut.TheVariants as cut
use Rattle.yamux_frames.specs.Spelling.{header_bytes, type_number, payload_length, IsHeader, HasFault}
use Rattle.yamux_frames.specs.Place.{Place}
use Rattle.yamux_frames.specs.Frames.{Arrival, spelling, spelled, bytes_left, last_stream, IsBetween, IsWithin, AreFrames, IsRest, IsSound, Reads, Stands, with_cut, OneReading, SomeReading}
use Rattle.yamux_frames.specs.Frames.Arrival.{Head, Byte, Tail, Garbled}
use Rattle.yamux_frames.proofs.Bytes as bytes
use Rattle.yamux_frames.proofs.Frames.{within, between, stands}
use Rattle.yamux_frames.proofs.Front.{oldest_of, past_frames, older_frames, spelled_both, same_next, twelve, kind_of}

-- ---- in one way

-- of two readings of the same bytes one goes on where the other stops
pub both : (frames others : List Arrival) (rest more : List ℕ) → AreFrames frames → AreFrames others → spelled frames ++ rest ≡ spelled others ++ more
    → ((way : List Arrival) × (others ≡ way ++ frames)) ⊎ ((way : List Arrival) × (frames ≡ way ++ others))
both [] others rest more are those e = inl (others, sym (append-nil others))
both (x ∷ past) others rest more are those e =
    elim (both past others (spelling x ++ rest) more (past_frames x past are) those (sym (append_assoc (spelled past) (spelling x) rest) ∙ e)) [
      | inr back ↦ inr (x ∷ back.0, ap (λ (t : List Arrival). x ∷ t) back.1)
      | inl on ↦ elim (oldest_of on.0) [
        | inl none ↦ inr (x ∷ [], ap (λ (t : List Arrival). x ∷ t) (sym (on.1 ∙ ap (λ (t : List Arrival). t ++ past) none)))
        | inr some ↦
            let w : List Arrival = some.newer in
            let y : Arrival = some.oldest in
            let split : others ≡ w ++ (y ∷ past) = on.1 ∙ ap (λ (t : List Arrival). t ++ past) some.whole ∙ append_assoc w (y ∷ []) past in
            let same : x ≡ y = same_next x y past rest (spelled w ++ more) are (older_frames w (y ∷ past) (subst AreFrames split those))
            (append_cancel_left (spelled past) (spelling x ++ rest) (spelling y ++ (spelled w ++ more))
            (sym (append_assoc (spelled past) (spelling x) rest) ∙ e ∙ ap (λ (t : List Arrival). spelled t ++ more) split ∙ ap (λ (t : List ℕ). t ++ more) (spelled_both w (y ∷ past))
            ∙ append_assoc (spelled past ++ spelling y) (spelled w) more ∙ append_assoc (spelled past) (spelling y) (spelled w ++ more))) in
            inl (w, split ∙ ap (λ z. w ++ (z ∷ past)) (sym same))
      ]
    ]

short : (past : List Arrival) (rest : List ℕ) → IsBetween past → IsRest past rest → length rest < 12
short [] rest b r = r
short (Tail ∷ past) rest b r = r
short (Head h ∷ past) rest b r = absurd b
short (Byte x ∷ past) rest b r = absurd b
short (Garbled g ∷ past) rest b r = absurd b

not_done : (past : List Arrival) (rest : List ℕ) → IsWithin past → IsRest past rest → 0 < bytes_left past
not_done [] rest w r = absurd w
not_done (Tail ∷ past) rest w r = absurd w
not_done (Head h ∷ past) rest w r = r.0
not_done (Byte x ∷ past) rest w r = r.0
not_done (Garbled g ∷ past) rest w r = absurd w

-- what is left doesn't begin with another arrival
pub no_more : (past : List Arrival) (x : Arrival) (rest t : List ℕ) → IsRest past rest → AreFrames (x ∷ past) → rest ≡ spelling x ++ t → ⊥
no_more past (Head h) rest t r are e =
    let few = short past rest are.0 r in
    let many : length rest ≡ length (header_bytes h ++ t) = ap length e in
    omega arith
no_more past (Byte b) rest t r are e = let none : rest ≡ [] = (within past rest r are.0).1 in cc
no_more past Tail rest t r are e = let some = not_done past rest are.0 r in let none = are.1 in omega arith
no_more past (Garbled g) rest t r are e =
    let few = short past rest are.0 r in
    let all = twelve g are.1.0 are.1.1 in
    let many : length rest ≡ length (g ++ t) = ap length e in
    omega (arith, length-append g t)

pub ends : (frames : List Arrival) (rest more : List ℕ) (way : List Arrival) → IsRest frames rest → AreFrames (way ++ frames) → spelled frames ++ rest ≡ spelled (way ++ frames) ++ more → way ≡ []
ends frames rest more way r are e =
    elim (oldest_of way) [
      | inl none ↦ none
      | inr some ↦
          let w : List Arrival = some.newer in
          let y : Arrival = some.oldest in
          let split : way ++ frames ≡ w ++ (y ∷ frames) = ap (λ (t : List Arrival). t ++ frames) some.whole ∙ append_assoc w (y ∷ []) frames in
          absurd (no_more frames y rest (spelled w ++ more) r (older_frames w (y ∷ frames) (subst AreFrames split are))
          (append_cancel_left (spelled frames) rest (spelling y ++ (spelled w ++ more))
          (e ∙ ap (λ (t : List Arrival). spelled t ++ more) split ∙ ap (λ (t : List ℕ). t ++ more) (spelled_both w (y ∷ frames))
          ∙ append_assoc (spelled frames ++ spelling y) (spelled w) more ∙ append_assoc (spelled frames) (spelling y) (spelled w ++ more))))
    ]

same_frames : (frames others : List Arrival) (rest more : List ℕ) → AreFrames frames → AreFrames others → IsRest frames rest → IsRest others more → spelled frames ++ rest ≡ spelled others ++ more → frames ≡ others
same_frames frames others rest more are those r s e =
    elim (both frames others rest more are those e) [
      | inl on ↦
          let none : on.0 ≡ [] = ends frames rest more on.0 r (subst AreFrames on.1 those) (e ∙ ap (λ (t : List Arrival). spelled t ++ more) on.1) in
          sym (on.1 ∙ ap (λ (t : List Arrival). t ++ frames) none)
      | inr on ↦
          let none : on.0 ≡ [] = ends others more rest on.0 s (subst AreFrames on.1 are) (sym e ∙ ap (λ (t : List Arrival). spelled t ++ rest) on.1) in
          on.1 ∙ ap (λ (t : List Arrival). t ++ others) none
    ]

pub one_reading : OneReading
one_reading bytes frames others rest more a b =
    let e : spelled frames ++ rest ≡ spelled others ++ more = sym a.whole ∙ b.whole in
    let same : frames ≡ others = same_frames frames others rest more a.frames_are b.frames_are a.rest_is b.rest_is e in
    (same, append_cancel_left (spelled others) rest more (ap (λ (t : List Arrival). spelled t ++ rest) (sym same) ∙ e))

-- ---- all bytes

byte_of : (bs : List ℕ) → AllByRecursion (λ b. b < 256) bs → (k : ℕ) → get_or bs k 0 < 256
byte_of [] all k = omega arith
byte_of (b ∷ bs) all zero = all.0
byte_of (b ∷ bs) all (suc k) = byte_of bs all.1 k

all_back : (xs ys : List ℕ) → AllByRecursion (λ b. b < 256) (xs ++ ys) → AllByRecursion (λ b. b < 256) ys
all_back [] ys all = all
all_back (x ∷ xs) ys all = all_back xs ys all.1

pub all_front : (xs ys : List ℕ) → AllByRecursion (λ b. b < 256) (xs ++ ys) → AllByRecursion (λ b. b < 256) xs
all_front [] ys all = tt
all_front (x ∷ xs) ys all = (all.0, all_front xs ys all.1)

kind_number : (n : ℕ) → n ≤ 3 → n ≡ type_number (kind_of n)
kind_number zero h = refl
kind_number (suc zero) h = refl
kind_number (suc (suc zero)) h = refl
kind_number (suc (suc (suc zero))) h = refl
kind_number (suc (suc (suc (suc n)))) h = absurd (omega arith)

two_small : (a b : ℕ) → a < 256 → b < 256 → from_be_bytes w16 (a ∷ b ∷ []) < 65536
two_small a b p q = omega arith

four_small : (a b c d : ℕ) → a < 256 → b < 256 → c < 256 → d < 256 → from_be_bytes w32 (a ∷ b ∷ c ∷ d ∷ []) < 4294967296
four_small a b c d p q r s = omega arith

-- twelve bytes are a header, or have a fault
is_header : (bs : List ℕ) → length bs ≡ 12 → ((k : ℕ) → get_or bs k 0 < 256) → get_or bs 0 0 ≡ 0 → get_or bs 1 0 ≤ 3 → (h : Header) × (bs ≡ header_bytes h) × IsHeader h
is_header bs n fits version kind =
    let flags : ℕ = from_be_bytes w16 (get_or bs 2 0 ∷ get_or bs 3 0 ∷ []) in
    let stream : ℕ = from_be_bytes w32 (get_or bs 4 0 ∷ get_or bs 5 0 ∷ get_or bs 6 0 ∷ get_or bs 7 0 ∷ []) in
    let len : ℕ = from_be_bytes w32 (get_or bs 8 0 ∷ get_or bs 9 0 ∷ get_or bs 10 0 ∷ get_or bs 11 0 ∷ []) in (
      record { kind = kind_of (get_or bs 1 0); flags = flags; stream = stream; length = len },
      bytes.spelled bs n fits (type_number (kind_of (get_or bs 1 0))) flags stream len version (kind_number (get_or bs 1 0) kind) refl refl refl,
      record {
        flags = two_small (get_or bs 2 0) (get_or bs 3 0) (fits 2) (fits 3);
        stream = four_small (get_or bs 4 0) (get_or bs 5 0) (get_or bs 6 0) (get_or bs 7 0) (fits 4) (fits 5) (fits 6) (fits 7);
        length = four_small (get_or bs 8 0) (get_or bs 9 0) (get_or bs 10 0) (get_or bs 11 0) (fits 8) (fits 9) (fits 10) (fits 11);
      },
    )

by_kind : (bs : List ℕ) (b : Bool) → nat_lt 3 (get_or bs 1 0) ≡ b → length bs ≡ 12 → ((k : ℕ) → get_or bs k 0 < 256) → get_or bs 0 0 ≡ 0
    → ((h : Header) × (bs ≡ header_bytes h) × IsHeader h) ⊎ ((fault : FrameFault) × HasFault bs fault)
by_kind bs true is n fits version = inr (BadType, (n, version, ltb-true 3 (get_or bs 1 0) is))
by_kind bs false is n fits version = inl (is_header bs n fits version (ltb-false 3 (get_or bs 1 0) is))

by_version : (bs : List ℕ) (b : Bool) → (get_or bs 0 0 == 0) ≡ b → length bs ≡ 12 → ((k : ℕ) → get_or bs k 0 < 256)
    → ((h : Header) × (bs ≡ header_bytes h) × IsHeader h) ⊎ ((fault : FrameFault) × HasFault bs fault)
by_version bs true is n fits = by_kind bs (nat_lt 3 (get_or bs 1 0)) refl n fits (eqb-true (get_or bs 0 0) 0 is)
by_version bs false is n fits = inr (BadVersion, (n, eqb-false (get_or bs 0 0) 0 is))

abbrev HasReading : List ℕ → Type 0
HasReading xs = (frames : List Arrival) × (rest : List ℕ) × Reads xs frames rest

abbrev place_of : List Arrival → List ℕ → Place
place_of frames rest = record { part = rest; stream = last_stream frames; left = bytes_left frames; fault = None }

led : (xs : List ℕ) (frames : List Arrival) (place : Place) → Stands xs frames place → HasReading xs
led xs frames place at = (frames, place.part, at.reads)

true_iff : (b : Bool) (m n : ℕ) → (m == n) ≡ b → (IsTrue b ↔ (m ≡ n))
true_iff true m n is = (λ _. eqb-true m n is, λ _. refl)
true_iff false m n is = (λ bad. absurd (let e : false ≡ true = bad in cc), λ e. absurd (eqb-false m n is e))

-- one byte more, where a payload isn't finished
on_byte : (xs : List ℕ) (b : ℕ) (frames : List Arrival) (rest : List ℕ) → Reads xs frames rest → IsSound frames → 0 < bytes_left frames → HasReading (xs ++ b ∷ [])
on_byte xs b frames rest reads good some =
    let answer : Cut = Part (last_stream frames) 0 1 (1 == bytes_left frames) in
    let new : Place = record { part = rest; stream = last_stream frames; left = bytes_left frames - 1; fault = None } in
    led (xs ++ b ∷ []) (with_cut (b ∷ []) answer frames) new
    (stands xs (b ∷ []) frames (place_of frames rest) new 1 answer
    (record { going = refl; reads = reads; sound = good; left = refl; stream = λ _. refl })
    (record { within = omega arith; some = omega arith; expected = omega arith; most = λ few. refl; stream_is = refl; from_is = refl; to_is = refl; new_is = refl }, true_iff (1 == bytes_left frames) 1 (bytes_left frames) refl))

-- one byte more of a header
on_more : (xs : List ℕ) (b : ℕ) (frames : List Arrival) (rest : List ℕ) → Reads xs frames rest → IsSound frames → bytes_left frames ≡ 0 → length (rest ++ b ∷ []) < 12 → HasReading (xs ++ b ∷ [])
on_more xs b frames rest reads good none few =
    let new : Place = record { part = rest ++ b ∷ []; stream = last_stream frames; left = bytes_left frames; fault = None } in
    led (xs ++ b ∷ []) frames new
    (stands xs (b ∷ []) frames (place_of frames rest) new 1 More
    (record { going = refl; reads = reads; sound = good; left = refl; stream = λ _. refl })
    (record { used_is = refl; new_is = refl; no_payload = λ some. absurd (omega arith); unfinished = few }))

-- the last byte of a header
on_head : (xs : List ℕ) (b : ℕ) (frames : List Arrival) (rest : List ℕ) → Reads xs frames rest → IsSound frames → bytes_left frames ≡ 0 → (h : Header) → rest ++ b ∷ [] ≡ header_bytes h → IsHeader h → HasReading (xs ++ b ∷ [])
on_head xs b frames rest reads good none h head fits =
    let new : Place = record { part = []; stream = h.stream; left = payload_length h; fault = None } in
    led (xs ++ b ∷ []) (with_cut (b ∷ []) (cut.Head h) frames) new
    (stands xs (b ∷ []) frames (place_of frames rest) new 1 (cut.Head h)
    (record { going = refl; reads = reads; sound = good; left = refl; stream = λ _. refl })
    (record { some = omega arith; within = omega arith; between = none; bytes = head; fits = fits; new_is = refl }))

on_fault : (xs : List ℕ) (b : ℕ) (frames : List Arrival) (rest : List ℕ) → Reads xs frames rest → IsBetween frames → (fault : FrameFault) → HasFault (rest ++ b ∷ []) fault → HasReading (xs ++ b ∷ [])
on_fault xs b frames rest reads ready fault bad = (
  Garbled (rest ++ b ∷ []) ∷ frames,
  [],
  record {
    whole = ap (λ (t : List ℕ). t ++ b ∷ []) reads.whole ∙ append_assoc (spelled frames) rest (b ∷ []) ∙ sym (append-nil (spelled frames ++ (rest ++ b ∷ [])));
    frames_are = (ready, (fault, bad), reads.frames_are);
    rest_is = tt;
  },
)

on_whole : (xs : List ℕ) (b : ℕ) (frames : List Arrival) (rest : List ℕ) → Reads xs frames rest → IsSound frames → bytes_left frames ≡ 0 → length (rest ++ b ∷ []) ≡ 12 → AllByRecursion (λ k. k < 256) (rest ++ b ∷ []) → HasReading (xs ++ b ∷ [])
on_whole xs b frames rest reads good none full all =
    elim (by_version (rest ++ b ∷ []) (get_or (rest ++ b ∷ []) 0 0 == 0) refl full (byte_of (rest ++ b ∷ []) all)) [
      | inl head ↦ on_head xs b frames rest reads good none head.0 head.1 head.2
      | inr bad ↦ on_fault xs b frames rest reads (between frames rest good reads.rest_is none) bad.0 bad.1
    ]

on_none : (xs : List ℕ) (b : ℕ) (frames : List Arrival) (rest : List ℕ) (few : Bool) → nat_lt (length (rest ++ b ∷ [])) 12 ≡ few → Reads xs frames rest → IsSound frames → bytes_left frames ≡ 0 → AllByRecursion (λ k. k < 256) (rest ++ b ∷ []) → HasReading (xs ++ b ∷ [])
on_none xs b frames rest true is reads good none all = on_more xs b frames rest reads good none (ltb-true (length (rest ++ b ∷ [])) 12 is)
on_none xs b frames rest false is reads good none all =
    let begun = short frames rest (between frames rest good reads.rest_is none) reads.rest_is in
    let full = ltb-false (length (rest ++ b ∷ [])) 12 is in
    on_whole xs b frames rest reads good none (omega (arith, length-append rest (b ∷ []))) all

on_good : (xs : List ℕ) (b : ℕ) (frames : List Arrival) (rest : List ℕ) (some : Bool) → nat_lt 0 (bytes_left frames) ≡ some → Reads xs frames rest → IsSound frames → AllByRecursion (λ k. k < 256) (rest ++ b ∷ []) → HasReading (xs ++ b ∷ [])
on_good xs b frames rest true is reads good all = on_byte xs b frames rest reads good (ltb-true 0 (bytes_left frames) is)
on_good xs b frames rest false is reads good all = on_none xs b frames rest (nat_lt (length (rest ++ b ∷ [])) 12) refl reads good (let none = ltb-false 0 (bytes_left frames) is in omega arith) all

on_garbled : (xs : List ℕ) (b : ℕ) (g : List ℕ) (past : List Arrival) (rest : List ℕ) → Reads xs (Garbled g ∷ past) rest → HasReading (xs ++ b ∷ [])
on_garbled xs b g past rest reads = (
  Garbled g ∷ past,
  rest ++ b ∷ [],
  record {
    whole = ap (λ (t : List ℕ). t ++ b ∷ []) reads.whole ∙ append_assoc (spelled past ++ g) rest (b ∷ []);
    frames_are = reads.frames_are;
    rest_is = tt;
  },
)

good_or : (frames : List Arrival) → IsSound frames ⊎ ((g : List ℕ) × (past : List Arrival) × (frames ≡ Garbled g ∷ past))
good_or [] = inl tt
good_or (Head h ∷ past) = inl tt
good_or (Byte b ∷ past) = inl tt
good_or (Tail ∷ past) = inl tt
good_or (Garbled g ∷ past) = inr (g, past, refl)

one_more : (xs : List ℕ) (b : ℕ) → AllByRecursion (λ k. k < 256) (xs ++ b ∷ []) → HasReading xs → HasReading (xs ++ b ∷ [])
one_more xs b all old =
    let frames : List Arrival = old.0 in
    let rest : List ℕ = old.1 in
    let reads : Reads xs frames rest = old.2 in
    elim (good_or frames) [
      | inl good ↦ on_good xs b frames rest (nat_lt 0 (bytes_left frames)) refl reads good
          (all_back (spelled frames) (rest ++ b ∷ []) (subst (AllByRecursion (λ k. k < 256)) (ap (λ (t : List ℕ). t ++ b ∷ []) reads.whole ∙ append_assoc (spelled frames) rest (b ∷ [])) all))
      | inr bad ↦ on_garbled xs b bad.0 bad.1 rest (subst (λ (f : List Arrival). Reads xs f rest) bad.2 reads)
    ]

all_more : (more xs : List ℕ) → AllByRecursion (λ k. k < 256) (xs ++ more) → HasReading xs → HasReading (xs ++ more)
all_more [] xs all old = subst HasReading (sym (append-nil xs)) old
all_more (b ∷ more) xs all old =
    let again : (xs ++ b ∷ []) ++ more ≡ xs ++ b ∷ more = append_assoc xs (b ∷ []) more in
    let all_bytes : AllByRecursion (λ k. k < 256) ((xs ++ b ∷ []) ++ more) = subst (AllByRecursion (λ k. k < 256)) (sym again) all in
    subst HasReading again (all_more more (xs ++ b ∷ []) all_bytes (one_more xs b (all_front (xs ++ b ∷ []) more all_bytes) old))

pub some_reading : SomeReading
some_reading xs all = all_more xs [] all ([], [], record { whole = refl; frames_are = tt; rest_is = omega arith })
