-- Whether bytes end within a frame.
use Rattle.std.proofs.Common.{◌≡◌, ◌≢◌, ℕ, ◌<◌, ◌↔◌, Bool, true, false, ◌||◌, nat_lt, IsTrue, List, [], ◌∷◌, length, Option, Some, None, refl, sym, ap, ◌∙◌, subst, arith}
use Rattle.std.proofs.lemmas.Bool.{lt-ltb}
use Rattle.yamux_frames.specs.declared.header.FrameFault.{FrameFault}
use Rattle.yamux_frames.specs.Place.{Place, is_within, is_within_at}
use Rattle.yamux_frames.specs.Spelling.{payload_length}
use Rattle.yamux_frames.specs.Frames.{Arrival, bytes_left, IsRest, IsSound, Reads, Stands, IsMidFrame, EndsWithin}
use Rattle.yamux_frames.specs.Frames.Arrival.{Head, Byte, Tail, Garbled}
use Rattle.yamux_frames.proofs.Readings.{one_reading}

some_part : (b : Bool) (rest : List ℕ) → b ≡ false → IsTrue (b || nat_lt 0 (length rest)) ↔ (rest ≢ [])
some_part true rest e = absurd cc
some_part false [] e = ((λ bad. absurd cc), (λ some. absurd (some refl)))
some_part false (x ∷ rest) e = ((λ _ none. absurd cc), (λ _. lt-ltb 0 (length (x ∷ rest)) (omega arith)))

some_left : (n : ℕ) (rest : List ℕ) → 0 < n → IsTrue (nat_lt 0 n || nat_lt 0 (length rest)) ↔ Unit {0}
some_left n rest some = ((λ _. tt), (λ _. ap (λ b. b || nat_lt 0 (length rest)) (lt-ltb 0 n some)))

mid_frame : (frames : List Arrival) (rest : List ℕ) → IsSound frames → IsRest frames rest → IsTrue (nat_lt 0 (bytes_left frames) || nat_lt 0 (length rest)) ↔ IsMidFrame frames rest
mid_frame [] rest sound r = some_part (nat_lt 0 0) rest refl
mid_frame (Tail ∷ past) rest sound r = some_part (nat_lt 0 0) rest refl
mid_frame (Head h ∷ past) rest sound r = some_left (payload_length h) rest r.0
mid_frame (Byte b ∷ past) rest sound r = some_left (bytes_left (Byte b ∷ past)) rest r.0
mid_frame (Garbled bytes ∷ past) rest sound r = absurd sound

within_is : (fault : Option FrameFault) (place : Place) → fault ≡ None → is_within_at fault place ≡ (nat_lt 0 place.left || nat_lt 0 (length place.part))
within_is None place e = refl
within_is (Some fault) place e = absurd cc

other_reading : (bytes rest : List ℕ) (frames : List Arrival) → Reads bytes frames rest → (end : EndsWithin bytes) → IsMidFrame frames rest
other_reading bytes rest frames reads end =
    let same = one_reading bytes end.frames frames end.rest rest end.reads reads in
    subst (λ (t : List ℕ). IsMidFrame frames t) same.1 (subst (λ (f : List Arrival). IsMidFrame f end.rest) same.0 end.mid_frame)

pub ends_within : (bytes : List ℕ) (frames : List Arrival) (place : Place) → Stands bytes frames place → IsTrue (is_within place) ↔ EndsWithin bytes
ends_within bytes frames place at =
    let known = mid_frame frames place.part at.sound at.reads.rest_is in
    let same : is_within place ≡ (nat_lt 0 (bytes_left frames) || nat_lt 0 (length place.part)) =
    within_is place.fault place at.going ∙ ap (λ n. nat_lt 0 n || nat_lt 0 (length place.part)) at.left in (
      (λ within. record { frames = frames; rest = place.part; reads = at.reads; mid_frame = known.0 (sym same ∙ within) }),
      (λ end. same ∙ known.1 (other_reading bytes place.part frames at.reads end)),
    )
