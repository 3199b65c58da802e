-- Where something grows there is an event to tell, or something to send.
use Rattle.std.proofs.Common.{◌≡◌, ℕ, ◌+◌, ◌-◌, ◌<◌, ◌≤◌, ◌⊎◌, inl, inr, Bool, true, false, cond, nat_lt, List, [], ◌∷◌, ◌++◌, length, map, take, drop, Option, Some, refl, sym, ap, ◌∙◌, subst, append_assoc, Result, Ok, Err, OnErr, arith}
use Rattle.std.proofs.lemmas.Bool.{le-ltb}
use Rattle.std.proofs.lemmas.List.{length-append, length-map, map-append, length-drop}
use Rattle.yamux_frames.specs.declared.header.Header.{Header}
use Rattle.yamux_frames.specs.declared.header.FrameFault.{FrameFault}
use Rattle.yamux_frames.specs.Place.{Place}
use Rattle.yamux_frames.specs.Spelling.{payload_length}
use Rattle.yamux_frames.specs.Frames as wire
use Rattle.yamux_frames.specs.Frames.{Arrival, Reads, StopsIn, Uses, with_bytes}
use Rattle.yamux_frames.specs.declared.cutter.Cut.{Cut}
use Rattle.yamux_frames.specs.declared.cutter.Cut.TheVariants.{More, Part}
use Rattle.yamux_frames.specs.declared.cutter.Cut.TheVariants as cut
use Rattle.yamux_frames.specs.Frames.Arrival.{Head, Tail, Garbled}
use Rattle.yamux_session.specs.declared.event.Role.{Role}
use Rattle.yamux_session.specs.declared.event.Fault.{Fault}
use Rattle.yamux_session.specs.declared.event.Fault.TheVariants.{BadFrame}
use Rattle.yamux_session.specs.declared.event.Event.{Event}
use Rattle.yamux_session.specs.History.{Item, arrivals, came_bytes}
use Rattle.yamux_session.specs.History.Item.{Came}
use Rattle.yamux_session.specs.Openings.{reading}
use Rattle.yamux_session.specs.Faults.{fault_at}
use Rattle.yamux_session.specs.Events.{Told, events, events_at, events_unless, item_events, taker, TellsMore}
use Rattle.yamux_session.specs.Output.{output, output_at, SendsMore}
use Rattle.yamux_session.specs.Table.{Table}
use Rattle.yamux_session.specs.Arrives.{Arrives, began}
use Rattle.yamux_session.specs.State.{State, Led, Brings}
use Rattle.yamux_session.proofs.Pieces.{take_on}
use Rattle.yamux_session.proofs.Stepping.{came_are, arrivals_of_bytes, rest_of}
use Rattle.yamux_session.proofs.Telling.{bytes_told, bytes_events}

-- ---- an item more

tells_by : (role : Role) (past : List Item) (x : Item) (told : List Told) → events_at role past x ≡ told → 0 < length told → TellsMore role past (x ∷ past)
tells_by role past x told same some =
    let all : length (events role past ++ events_at role past x) ≡ length (events role past ++ told) = ap (λ (xs : List Told). length (events role past ++ xs)) same in
    omega (arith, length-append (events role past) told)

-- no item takes events away
tells_still : (role : Role) (past mid : List Item) (x : Item) → TellsMore role past mid → TellsMore role past (x ∷ mid)
tells_still role past mid x more = omega (arith, length-append (events role mid) (events_at role mid x))

events_still : (role : Role) (came : List Arrival) (past : List Item) → length (events role past) ≤ length (events role (map Came came ++ past))
events_still role [] past = omega arith
events_still role (x ∷ came) past =
    let before = events_still role came past in
    let mid : List Item = map Came came ++ past in
    omega (arith, length-append (events role mid) (events_at role mid (Came x)))

output_still : (role : Role) (came : List Arrival) (past : List Item) → length (output role past) ≤ length (output role (map Came came ++ past))
output_still role [] past = omega arith
output_still role (x ∷ came) past =
    let before = output_still role came past in
    let mid : List Item = map Came came ++ past in
    omega (arith, length-append (output role mid) (output_at role mid (Came x)))

-- ---- a head

faulty_tells : (role : Role) (past : List Item) (x : Item) (fault : Fault) → fault_at role past x ≡ Some fault → TellsMore role past (x ∷ past)
faulty_tells role past x fault faulty =
    tells_by role past x (Told.Fault fault ∷ []) (ap (λ f. events_unless f (item_events role past x)) faulty) (omega arith)

began_tells : (role : Role) (past : List Item) (h : Header) (b : Bool) → TellsMore role past (Came (Head h) ∷ past)
    → TellsMore role past (cond b (Came (Head h) ∷ past) (Came Tail ∷ Came (Head h) ∷ past))
began_tells role past h true more = more
began_tells role past h false more = tells_still role past (Came (Head h) ∷ past) (Came Tail) more

-- the tail of a frame without payload tells something
pub bare_tells : (role : Role) (past : List Item) (h : Header) (n : ℕ) → n ≡ payload_length h → n ≤ 0
    → TellsMore role (Came (Head h) ∷ past) (Came Tail ∷ Came (Head h) ∷ past) → TellsMore role past (began h past)
bare_tells role past h n is none more =
    let bare : nat_lt 0 (payload_length h) ≡ false = le-ltb 0 (payload_length h) (omega arith) in
    subst (λ b. TellsMore role past (cond b (Came (Head h) ∷ past) (Came Tail ∷ Came (Head h) ∷ past))) (sym bare)
    (omega (arith, length-append (events role past) (events_at role past (Came (Head h)))))

-- ---- a payload and a tail

pub payload_tells : (role : Role) (past : List Item) (bytes : List ℕ) (n : ℕ) → taker role past (reading role past) ≡ Some n → 0 < length bytes → TellsMore role past (came_bytes bytes past)
payload_tells role past bytes n takes some =
    let all : length (events role (came_bytes bytes past)) ≡ length (events role past ++ bytes_told (Some n) bytes) =
    ap length (bytes_events role bytes past) ∙ ap (λ (t : Option ℕ). length (events role past ++ bytes_told t bytes)) takes in
    omega (arith, length-append (events role past) (bytes_told (Some n) bytes), length-map bytes (Told.Payload n))

-- ---- the answers of the cutter

pub on_err : {A B X : Type 0} (r : Result A B) → X → OnErr r X
on_err (Ok a) x = tt
on_err (Err b) x = x

-- how much of a piece a head or a part uses
pub uses_some : (xs piece : List ℕ) (at used : ℕ) (answer : Cut) → xs ≡ piece
    → Uses (take (length xs - at) (drop at xs)) used answer → used ≤ length (drop at piece)
uses_some xs piece at used answer same uses =
    subst (λ (t : List ℕ). used ≤ length t) (rest_of xs piece at same) (uses_within (take (length xs - at) (drop at xs)) used answer uses)
  where
    uses_within : (part : List ℕ) (used : ℕ) (answer : Cut) → Uses part used answer → used ≤ length part
    uses_within part used More all = omega arith
    uses_within part used (cut.Head h) uses = uses.1
    uses_within part used (Part stream from to last) uses = uses.1

-- the answer to a head is output
pub answer_sends : (role : Role) (past now : List Item) (new : Table) (before after : List Event) (out answered : List ℕ)
    → Arrives role past now new before after out (out ++ answered) → 0 < length answered → SendsMore role past now
answer_sends role past now new before after out answered arrives some =
    let more : List ℕ = arrives.output.0 in
    let same : length (out ++ answered) ≡ length (out ++ more) = ap length arrives.output.1 in
    let grown : length (output role now) ≡ length (output role past ++ more) = ap length arrives.output.2 in
    omega (arith, length-append out answered, length-append out more, length-append (output role past) more)

pub frame_brings : (role : Role) (past : List Item) (fed bytes : List ℕ) (used : ℕ) (h : Header) (b : Bool) (place : Place) → nat_lt 0 (payload_length h) ≡ b
    → wire.Stands (fed ++ take used bytes) (cond b (Head h ∷ arrivals past) (Tail ∷ Head h ∷ arrivals past)) place → used ≤ length bytes
    → TellsMore role past (cond b (Came (Head h) ∷ past) (Came Tail ∷ Came (Head h) ∷ past)) ⊎ SendsMore role past (cond b (Came (Head h) ∷ past) (Came Tail ∷ Came (Head h) ∷ past))
    → Brings role past fed bytes
frame_brings role past fed bytes used h true place is at within more =
    record { used = used; within = within; now = Came (Head h) ∷ past; came = (Head h ∷ [], refl); read = (place.part, at.reads); more = more }
frame_brings role past fed bytes used h false place is at within more =
    record { used = used; within = within; now = Came Tail ∷ Came (Head h) ∷ past; came = (Tail ∷ Head h ∷ [], refl); read = (place.part, at.reads); more = more }

pub fault_brings : (role : Role) (past : List Item) (fed bytes : List ℕ) (used : ℕ) (h : Header) (fault : Fault) (place : Place)
    → wire.Stands (fed ++ take used bytes) (cond (nat_lt 0 (payload_length h)) (Head h ∷ arrivals past) (Tail ∷ Head h ∷ arrivals past)) place → used ≤ length bytes
    → fault_at role past (Came (Head h)) ≡ Some fault → Brings role past fed bytes
fault_brings role past fed bytes used h fault place at within faulty =
    frame_brings role past fed bytes used h (nat_lt 0 (payload_length h)) place refl at within
    (inl (began_tells role past h (nat_lt 0 (payload_length h)) (faulty_tells role past (Came (Head h)) fault faulty)))

pub garbled_brings : (role : Role) (past : List Item) (fed bytes : List ℕ) (why : FrameFault) → StopsIn fed (arrivals past) bytes why → Brings role past fed bytes
garbled_brings role past fed bytes why stops =
    record {
      used = stops.used;
      within = stops.within;
      now = Came (Garbled stops.garbled) ∷ past;
      came = (Garbled stops.garbled ∷ [], refl);
      read = ([], stops.reads);
      more = inl (faulty_tells role past (Came (Garbled stops.garbled)) BadFrame refl);
    }

-- a part of a payload, or its tail, tells something
pub part_brings : (role : Role) (past : List Item) (fed bytes : List ℕ) (used : ℕ) (last : Bool) (place : Place)
    → wire.Stands (fed ++ take used bytes) (cond last (Tail ∷ with_bytes (take used bytes) (arrivals past)) (with_bytes (take used bytes) (arrivals past))) place → used ≤ length bytes
    → TellsMore role past (cond last (Came Tail ∷ came_bytes (take used bytes) past) (came_bytes (take used bytes) past)) → Brings role past fed bytes
part_brings role past fed bytes used true place at within more =
    let part : List ℕ = take used bytes in
    record {
      used = used;
      within = within;
      now = Came Tail ∷ came_bytes part past;
      came = (Tail ∷ with_bytes part [], ap (λ (xs : List Item). Came Tail ∷ xs) (came_are part past));
      read = (place.part, subst (λ (xs : List Arrival). Reads (fed ++ part) (Tail ∷ xs) place.part) (sym (arrivals_of_bytes part past)) at.reads);
      more = inl more;
    }
part_brings role past fed bytes used false place at within more =
    let part : List ℕ = take used bytes in
    record {
      used = used;
      within = within;
      now = came_bytes part past;
      came = (with_bytes part [], came_are part past);
      read = (place.part, subst (λ (xs : List Arrival). Reads (fed ++ part) xs place.part) (sym (arrivals_of_bytes part past)) at.reads);
      more = inl more;
    }

-- where the part itself tells something, or its tail does
pub part_tells : (role : Role) (past : List Item) (part : List ℕ) (last : Bool) → TellsMore role past (came_bytes part past)
    → TellsMore role past (cond last (Came Tail ∷ came_bytes part past) (came_bytes part past))
part_tells role past part true more = tells_still role past (came_bytes part past) (Came Tail) more
part_tells role past part false more = more

pub last_tells : (role : Role) (past : List Item) (part : List ℕ) (last : Bool) → last ≡ true → TellsMore role (came_bytes part past) (Came Tail ∷ came_bytes part past)
    → TellsMore role past (cond last (Came Tail ∷ came_bytes part past) (came_bytes part past))
last_tells role past part last is more =
    let same : length (events role (came_bytes part past)) ≡ length (events role (map Came (with_bytes part []) ++ past)) = ap (λ (xs : List Item). length (events role xs)) (came_are part past) in
    subst (λ b. TellsMore role past (cond b (Came Tail ∷ came_bytes part past) (came_bytes part past))) (sym is)
    (let still = events_still role (with_bytes part []) past in omega arith)

-- ---- behind a prefix of the piece

pub brings_later : (role : Role) (past mid : List Item) (fed bytes sent : List ℕ) (at : ℕ) (told : List Told) (s : State) → at ≤ length bytes
    → Led role past mid fed (take at bytes) sent told s → Brings role mid (fed ++ take at bytes) (drop at bytes) → Brings role past fed bytes
brings_later role past mid fed bytes sent at told s within led brings =
    let before : List Arrival = led.came.0 in
    let tells = events_still role before past in
    let sends = output_still role before past in
    let mid_tells : length (events role mid) ≡ length (events role (map Came before ++ past)) = ap (λ (xs : List Item). length (events role xs)) led.came.1 in
    let mid_sends : length (output role mid) ≡ length (output role (map Came before ++ past)) = ap (λ (xs : List Item). length (output role xs)) led.came.1 in
    record {
      used = at + brings.used;
      within = (let fits = brings.within in omega (arith, length-drop at bytes));
      now = brings.now;
      came = (
        brings.came.0 ++ before,
        brings.came.1 ∙ ap (λ (xs : List Item). map Came brings.came.0 ++ xs) led.came.1 ∙ sym (append_assoc (map Came brings.came.0) (map Came before) past)
            ∙ ap (λ (xs : List Item). xs ++ past) (sym (map-append Came brings.came.0 before)),
      );
      read = (
        brings.read.0,
        subst (λ (xs : List ℕ). Reads xs (arrivals brings.now) brings.read.0)
            (append_assoc fed (take at bytes) (take brings.used (drop at bytes)) ∙ ap (λ (xs : List ℕ). fed ++ xs) (sym (take_on bytes at brings.used within))) brings.read.1,
      );
      more = elim brings.more [
        | inl more ↦ inl (omega arith)
        | inr more ↦ inr (omega arith)
      ];
    }
