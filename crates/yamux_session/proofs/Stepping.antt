-- The session after one answer of the cutter.
use Rattle.std.proofs.Common.{◌≡◌, ℕ, ◌+◌, ◌-◌, ◌≤◌, Bool, true, false, cond, nat_lt, List, [], ◌∷◌, ◌++◌, length, map, take, drop, Some, refl, sym, ap, ◌∙◌, subst, append_assoc, arith}
use Rattle.std.proofs.lemmas.List.{append-nil, length-take-le, length-drop, take_rest}
use Rattle.yamux_frames.specs.declared.header.Header.{Header}
use Rattle.yamux_frames.specs.declared.header.FrameKind.TheVariants.{GoAway}
use Rattle.yamux_frames.specs.declared.header.FrameFault.{FrameFault}
use Rattle.yamux_frames.specs.Place.{Place}
use Rattle.yamux_frames.specs.Spelling.{header_bytes, payload_length}
use Rattle.yamux_frames.specs.declared.cutter.Cut.{Cut}
use Rattle.yamux_frames.specs.Frames as wire
use Rattle.yamux_frames.specs.Frames.{Arrival, spelled, bytes_left, with_bytes, with_cut, StopsIn}
use Rattle.yamux_frames.specs.Frames.Arrival.{Head, Byte, Tail, Garbled}
use Rattle.yamux_frames.proofs.Frames.{bytes_fit}
use Rattle.yamux_frames.proofs.Front.{between_none}
use Rattle.yamux_session.specs.declared.event.Role.{Role}
use Rattle.yamux_session.specs.declared.event.Fault.{Fault}
use Rattle.yamux_session.specs.declared.event.Fault.TheVariants.{BadFrame}
use Rattle.yamux_session.specs.declared.event.Event.{Event}
use Rattle.yamux_session.specs.History.{Item, arrivals, came_bytes}
use Rattle.yamux_session.specs.History.Item.{Came}
use Rattle.yamux_session.specs.Faults.{fault_at}
use Rattle.yamux_session.specs.Events.{Told, events, events_unless, item_events}
use Rattle.yamux_session.specs.Output.{output, output_unless, item_output, frame}
use Rattle.yamux_session.specs.Table.{Table}
use Rattle.yamux_session.specs.Acts.{AreAnswered}
use Rattle.yamux_session.specs.Keeps.{Keeps}
use Rattle.yamux_session.specs.Arrives.{Tells, Arrives}
use Rattle.yamux_session.specs.State.{State, Stands, EndsWith, IsPart, IsOneFrame, Steps}
use Rattle.yamux_session.proofs.Telling.{tells_nothing, arrives_then}
use Rattle.yamux_session.proofs.Naming.{TellsOne, names_one, tells_fault, head_tells_one, frame_tells_one, part_tells_one, last_tells_one}

-- ---- what came

pub arrives_nothing : (role : Role) (past : List Item) (table : Table) (told : List Event) (out : List ℕ) → Keeps role past table → Arrives role past past table told told out out
arrives_nothing role past table told out keeps = record {
  no_fault = λ before. before;
  keeps = keeps;
  told = ([], tells_nothing told, sym (append-nil (events role past)));
  output = ([], sym (append-nil out), sym (append-nil (output role past)));
}

pub arrivals_on : (came : List Arrival) (past : List Item) → arrivals (map Came came ++ past) ≡ came ++ arrivals past
arrivals_on [] past = refl
arrivals_on (x ∷ came) past = ap (λ (t : List Arrival). x ∷ t) (arrivals_on came past)

pub still_answered : (role : Role) (came : List Arrival) (past : List Item) → AreAnswered role past → AreAnswered role (map Came came ++ past)
still_answered role [] past a = a
still_answered role (x ∷ came) past a = still_answered role came past a

came_after : (bytes : List ℕ) (came : List Arrival) (past : List Item) → came_bytes bytes (map Came came ++ past) ≡ map Came (with_bytes bytes came) ++ past
came_after [] came past = refl
came_after (b ∷ bytes) came past = came_after bytes (Byte b ∷ came) past

pub came_are : (bytes : List ℕ) (past : List Item) → came_bytes bytes past ≡ map Came (with_bytes bytes []) ++ past
came_are bytes past = came_after bytes [] past

pub arrivals_of_bytes : (bytes : List ℕ) (past : List Item) → arrivals (came_bytes bytes past) ≡ with_bytes bytes (arrivals past)
arrivals_of_bytes [] past = refl
arrivals_of_bytes (b ∷ bytes) past = arrivals_of_bytes bytes (Came (Byte b) ∷ past)

-- the rest of a piece
pub rest_of : (xs piece : List ℕ) (at : ℕ) → xs ≡ piece → take (length xs - at) (drop at xs) ≡ drop at piece
rest_of xs piece at same = take_rest xs at ∙ ap (drop at) same

-- ---- of one frame

pub one_came : (x : Arrival) → IsOneFrame (x ∷ [])
one_came (Head h) = tt
one_came (Byte b) = tt
one_came Tail = tt
one_came (Garbled bytes) = tt

pub part_came : (came : List Arrival) → IsPart came → IsOneFrame came
part_came [] part = tt
part_came (Head h ∷ came) part = absurd part
part_came (Byte b ∷ came) part = part
part_came (Tail ∷ came) part = absurd part
part_came (Garbled bytes ∷ came) part = absurd part

tail_came : (came : List Arrival) → IsPart came → IsOneFrame (Tail ∷ came)
tail_came [] part = tt
tail_came (Head h ∷ came) part = absurd part
tail_came (Byte b ∷ came) part = part
tail_came (Tail ∷ came) part = absurd part
tail_came (Garbled bytes ∷ came) part = absurd part

bytes_came : (bytes : List ℕ) (came : List Arrival) → IsPart came → IsPart (with_bytes bytes came)
bytes_came [] came part = part
bytes_came (b ∷ bytes) came part = bytes_came bytes (Byte b ∷ came) part

-- and before the newest arrival as well
pub older_came : (x : Arrival) (came : List Arrival) → IsOneFrame (x ∷ came) → IsOneFrame came
older_came (Head h) [] one = tt
older_came (Head h) (y ∷ came) one = absurd one
older_came (Byte b) came one = part_came came one
older_came Tail [] one = tt
older_came Tail (Head h ∷ []) one = tt
older_came Tail (Head h ∷ y ∷ came) one = absurd one
older_came Tail (Byte b ∷ came) one = one
older_came Tail (Tail ∷ came) one = absurd one
older_came Tail (Garbled bytes ∷ came) one = absurd one
older_came (Garbled bytes) [] one = tt
older_came (Garbled bytes) (y ∷ came) one = absurd one

-- ---- the session goes on

pub went : (role : Role) (past now : List Item) (fed bytes sent : List ℕ) (before after : List Event) (old new : State) (came : List Arrival)
    → IsOneFrame came → Stands role past fed sent old → now ≡ map Came came ++ past → wire.Stands (fed ++ bytes) (arrivals now) new.place
    → Arrives role past now new.table before after old.pending new.pending → new.failed ≡ false
    → ((told : List Told) → events role now ≡ events role past ++ told → TellsOne told) → Steps role past fed bytes sent before after new
went role past now fed bytes sent before after old new came of_one stands came_is frames arrives going one = record {
  now = now;
  told = arrives.told.0;
  tells = arrives.told.1;
  names_one = names_one before after arrives.told.0 arrives.told.1 (one arrives.told.0 arrives.told.2);
  led = record {
    came = (came, came_is);
    told_is = arrives.told.2;
    goes_on = λ _. record {
      going = going;
      no_fault = arrives.no_fault stands.no_fault;
      answered = subst (AreAnswered role) (sym came_is) (still_answered role came past stands.answered);
      frames = frames;
      table = arrives.keeps;
      output = ap (λ (t : List ℕ). sent ++ t) arrives.output.1 ∙ sym (append_assoc sent old.pending arrives.output.0)
          ∙ ap (λ (t : List ℕ). t ++ arrives.output.0) stands.output ∙ sym arrives.output.2;
    };
    fails = λ bad. absurd (let e : true ≡ false = sym bad ∙ going in cc);
  };
  one_frame = of_one;
}

-- ---- the session ends

pub fell : (role : Role) (past : List Item) (fed bytes sent : List ℕ) (before after : List Event) (old new : State) (x : Arrival) (fault : Fault) (used : ℕ)
    → Stands role past fed sent old → fault_at role past (Came x) ≡ Some fault → used ≤ length bytes → EndsWith (fed ++ take used bytes) (x ∷ arrivals past)
    → Tells before after (Told.Fault fault ∷ []) → new.failed ≡ true → new.pending ≡ old.pending ++ frame GoAway 0 0 1 → Steps role past fed bytes sent before after new
fell role past fed bytes sent before after old new x fault used stands faulty within ends tells failed pending = record {
  now = Came x ∷ past;
  told = Told.Fault fault ∷ [];
  tells = tells;
  names_one = names_one before after (Told.Fault fault ∷ []) tells (tells_fault fault);
  led = record {
    came = (x ∷ [], refl);
    told_is = ap (λ f. events role past ++ events_unless f (item_events role past (Came x))) faulty;
    goes_on = λ going. absurd (let e : true ≡ false = sym failed ∙ going in cc);
    fails = λ _. (
      ((fault, faulty), stands.no_fault),
      ap (λ (t : List ℕ). sent ++ t) pending ∙ sym (append_assoc sent old.pending (frame GoAway 0 0 1)) ∙ ap (λ (t : List ℕ). t ++ frame GoAway 0 0 1) stands.output
          ∙ sym (ap (λ f. output role past ++ output_unless f (item_output role past (Came x))) faulty),
      (used, within, ends),
    );
  };
  one_frame = one_came x;
}

-- the bytes up to a head
head_ends : (bytes : List ℕ) (past : List Arrival) (h : Header) (b : Bool) (place : Place) → wire.Stands bytes (cond b (Head h ∷ past) (Tail ∷ Head h ∷ past)) place → place.part ≡ [] → EndsWith bytes (Head h ∷ past)
head_ends bytes past h true place at none = record {
  whole = at.reads.whole ∙ ap (λ (t : List ℕ). (spelled past ++ header_bytes h) ++ t) none ∙ append-nil (spelled past ++ header_bytes h);
  frames_are = at.reads.frames_are;
}
head_ends bytes past h false place at none = record {
  whole = at.reads.whole ∙ ap (λ (t : List ℕ). ((spelled past ++ header_bytes h) ++ []) ++ t) none
      ∙ append-nil ((spelled past ++ header_bytes h) ++ []) ∙ append-nil (spelled past ++ header_bytes h);
  frames_are = at.reads.frames_are.2;
}

all_of : (xs : List ℕ) → take (length xs) xs ≡ xs
all_of [] = refl
all_of (x ∷ xs) = ap (λ (t : List ℕ). x ∷ t) (all_of xs)

pub fell_at_head : (role : Role) (past : List Item) (fed bytes sent : List ℕ) (before after : List Event) (old new : State) (h : Header) (fault : Fault) (place : Place)
    → Stands role past fed sent old → fault_at role past (Came (Head h)) ≡ Some fault
    → wire.Stands (fed ++ bytes) (cond (nat_lt 0 (payload_length h)) (Head h ∷ arrivals past) (Tail ∷ Head h ∷ arrivals past)) place → place.part ≡ []
    → Tells before after (Told.Fault fault ∷ []) → new.failed ≡ true → new.pending ≡ old.pending ++ frame GoAway 0 0 1 → Steps role past fed bytes sent before after new
fell_at_head role past fed bytes sent before after old new h fault place stands faulty at none tells failed pending =
    fell role past fed bytes sent before after old new (Head h) fault (length bytes) stands faulty (omega arith)
    (subst (λ (t : List ℕ). EndsWith (fed ++ t) (Head h ∷ arrivals past)) (sym (all_of bytes)) (head_ends (fed ++ bytes) (arrivals past) h (nat_lt 0 (payload_length h)) place at none))
    tells failed pending

pub fell_at_garbled : (role : Role) (past : List Item) (fed rest sent : List ℕ) (before after : List Event) (old new : State) (why : FrameFault)
    → Stands role past fed sent old → StopsIn fed (arrivals past) rest why
    → Tells before after (Told.Fault BadFrame ∷ []) → new.failed ≡ true → new.pending ≡ old.pending ++ frame GoAway 0 0 1 → Steps role past fed rest sent before after new
fell_at_garbled role past fed rest sent before after old new why stands stops tells failed pending =
    fell role past fed rest sent before after old new (Garbled stops.garbled) BadFrame stops.used stands refl stops.within
    (record { whole = stops.reads.whole ∙ append-nil (spelled (arrivals past) ++ stops.garbled); frames_are = stops.reads.frames_are })
    tells failed pending

-- ---- the answers of the cutter

pub framed : (fed some rest : List ℕ) (used : ℕ) (answer shape : Cut) (past : List Arrival) (place : Place) → answer ≡ shape → some ≡ rest
    → wire.Stands (fed ++ take used some) (with_cut (take used some) answer past) place → wire.Stands (fed ++ take used rest) (with_cut (take used rest) shape past) place
framed fed some rest used answer shape past place shape_is rest_is at =
    subst (λ (a : Cut). wire.Stands (fed ++ take used rest) (with_cut (take used rest) a past) place) shape_is
    (subst (λ (t : List ℕ). wire.Stands (fed ++ take used t) (with_cut (take used t) answer past) place) rest_is at)

-- a head comes behind whole frames
pub head_between : (bytes : List ℕ) (past : List Arrival) (h : Header) (b : Bool) (place : Place) → wire.Stands bytes (cond b (Head h ∷ past) (Tail ∷ Head h ∷ past)) place → bytes_left past ≡ 0
head_between bytes past h true place at = between_none past at.reads.frames_are.0
head_between bytes past h false place at = between_none past at.reads.frames_are.2.0

-- a head, with its tail where it has no payload
pub frame_went : (role : Role) (past : List Item) (fed bytes sent : List ℕ) (before after : List Event) (old new : State) (h : Header) (answer : List ℕ) (b : Bool) → nat_lt 0 (payload_length h) ≡ b
    → Stands role past fed sent old → wire.Stands (fed ++ bytes) (cond b (Head h ∷ arrivals past) (Tail ∷ Head h ∷ arrivals past)) new.place
    → Arrives role past (cond b (Came (Head h) ∷ past) (Came Tail ∷ Came (Head h) ∷ past)) new.table before after old.pending (old.pending ++ answer)
    → new.pending ≡ old.pending ++ answer → new.failed ≡ false → Steps role past fed bytes sent before after new
frame_went role past fed bytes sent before after old new h answer true is stands frames arrives pending going =
    went role past (Came (Head h) ∷ past) fed bytes sent before after old new (Head h ∷ []) tt stands refl frames
    (subst (λ (t : List ℕ). Arrives role past (Came (Head h) ∷ past) new.table before after old.pending t) (sym pending) arrives) going (head_tells_one role past h)
frame_went role past fed bytes sent before after old new h answer false is stands frames arrives pending going =
    went role past (Came Tail ∷ Came (Head h) ∷ past) fed bytes sent before after old new (Tail ∷ Head h ∷ []) tt stands refl frames
    (subst (λ (t : List ℕ). Arrives role past (Came Tail ∷ Came (Head h) ∷ past) new.table before after old.pending t) (sym pending) arrives) going
    (frame_tells_one role past h)

-- a part of a payload
pub part_fits : (bytes : List ℕ) (past : List Arrival) (last : Bool) (all : List ℕ) (place : Place) → wire.Stands all (cond last (Tail ∷ with_bytes bytes past) (with_bytes bytes past)) place → length bytes ≤ bytes_left past
part_fits bytes past true all place at = bytes_fit bytes past at.reads.frames_are.2
part_fits bytes past false all place at = bytes_fit bytes past at.reads.frames_are

pub part_went : (role : Role) (past : List Item) (fed bytes sent : List ℕ) (before after : List Event) (old new : State) (last : Bool)
    → Stands role past fed sent old → wire.Stands (fed ++ bytes) (cond last (Tail ∷ with_bytes bytes (arrivals past)) (with_bytes bytes (arrivals past))) new.place
    → last ≡ false → Arrives role past (came_bytes bytes past) new.table before after old.pending new.pending → new.failed ≡ false → Steps role past fed bytes sent before after new
part_went role past fed bytes sent before after old new last stands frames more arrives going =
    went role past (came_bytes bytes past) fed bytes sent before after old new (with_bytes bytes []) (part_came (with_bytes bytes []) (bytes_came bytes [] tt)) stands (came_are bytes past)
    (subst (λ (xs : List Arrival). wire.Stands (fed ++ bytes) xs new.place) (ap (λ b. cond b (Tail ∷ with_bytes bytes (arrivals past)) (with_bytes bytes (arrivals past))) more ∙ sym (arrivals_of_bytes bytes past)) frames)
    arrives going (part_tells_one role past bytes)

-- and a tail behind a whole payload
last_whole : (bytes all : List ℕ) (past : List Item) (last : Bool) (place : Place) → wire.Stands all (cond last (Tail ∷ with_bytes bytes (arrivals past)) (with_bytes bytes (arrivals past))) place
    → last ≡ true → bytes_left (arrivals (came_bytes bytes past)) ≡ 0
last_whole bytes all past true place at ends = ap bytes_left (arrivals_of_bytes bytes past) ∙ at.reads.frames_are.1
last_whole bytes all past false place at ends = absurd cc

pub last_went : (role : Role) (past : List Item) (fed bytes sent : List ℕ) (before mid after : List Event) (old new : State) (table : Table) (last : Bool)
    → Stands role past fed sent old → wire.Stands (fed ++ bytes) (cond last (Tail ∷ with_bytes bytes (arrivals past)) (with_bytes bytes (arrivals past))) new.place
    → last ≡ true → Arrives role past (came_bytes bytes past) table before mid old.pending old.pending
    → (AreAnswered role (came_bytes bytes past) → bytes_left (arrivals (came_bytes bytes past)) ≡ 0 → Keeps role (came_bytes bytes past) table → Arrives role (came_bytes bytes past) (Came Tail ∷ came_bytes bytes past) new.table mid after old.pending old.pending)
    → new.pending ≡ old.pending → new.failed ≡ false → Steps role past fed bytes sent before after new
last_went role past fed bytes sent before mid after old new table last stands frames ends arrives tail pending going =
    went role past (Came Tail ∷ came_bytes bytes past) fed bytes sent before after old new (Tail ∷ with_bytes bytes []) (tail_came (with_bytes bytes []) (bytes_came bytes [] tt)) stands (ap (λ (xs : List Item). Came Tail ∷ xs) (came_are bytes past))
    (subst (λ (xs : List Arrival). wire.Stands (fed ++ bytes) xs new.place)
    (ap (λ b. cond b (Tail ∷ with_bytes bytes (arrivals past)) (with_bytes bytes (arrivals past))) ends ∙ ap (λ (xs : List Arrival). Tail ∷ xs) (sym (arrivals_of_bytes bytes past))) frames)
    (subst (λ (t : List ℕ). Arrives role past (Came Tail ∷ came_bytes bytes past) new.table before after old.pending t) (sym pending)
    (arrives_then role past (came_bytes bytes past) (Came Tail ∷ came_bytes bytes past) table new.table before mid after old.pending old.pending old.pending arrives
    (tail (subst (AreAnswered role) (sym (came_are bytes past)) (still_answered role (with_bytes bytes []) past stands.answered))
    (last_whole bytes (fed ++ bytes) past last new.place frames ends) arrives.keeps)))
    going (last_tells_one role past bytes)

part_size : (piece : List ℕ) (at used : ℕ) → used ≤ length piece - at → length (take used (drop at piece)) ≡ used
part_size piece at used within = length-take-le used (drop at piece) (omega (arith, length-drop at piece))

pub part_within : (xs piece : List ℕ) (at used : ℕ) → xs ≡ piece → used ≤ length (take (length xs - at) (drop at xs)) → used ≤ length piece - at
part_within xs piece at used same within = let size : length (take (length xs - at) (drop at xs)) ≡ length (drop at piece) = ap length (rest_of xs piece at same) in omega (arith, length-drop at piece)

-- what a part of a payload leaves
pub part_arrives : (role : Role) (past : List Item) (fed piece : List ℕ) (at used : ℕ) (before after : List Event) (last : Bool) (table : Table) (out : List ℕ) (place : Place)
    → wire.Stands (fed ++ take used (drop at piece)) (cond last (Tail ∷ with_bytes (take used (drop at piece)) (arrivals past)) (with_bytes (take used (drop at piece)) (arrivals past))) place
    → (at + used - at ≤ bytes_left (arrivals past) → Arrives role past (came_bytes (take (at + used - at) (drop at piece)) past) table before after out out)
    → used ≤ length piece - at → Arrives role past (came_bytes (take used (drop at piece)) past) table before after out out
part_arrives role past fed piece at used before after last table out place frames arrives within =
    let size = part_size piece at used within in
    let fits = part_fits (take used (drop at piece)) (arrivals past) last (fed ++ take used (drop at piece)) place frames in
    let same : at + used - at ≡ used = omega arith in
    subst (λ n. Arrives role past (came_bytes (take n (drop at piece)) past) table before after out out) same (arrives (omega arith))
