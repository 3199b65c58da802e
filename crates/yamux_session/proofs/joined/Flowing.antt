-- What was taken comes back to the writer as credit.
use Rattle.std.proofs.Common.{◌≡◌, ℕ, ◌+◌, ◌-◌, ◌<◌, Bool, true, false, not, ◌||◌, ◌&&◌, ◌==◌, cond, List, [], ◌∷◌, ◌++◌, length, Option, Some, None, refl, sym, ap, ◌∙◌, subst, arith}
use Rattle.std.specs.Prelude.{nat_le}
use Rattle.std.proofs.lemmas.Bool.{leb-false}
use Rattle.std.proofs.lemmas.List.{length-append}
use Rattle.yamux_frames.specs.declared.header.FrameKind.{FrameKind}
use Rattle.yamux_frames.specs.declared.header.FrameKind.TheVariants.{Payload, Window, Ping, GoAway}
use Rattle.yamux_frames.specs.Spelling.{length_of}
use Rattle.yamux_frames.specs.Frames.{Arrival, bytes_left, AreFrames, IsBetween}
use Rattle.yamux_frames.specs.Frames.Arrival.{Head, Byte, Tail, Garbled}
use Rattle.yamux_frames.proofs.Front.{between_none}
use Rattle.yamux_session.specs.declared.event.Role.{Role}
use Rattle.yamux_session.specs.declared.event.Role.TheVariants.{Client, Server}
use Rattle.yamux_session.specs.declared.streams.Row.{Row}
use Rattle.yamux_session.specs.History.{Item, arrivals, is_data, Act}
use Rattle.yamux_session.specs.History.Item.{Came, Did}
use Rattle.yamux_session.specs.History.Act.{Start, Write, Taken, Close, Reset}
use Rattle.yamux_session.specs.Openings.{is_live, opens, reading, is_reading, finished, finishes, byte_belongs}
use Rattle.yamux_session.specs.Windows.{since_opening, data_length, arrived_length, taken_length, given_of, given_back, owed, untaken, receiving_window}
use Rattle.yamux_session.specs.Events.{when}
use Rattle.yamux_session.specs.Data.{byte_at, inbound}
use Rattle.yamux_session.specs.Keeps.{IsRowAt}
use Rattle.yamux_session.specs.Joined.{length_of_data, IsWritable, NothingStandsStill}
use Rattle.yamux_session.proofs.Lists.{or_parts}
use Rattle.yamux_session.proofs.Untaken.{small_given, row_there}
use Rattle.yamux_session.proofs.joined.Sent.{sent}
use Rattle.yamux_session.proofs.joined.Totals.{total}
use Rattle.yamux_session.proofs.joined.WholeFrames.{sent_frames}
use Rattle.yamux_session.proofs.joined.Coming.{head_at, all_data}
use Rattle.yamux_session.proofs.joined.Delivered.{bytes_of, delivered}
use Rattle.yamux_session.proofs.joined.Joining.{Linked, linked, turned, came_turn, way_is, balanced}

-- ---- what arrived, and what was announced

byte_length : (role : Role) (past : List Item) (x : Item) (n : ℕ) → length (byte_at role past x n) ≡ arrived_length role n past x
byte_length role past (Came (Byte b)) n = by (byte_belongs role past n)
  where
    by : (c : Bool) → length (when c b) ≡ cond c 1 0
    by true = refl
    by false = refl
byte_length role past (Came (Head h)) n = refl
byte_length role past (Came Tail) n = refl
byte_length role past (Came (Garbled bytes)) n = refl
byte_length role past (Did act) n = refl

length_if : (b : Bool) (xs : List ℕ) (n : ℕ) → length xs ≡ n → length (cond b [] xs) ≡ cond b 0 n
length_if true xs n e = refl
length_if false xs n e = e

inbound_length : (role : Role) (past : List Item) (n : ℕ) → length (inbound role past n) ≡ since_opening (arrived_length role n) role past n
inbound_length role [] n = refl
inbound_length role (x ∷ past) n =
    let before : List ℕ = cond (opens role past x n) [] (inbound role past n) in
    let kept = length_if (opens role past x n) (inbound role past n) (since_opening (arrived_length role n) role past n) (inbound_length role past n) in
    omega (arith, length-append before (byte_at role past x n), byte_length role past x n)

-- what a head of the stream n announces is left to come
head_left : (b : Bool) (k : FrameKind) (len : ℕ) → cond b (length_of k len) 0 ≡ cond (b && is_data k) len 0
head_left true Payload len = refl
head_left true Window len = refl
head_left true Ping len = refl
head_left true GoAway len = refl
head_left false k len = refl

none_left : (b : Bool) (left : ℕ) → left ≡ 0 → cond b left 0 ≡ 0
none_left true left none = none
none_left false left none = refl

bytes_and_left : (n : ℕ) (xs : List Arrival) → AreFrames xs → length (bytes_of n xs) + cond (is_reading (head_at xs) n) (bytes_left xs) 0 ≡ total (length_of_data n) xs
bytes_and_left n [] frames = refl
bytes_and_left n (Head h ∷ xs) frames =
    let rest = bytes_and_left n xs frames.2 in
    let none = none_left (is_reading (head_at xs) n) (bytes_left xs) (between_none xs frames.0) in
    let here = head_left (h.stream == n) h.kind h.length in omega arith
bytes_and_left n (Byte b ∷ xs) frames = let rest = by (is_reading (head_at xs) n) (bytes_and_left n xs frames.1) in omega arith
  where
    by : (c : Bool) → length (bytes_of n xs) + cond c (bytes_left xs) 0 ≡ total (length_of_data n) xs
        → length (bytes_of n xs ++ cond c (b ∷ []) []) + cond c (bytes_left xs - 1) 0 ≡ total (length_of_data n) xs
    by true rest = let some = frames.0 in omega (arith, length-append (bytes_of n xs) (b ∷ []))
    by false rest = omega (arith, length-append (bytes_of n xs) [])
bytes_and_left n (Tail ∷ xs) frames =
    let rest = bytes_and_left n xs frames.2 in let none = none_left (is_reading (head_at xs) n) (bytes_left xs) frames.1 in omega arith
bytes_and_left n (Garbled bytes ∷ xs) frames =
    let rest = bytes_and_left n xs frames.2 in
    let none = none_left (is_reading (head_at xs) n) (bytes_left xs) (between_none xs frames.0) in omega arith

-- ---- what was taken was given back, or is owed

taken_none : (o : Bool) (taken given rest : ℕ) → taken ≡ given + rest → cond o 0 taken ≡ cond o 0 given + cond o 0 (rest + 0)
taken_none true taken given rest e = refl
taken_none false taken given rest e = omega arith

taken_is : (role : Role) (past : List Item) (n : ℕ) → since_opening (taken_length n) role past n ≡ since_opening (given_back role n) role past n + owed role past n
taken_is role [] n = refl
taken_is role (Did (Taken m count) ∷ past) n = by (m == n) (taken_is role past n)
  where
    fin : Bool
    fin = finished role past n

    now : ℕ
    now = owed role past n

    by : (b : Bool) → since_opening (taken_length n) role past n ≡ since_opening (given_back role n) role past n + now
        → cond b count 0 + since_opening (taken_length n) role past n
        ≡ (cond b (given_of fin (now + count)) 0 + since_opening (given_back role n) role past n) + cond b ((now + cond b count 0) - given_of fin (now + cond b count 0)) (now + cond b count 0)
    by true rest = let small = small_given fin (now + count) in omega arith
    by false rest = omega arith
taken_is role (Did (Start k) ∷ past) n = let rest = taken_none (opens role past (Did (Start k)) n) _ _ _ (taken_is role past n) in omega arith
taken_is role (Did (Write k pieces) ∷ past) n = let rest = taken_none false _ _ _ (taken_is role past n) in omega arith
taken_is role (Did (Close k) ∷ past) n = let rest = taken_none false _ _ _ (taken_is role past n) in omega arith
taken_is role (Did (Reset k) ∷ past) n = let rest = taken_none false _ _ _ (taken_is role past n) in omega arith
taken_is role (Did (Act.GoAway code) ∷ past) n = let rest = taken_none false _ _ _ (taken_is role past n) in omega arith
taken_is role (Came (Head h) ∷ past) n = let rest = taken_none (opens role past (Came (Head h)) n) _ _ _ (taken_is role past n) in omega arith
taken_is role (Came (Byte b) ∷ past) n = let rest = taken_none false _ _ _ (taken_is role past n) in omega arith
taken_is role (Came Tail ∷ past) n = let rest = taken_none false _ _ _ (taken_is role past n) in omega arith
taken_is role (Came (Garbled bytes) ∷ past) n = let rest = taken_none false _ _ _ (taken_is role past n) in omega arith

-- and what is owed is less than half a window, while the other end's direction is open
few_left : (amount : ℕ) → amount - given_of false amount < 131072
few_left amount = by (nat_le 131072 amount) refl
  where
    by : (b : Bool) → nat_le 131072 amount ≡ b → amount - cond b amount 0 < 131072
    by true most = omega arith
    by false less = let few = leb-false 131072 amount less in omega arith

few_then : (o : Bool) (amount : ℕ) → (o ≡ false → amount < 131072) → cond o 0 (amount + 0) < 131072
few_then true amount few = omega arith
few_then false amount few = let less = few refl in omega arith

still_open : (role : Role) (past : List Item) (x : Item) (n : ℕ) → finished role (x ∷ past) n ≡ false → opens role past x n ≡ false → finished role past n ≡ false
still_open role past x n going shut = (or_parts (finishes (reading role past) x n) (finished role past n) (sym (ap (λ b. not b && (finishes (reading role past) x n || finished role past n)) shut) ∙ going)).1

owed_few : (role : Role) (past : List Item) (n : ℕ) → finished role past n ≡ false → owed role past n < 131072
owed_few role [] n going = omega arith
owed_few role (Did (Taken m count) ∷ past) n going = by (m == n) (finished role past n) going (owed_few role past n going)
  where
    by : (b f : Bool) → f ≡ false → owed role past n < 131072 → cond b ((owed role past n + cond b count 0) - given_of f (owed role past n + cond b count 0)) (owed role past n + cond b count 0) < 131072
    by true true going few = absurd cc
    by true false going few = few_left (owed role past n + count)
    by false f going few = omega arith
owed_few role (Did (Start k) ∷ past) n going = few_then (opens role past (Did (Start k)) n) (owed role past n) (λ shut. owed_few role past n (still_open role past (Did (Start k)) n going shut))
owed_few role (Did (Write k pieces) ∷ past) n going = few_then false (owed role past n) (λ shut. owed_few role past n (still_open role past (Did (Write k pieces)) n going refl))
owed_few role (Did (Close k) ∷ past) n going = few_then false (owed role past n) (λ shut. owed_few role past n (still_open role past (Did (Close k)) n going refl))
owed_few role (Did (Reset k) ∷ past) n going = few_then false (owed role past n) (λ shut. owed_few role past n (still_open role past (Did (Reset k)) n going refl))
owed_few role (Did (Act.GoAway code) ∷ past) n going = few_then false (owed role past n) (λ shut. owed_few role past n (still_open role past (Did (Act.GoAway code)) n going refl))
owed_few role (Came (Head h) ∷ past) n going = few_then (opens role past (Came (Head h)) n) (owed role past n) (λ shut. owed_few role past n (still_open role past (Came (Head h)) n going shut))
owed_few role (Came (Byte b) ∷ past) n going = few_then false (owed role past n) (λ shut. owed_few role past n (still_open role past (Came (Byte b)) n going refl))
owed_few role (Came Tail ∷ past) n going = few_then false (owed role past n) (λ shut. owed_few role past n (still_open role past (Came Tail) n going refl))
owed_few role (Came (Garbled bytes) ∷ past) n going = few_then false (owed role past n) (λ shut. owed_few role past n (still_open role past (Came (Garbled bytes)) n going refl))

-- ---- so the window is open again

window_open : (role : Role) (past : List Item) (n : ℕ) (row : Option Row) → IsRowAt role past n row → is_live role past n ≡ true → finished role past n ≡ false → untaken role past n ≡ 0
    → since_opening (arrived_length role n) role past n ≡ since_opening (data_length role n) role past n → 131072 < receiving_window role past n
window_open role past n None off on going all_taken whole = absurd (let e : false ≡ true = sym off ∙ on in cc)
window_open role past n (Some s) at on going all_taken whole =
    let window = at.1.window in
    let bound = at.1.bound in
    let taken = taken_is role past n in
    let few = owed_few role past n going in
    omega arith

writable : (p q : Role) (far near : List Item) → Linked p q far near → IsWritable p q far near
writable p q far near l n p_live q_live going all_taken none none_back =
    let window = balanced p q far near l n [] [] p_live q_live none none_back in
    let all : sent p far ≡ arrivals near = way_is p q far near [] l none in
    let between : IsBetween (arrivals near) = subst IsBetween all (sent_frames p far l.p_answered l.p_good l.p_frames).1 in
    let turn = came_turn p q far near l in
    let came = all_data q near n l.q_good (l.q_none n) turn q_live in
    let bytes = bytes_and_left n (arrivals near) l.q_frames in
    let left = none_left (is_reading (head_at (arrivals near)) n) (bytes_left (arrivals near)) (between_none (arrivals near) between) in
    let whole = (delivered q near n l.q_good (l.q_none n) l.q_frames turn).whole q_live in
    let size : length (inbound q near n) ≡ length (bytes_of n (arrivals near)) = ap length whole in
    let open_again = window_open q near n _ (row_there q near n l.q_answered l.q_good l.q_frames).1 q_live going all_taken (let arrived = inbound_length q near n in omega arith) in
    omega arith

pub nothing_stands_still : NothingStandsStill
nothing_stands_still client server joined =
    let l = linked client server joined in
    (writable Client Server client.items server.items l, writable Server Client server.items client.items (turned Client Server client.items server.items l))
