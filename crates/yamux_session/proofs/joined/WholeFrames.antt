-- What a session sends are whole frames, whose numbers fit their bytes, and whose SYNs open its own streams.
use Rattle.std.proofs.Common.{◌≡◌, ℕ, ◌+◌, ◌-◌, ◌<◌, ◌≤◌, Bool, true, false, not, ◌&&◌, ◌==◌, nat_lt, cond, List, [], ◌∷◌, ◌++◌, length, Option, Some, None, refl, sym, ap, ◌∙◌, subst, arith}
use Rattle.std.specs.List.{AllByRecursion}
use Rattle.std.proofs.lemmas.Bool.{eqb-true, ltb-false}
use Rattle.yamux_frames.specs.declared.header.Header.{Header}
use Rattle.yamux_frames.specs.declared.header.FrameKind.{FrameKind}
use Rattle.yamux_frames.specs.declared.header.FrameKind.TheVariants.{Payload, Window, Ping, GoAway}
use Rattle.yamux_frames.specs.Spelling.{payload_length}
use Rattle.yamux_frames.specs.Frames.{Arrival, bytes_left, with_bytes, IsBetween, IsWithin, AreFrames}
use Rattle.yamux_frames.specs.Frames.Arrival.{Head, Byte, Tail, Garbled}
use Rattle.yamux_session.specs.declared.event.Role.{Role}
use Rattle.yamux_session.specs.declared.event.ActRefused.TheVariants.{GoneAway, StreamsExhausted, StreamsFull}
use Rattle.yamux_session.specs.declared.streams.Row.{Row}
use Rattle.yamux_session.specs.History.{Item, arrivals, syn, is_ping, is_of_stream, is_own, is_data, Act}
use Rattle.yamux_session.specs.History.Item.{Came, Did}
use Rattle.yamux_session.specs.History.Act.{Start, Write, Taken, Close, Reset}
use Rattle.yamux_session.specs.Openings.{live, is_live, local_go_away, is_let_in, opens, finished, closed}
use Rattle.yamux_session.specs.Windows.{given_back, given_of, owed}
use Rattle.yamux_session.specs.Acts.{AreAnswered, IsAnswered, IsPiece, next_own, remote_go_away, own_count}
use Rattle.yamux_session.specs.Faults.{HasNoFault}
use Rattle.yamux_session.specs.Keeps.{IsRowAt}
use Rattle.yamux_session.proofs.Live.{past_answered, let_in_at, was_or_opens, own_next, or_none_true}
use Rattle.yamux_session.proofs.Untaken.{row_there, frames_before, live_unless, live_if, small_given, untaken_limit}
use Rattle.yamux_session.proofs.joined.Sent.{header, bare, data_on, sent_on, sent}

-- ---- the numbers of live streams

first_small : (a b c : Bool) → cond a (Some GoneAway) (cond b (Some StreamsExhausted) (cond c (Some StreamsFull) None)) ≡ None → b ≡ false
first_small true b c e = absurd cc
first_small false true c e = absurd cc
first_small false false c e = refl

start_small : (role : Role) (past : List Item) (k : ℕ) → IsAnswered role past (Start k) → k < 4294967296
start_small role past k can =
    let room = ltb-false 4294967295 (next_own role past) (first_small (remote_go_away past) (nat_lt 4294967295 (next_own role past)) (nat_lt 255 (own_count role past)) can.0) in
    let next = can.1 in omega arith

opened_small : (role : Role) (past : List Item) (x : Item) (n : ℕ) → AreAnswered role (x ∷ past) → AreFrames (arrivals (x ∷ past)) → opens role past x n ≡ true → n < 4294967296
opened_small role past (Did (Start k)) n answered frames is = let e = eqb-true k n (or_none_true (k == n) is) in let small = start_small role past k answered.0 in omega arith
opened_small role past (Did (Write k pieces)) n answered frames is = absurd cc
opened_small role past (Did (Taken k count)) n answered frames is = absurd cc
opened_small role past (Did (Close k)) n answered frames is = absurd cc
opened_small role past (Did (Reset k)) n answered frames is = absurd cc
opened_small role past (Did (Act.GoAway code)) n answered frames is = absurd cc
opened_small role past (Came (Head h)) n answered frames is =
    let e = (let_in_at role past h n (is_of_stream h && syn h && is_let_in role (live role past) (local_go_away past) h) refl is).0 in
    let small = frames.1.stream in omega arith
opened_small role past (Came (Byte b)) n answered frames is = absurd cc
opened_small role past (Came Tail) n answered frames is = absurd cc
opened_small role past (Came (Garbled bytes)) n answered frames is = absurd cc

small_at : (role : Role) (past : List Item) (x : Item) (n : ℕ) (b : Bool) → is_live role past n ≡ b → AreAnswered role (x ∷ past) → AreFrames (arrivals (x ∷ past)) → is_live role (x ∷ past) n ≡ true
    → (is_live role past n ≡ true → n < 4294967296) → n < 4294967296
small_at role past x n true is answered frames on before = before is
small_at role past x n false is answered frames on before = opened_small role past x n answered frames (was_or_opens role x past n on is)

live_small : (role : Role) (past : List Item) (n : ℕ) → AreAnswered role past → AreFrames (arrivals past) → is_live role past n ≡ true → n < 4294967296
live_small role [] n answered frames on = absurd cc
live_small role (x ∷ past) n answered frames on =
    small_at role past x n (is_live role past n) refl answered frames on (live_small role past n (past_answered role x past answered) (frames_before x past frames))

-- what is given back
owed_small : (role : Role) (past : List Item) (n : ℕ) (row : Option Row) → IsRowAt role past n row → is_live role past n ≡ true → owed role past n ≤ 262144
owed_small role past n None off on = absurd (let e : true ≡ false = sym on ∙ off in cc)
owed_small role past n (Some s) at on = let rest = at.1.untaken in let bound = at.1.bound in let e = at.1.owed_is in omega arith

given_small : (role : Role) (past : List Item) (n count : ℕ) → AreAnswered role past → HasNoFault role past → AreFrames (arrivals past) → IsAnswered role past (Taken n count)
    → given_back role n past (Did (Taken n count)) < 4294967296
given_small role past n count answered good frames can =
    let on : is_live role past n ≡ true = live_if (is_live role past n) can.0 in
    let row = row_there role past n answered good frames in
    let few = owed_small role past n row.0 row.1 on in
    let less = untaken_limit role past n answered good frames in
    let asked = can.1 in
    let given = small_given (finished role past n) (owed role past n + count) in
    let all = small_if (n == n) (given_of (finished role past n) (owed role past n + count)) in
    omega arith
  where
    small_if : (b : Bool) (k : ℕ) → cond b k 0 ≤ k
    small_if true k = omega arith
    small_if false k = omega arith

-- ---- whole frames

record AreWhole (xs : List Arrival) : Type 0 where
  frames : AreFrames xs
  between : IsBetween xs

bare_whole : (kind : FrameKind) (flags stream len : ℕ) (xs : List Arrival) → payload_length (header kind flags stream len) ≡ 0 → flags < 65536 → stream < 4294967296 → len < 4294967296
    → AreWhole xs → AreWhole (bare kind flags stream len xs)
bare_whole kind flags stream len xs none f s l whole = record {
  frames = (tt, none, (whole.between, record { flags = f; stream = s; length = l }, whole.frames));
  between = tt;
}

bytes_whole : (bytes : List ℕ) (xs : List Arrival) → AreFrames xs → IsWithin xs → length bytes ≤ bytes_left xs → AreFrames (with_bytes bytes xs) × IsWithin (with_bytes bytes xs) × (bytes_left (with_bytes bytes xs) ≡ bytes_left xs - length bytes)
bytes_whole [] xs frames within fits = (frames, within, omega arith)
bytes_whole (b ∷ bytes) xs frames within fits =
    let rest = bytes_whole bytes (Byte b ∷ xs) (omega arith, frames) tt (omega arith) in
    let left = rest.2 in
    (rest.0, rest.1, omega arith)

data_whole : (n : ℕ) (pieces : List (List ℕ)) (xs : List Arrival) → n < 4294967296 → AllByRecursion IsPiece pieces → AreWhole xs → AreWhole (data_on n pieces xs)
data_whole n [] xs small are whole = whole
data_whole n (piece ∷ pieces) xs small are whole =
    let h : Header = header Payload 0 n (length piece) in
    let size = are.0.1 in
    let bytes = bytes_whole piece (Head h ∷ xs) (whole.between, record { flags = omega arith; stream = small; length = omega arith }, whole.frames) tt (omega arith) in
    data_whole n pieces (Tail ∷ with_bytes piece (Head h ∷ xs)) small are.1
    (record { frames = (bytes.1, (let left = bytes.2 in omega arith), bytes.0); between = tt })

if_whole : (b : Bool) (us vs : List Arrival) → AreWhole us → AreWhole vs → AreWhole (cond b us vs)
if_whole true us vs u v = u
if_whole false us vs u v = v

flag_small : (b : Bool) → let flag : ℕ = cond b 2 8 in flag < 65536
flag_small true = omega arith
flag_small false = omega arith

sent_on_whole : (role : Role) (past : List Item) (x : Item) (xs : List Arrival) → AreAnswered role (x ∷ past) → HasNoFault role (x ∷ past) → AreFrames (arrivals (x ∷ past)) → AreWhole xs → AreWhole (sent_on role past x xs)
sent_on_whole role past (Came (Head h)) xs answered good frames whole =
    let opened : Bool = opens role past (Came (Head h)) h.stream in
    if_whole (not (syn h)) xs _ whole
    (if_whole (is_ping h.kind) _ _ (bare_whole Ping 2 0 h.length xs refl (omega arith) (omega arith) frames.1.length whole)
    (if_whole (not (is_of_stream h)) xs _ whole (bare_whole Window (cond opened 2 8) h.stream 0 xs refl (flag_small opened) frames.1.stream (omega arith) whole)))
sent_on_whole role past (Came (Byte b)) xs answered good frames whole = whole
sent_on_whole role past (Came Tail) xs answered good frames whole = whole
sent_on_whole role past (Came (Garbled bytes)) xs answered good frames whole = whole
sent_on_whole role past (Did (Start k)) xs answered good frames whole = bare_whole Window 1 k 0 xs refl (omega arith) (start_small role past k answered.0) (omega arith) whole
sent_on_whole role past (Did (Write k pieces)) xs answered good frames whole =
    data_whole k pieces xs (live_small role past k answered.1 frames (live_unless (is_live role past k) (closed role past k) answered.0.0)) answered.0.1 whole
sent_on_whole role past (Did (Taken k count)) xs answered good frames whole =
    let amount : ℕ = given_back role k past (Did (Taken k count)) in
    if_whole (nat_lt 0 amount) _ xs
    (bare_whole Window 0 k amount xs refl (omega arith) (live_small role past k answered.1 frames (live_if (is_live role past k) answered.0.0)) (given_small role past k count answered.1 good.1 frames answered.0) whole) whole
sent_on_whole role past (Did (Close k)) xs answered good frames whole =
    bare_whole Window 4 k 0 xs refl (omega arith) (live_small role past k answered.1 frames (live_unless (is_live role past k) (closed role past k) answered.0)) (omega arith) whole
sent_on_whole role past (Did (Reset k)) xs answered good frames whole =
    bare_whole Window 8 k 0 xs refl (omega arith) (live_small role past k answered.1 frames (live_if (is_live role past k) answered.0)) (omega arith) whole
sent_on_whole role past (Did (Act.GoAway code)) xs answered good frames whole = bare_whole GoAway 0 0 code xs refl (omega arith) (omega arith) answered.0 whole

sent_whole : (role : Role) (past : List Item) → AreAnswered role past → HasNoFault role past → AreFrames (arrivals past) → AreWhole (sent role past)
sent_whole role [] answered good frames = record { frames = tt; between = tt }
sent_whole role (x ∷ past) answered good frames =
    sent_on_whole role past x (sent role past) answered good frames (sent_whole role past (past_answered role x past answered) good.1 (frames_before x past frames))

pub sent_frames : (role : Role) (past : List Item) → AreAnswered role past → HasNoFault role past → AreFrames (arrivals past) → AreFrames (sent role past) × IsBetween (sent role past)
sent_frames role past answered good frames = let whole = sent_whole role past answered good frames in (whole.frames, whole.between)

-- ---- SYNs

-- a SYN is for an own stream, and of an empty WindowUpdate; what is no header isn't sent
abbrev pub IsSent : Role → Arrival → Type 0
IsSent role (Head h) = is_of_stream h && syn h ≡ true → (is_own role h.stream ≡ true) × (is_data h.kind ≡ false) × (h.length ≡ 0)
IsSent role (Byte b) = Unit {0}
IsSent role Tail = Unit {0}
IsSent role (Garbled bytes) = ⊥

abbrev AreSent : Role → List Arrival → Type 0
AreSent role xs = AllByRecursion (IsSent role) xs

bare_sent : (role : Role) (kind : FrameKind) (flags stream len : ℕ) (xs : List Arrival) → (is_of_stream (header kind flags stream len) && syn (header kind flags stream len)) ≡ false → AreSent role xs → AreSent role (bare kind flags stream len xs)
bare_sent role kind flags stream len xs off are = (tt, ((λ on. absurd (let e : true ≡ false = sym on ∙ off in cc)), are))

bytes_sent : (role : Role) (bytes : List ℕ) (xs : List Arrival) → AreSent role xs → AreSent role (with_bytes bytes xs)
bytes_sent role [] xs are = are
bytes_sent role (b ∷ bytes) xs are = bytes_sent role bytes (Byte b ∷ xs) (tt, are)

data_sent : (role : Role) (n : ℕ) (pieces : List (List ℕ)) (xs : List Arrival) → AreSent role xs → AreSent role (data_on n pieces xs)
data_sent role n [] xs are = are
data_sent role n (piece ∷ pieces) xs are =
    data_sent role n pieces (Tail ∷ with_bytes piece (Head (header Payload 0 n (length piece)) ∷ xs))
    (tt, bytes_sent role piece (Head (header Payload 0 n (length piece)) ∷ xs) ((λ on. absurd cc), are))

if_sent : (role : Role) (b : Bool) (us vs : List Arrival) → AreSent role us → AreSent role vs → AreSent role (cond b us vs)
if_sent role true us vs u v = u
if_sent role false us vs u v = v

flag_sent : (b : Bool) (stream : ℕ) → (is_of_stream (header Window (cond b 2 8) stream 0) && syn (header Window (cond b 2 8) stream 0)) ≡ false
flag_sent true stream = refl
flag_sent false stream = refl

sent_on_are : (role : Role) (past : List Item) (x : Item) (xs : List Arrival) → AreAnswered role (x ∷ past) → AreSent role xs → AreSent role (sent_on role past x xs)
sent_on_are role past (Came (Head h)) xs answered are =
    let opened : Bool = opens role past (Came (Head h)) h.stream in
    if_sent role (not (syn h)) xs _ are (if_sent role (is_ping h.kind) _ _ (bare_sent role Ping 2 0 h.length xs refl are)
    (if_sent role (not (is_of_stream h)) xs _ are (bare_sent role Window (cond opened 2 8) h.stream 0 xs (flag_sent opened h.stream) are)))
sent_on_are role past (Came (Byte b)) xs answered are = are
sent_on_are role past (Came Tail) xs answered are = are
sent_on_are role past (Came (Garbled bytes)) xs answered are = are
sent_on_are role past (Did (Start k)) xs answered are = (tt, ((λ on. (ap (is_own role) answered.0.1 ∙ own_next role past answered.1, refl, refl)), are))
sent_on_are role past (Did (Write k pieces)) xs answered are = data_sent role k pieces xs are
sent_on_are role past (Did (Taken k count)) xs answered are =
    let amount : ℕ = given_back role k past (Did (Taken k count)) in
    if_sent role (nat_lt 0 amount) _ xs (bare_sent role Window 0 k amount xs refl are) are
sent_on_are role past (Did (Close k)) xs answered are = bare_sent role Window 4 k 0 xs refl are
sent_on_are role past (Did (Reset k)) xs answered are = bare_sent role Window 8 k 0 xs refl are
sent_on_are role past (Did (Act.GoAway code)) xs answered are = bare_sent role GoAway 0 0 code xs refl are

sent_are : (role : Role) (past : List Item) → AreAnswered role past → AreSent role (sent role past)
sent_are role [] answered = tt
sent_are role (x ∷ past) answered = sent_on_are role past x (sent role past) answered (sent_are role past (past_answered role x past answered))

older_sent : (role : Role) (newer : List Arrival) (x : Arrival) (older : List Arrival) → AreSent role (newer ++ x ∷ older) → IsSent role x
older_sent role [] x older are = are.0
older_sent role (y ∷ newer) x older are = older_sent role newer x older are.1

pub sent_one : (role : Role) (past : List Item) (newer : List Arrival) (x : Arrival) (older : List Arrival) → AreAnswered role past → sent role past ≡ newer ++ x ∷ older → IsSent role x
sent_one role past newer x older answered split = older_sent role newer x older (subst (AreSent role) split (sent_are role past answered))
