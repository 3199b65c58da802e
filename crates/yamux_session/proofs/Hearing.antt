-- The events between two places of a session tell what became of each stream.
use Rattle.std.proofs.Common.{◌≡◌, ℕ, ◌==◌, Bool, true, false, ◌&&◌, ◌||◌, not, cond, nat_lt, List, [], ◌∷◌, ◌++◌, filter, Option, Some, None, refl, sym, ap, ◌∙◌, subst, append_assoc}
use Rattle.std.specs.Prelude.{map}
use Rattle.std.specs.List.{concat}
use Rattle.std.proofs.lemmas.List.{append-nil, append_cancel_left}
use Rattle.std.proofs.lemmas.Bool.{eqb-true, eq-eqb}
use Rattle.yamux_frames.specs.declared.header.Header.{Header}
use Rattle.yamux_frames.specs.Frames.{Arrival}
use Rattle.yamux_frames.specs.Frames.Arrival.{Head, Byte, Tail, Garbled}
use Rattle.yamux_session.specs.declared.event.Role.{Role}
use Rattle.yamux_session.specs.declared.event.Fault.{Fault}
use Rattle.yamux_session.specs.History.{Item, Act, syn, ack, rst, fin, is_of_stream, is_own, is_go_away, is_update}
use Rattle.yamux_session.specs.History.Item.{Came, Did}
use Rattle.yamux_session.specs.History.Act.{Start, Write, Taken, Close, Reset}
use Rattle.yamux_session.specs.Openings.{live, is_live, contains, opens, finished, closed, reading, is_let_in, local_go_away, head_belongs, byte_belongs, is_reading, tail_ends, tail_finishes, ends, opened_by, finishes, closes}
use Rattle.yamux_session.specs.Windows.{accepted}
use Rattle.yamux_session.specs.Faults.{HasNoFault, fault_at}
use Rattle.yamux_session.specs.Events.{Told, when, head_events, tail_events, taker, byte_told, events, events_at, events_unless}
use Rattle.yamux_session.specs.Data.{inbound, written}
use Rattle.yamux_session.specs.Seen.{Seen, seen, just_opened, hears, all_heard, AgreesOn, TellsFrom, EventsTell, ActsDo}
use Rattle.yamux_session.proofs.Lists.{contains_append, contains_filter}

pub all_both : (n : ℕ) (s : Seen) (xs ys : List Told) → all_heard n s (xs ++ ys) ≡ all_heard n (all_heard n s xs) ys
all_both n s [] ys = refl
all_both n s (x ∷ xs) ys = all_both n (hears n s x) xs ys

-- ---- a stream that is live and whose other direction has ended isn't closed

stays_or : (live opens ends : Bool) → (not ends && live) || opens ≡ true → opens ≡ false → (ends ≡ false) × (live ≡ true)
stays_or true false false e o = (refl, refl)
stays_or true false true e o = absurd (cc e)
stays_or false false false e o = absurd (cc e)
stays_or false false true e o = absurd (cc e)
stays_or live true ends e o = absurd (cc o)

pub live_after : (role : Role) (past : List Item) (x : Item) (n : ℕ) → is_live role (x ∷ past) n
    ≡ (not (ends (reading role past) (finished role past n) (closed role past n) x n) && is_live role past n) || opens role past x n
live_after role past x n =
    let stays : ℕ → Bool = λ k. not (ends (reading role past) (finished role past k) (closed role past k) x k) in
    contains_append (filter stays (live role past)) (opened_by role (live role past) (local_go_away past) x) n
    ∙ ap (λ b. b || opens role past x n) (contains_filter stays (live role past) n)

-- of FIN and this end's close the second ends the stream
tail_case : (same reset fin closed finished : Bool) → same && (reset || fin && closed) ≡ false → finished && closed ≡ false
    → (same && fin || finished) && closed ≡ false
tail_case false reset fin closed finished e before = before
tail_case true true fin closed finished e before = absurd (cc e)
tail_case true false true true finished e before = absurd (cc e)
tail_case true false true false true e before = refl
tail_case true false true false false e before = refl
tail_case true false false closed finished e before = before

close_case : (same finished closed : Bool) → same && finished ≡ false → finished && closed ≡ false → finished && (same || closed) ≡ false
close_case false finished closed e before = before
close_case true true closed e before = absurd (cc e)
close_case true false closed e before = refl

both_after : (role : Role) (past : List Item) (x : Item) (n : ℕ) → ends (reading role past) (finished role past n) (closed role past n) x n ≡ false
    → finished role past n && closed role past n ≡ false
    → (finishes (reading role past) x n || finished role past n) && (closes x n || closed role past n) ≡ false
both_after role past (Came (Head h)) n e before = before
both_after role past (Came (Byte b)) n e before = before
both_after role past (Came (Garbled bytes)) n e before = before
both_after role past (Came Tail) n e before = by (reading role past) e
  where
    by : (r : Option Header) → tail_ends r (closed role past n) n ≡ false → (tail_finishes r n || finished role past n) && closed role past n ≡ false
    by None e = before
    by (Some h) e = tail_case (h.stream == n) (rst h) (fin h) (closed role past n) (finished role past n) e before
both_after role past (Did (Close m)) n e before = close_case (m == n) (finished role past n) (closed role past n) e before
both_after role past (Did (Reset m)) n e before = before
both_after role past (Did (Start m)) n e before = before
both_after role past (Did (Write m ps)) n e before = before
both_after role past (Did (Taken m k)) n e before = before
both_after role past (Did (Act.GoAway code)) n e before = before

pub not_both : (role : Role) (past : List Item) (n : ℕ) → is_live role past n ≡ true → finished role past n && closed role past n ≡ false
not_both role [] n on = refl
not_both role (x ∷ past) n on = once (λ was. not_both role past n was) (opens role past x n) refl
  where
    both : Bool → Bool
    both o = (not o && (finishes (reading role past) x n || finished role past n)) && (not o && (closes x n || closed role past n))

    once : (is_live role past n ≡ true → finished role past n && closed role past n ≡ false) → (o : Bool) → opens role past x n ≡ o
        → finished role (x ∷ past) n && closed role (x ∷ past) n ≡ false
    once before true e = ap both e
    once before false e =
        let end : Bool = ends (reading role past) (finished role past n) (closed role past n) x n in
        let was = stays_or (is_live role past n) (opens role past x n) end (sym (live_after role past x n) ∙ on) e in
        ap both e ∙ both_after role past x n was.0 (before was.1)

-- ---- one arrival

pub or_none : (b : Bool) → b || false ≡ b
or_none true = refl
or_none false = refl

or_true : (b : Bool) → b || true ≡ true
or_true true = refl
or_true false = refl

pub and_false : (b : Bool) → b && false ≡ false
and_false true = refl
and_false false = refl

same_fields : (a b : Seen) → a.live ≡ b.live → a.closed ≡ b.closed → a.ended ≡ b.ended → a.came ≡ b.came → a.sent ≡ b.sent → AgreesOn a b
same_fields a b l c f g w = record { live = l; closed = c; came = g; sent = w; ended = λ h. f ∙ h; live_ended = λ h. f }

heard_left : (n : ℕ) (s : Seen) (b : Bool) (code : ℕ) → all_heard n s (when b (Told.GoAway code)) ≡ s
heard_left n s true code = refl
heard_left n s false code = refl

heard_accepted : (n : ℕ) (s : Seen) (b : Bool) (m : ℕ) → all_heard n s (when b (Told.Accepted m)) ≡ s
heard_accepted n s true m = refl
heard_accepted n s false m = refl

heard_credit : (n : ℕ) (s : Seen) (b : Bool) (m : ℕ) → all_heard n s (when b (Told.Credit m)) ≡ s
heard_credit n s true m = refl
heard_credit n s false m = refl

heard_opened : (n m : ℕ) (s : Seen) (lets : Bool)
    → all_heard n s (when (contains (cond lets (m ∷ []) []) m) (Told.Opened m)) ≡ cond (contains (cond lets (m ∷ []) []) n) just_opened s
heard_opened n m s false = refl
heard_opened n m s true =
    ap (λ b. all_heard n s (when (b || false) (Told.Opened m))) (eq-eqb m m refl) ∙ ap (λ b. cond b just_opened s) (sym (or_none (m == n)))

heard_head : (role : Role) (past : List Item) (h : Header) (n : ℕ) (s : Seen)
    → all_heard n s (head_events role past h) ≡ cond (opens role past (Came (Head h)) n) just_opened s
heard_head role past h n s =
    let accepts : Bool = head_belongs role past h h.stream && ack h && is_own role h.stream && not (accepted role past h.stream) in
    let credits : Bool = head_belongs role past h h.stream && is_update h.kind && nat_lt 0 h.length in
    let left : List Told = when (is_go_away h.kind) (Told.GoAway h.length) in
    let opened : List Told = when (opens role past (Came (Head h)) h.stream) (Told.Opened h.stream) in
    let accepted : List Told = when accepts (Told.Accepted h.stream) in
    all_both n s ((left ++ opened) ++ accepted) (when credits (Told.Credit h.stream))
    ∙ heard_credit n (all_heard n s ((left ++ opened) ++ accepted)) credits h.stream
    ∙ all_both n s (left ++ opened) accepted
    ∙ heard_accepted n (all_heard n s (left ++ opened)) accepts h.stream
    ∙ all_both n s left opened
    ∙ ap (λ (t : Seen). all_heard n t opened) (heard_left n s (is_go_away h.kind) h.length)
    ∙ heard_opened n h.stream s (is_of_stream h && syn h && is_let_in role (live role past) (local_go_away past) h)

head_as : (s : Seen) (o l : Bool) → l ≡ s.live || o
    → AgreesOn (record { live = l; closed = not o && s.closed; ended = not o && s.ended; came = cond o [] s.came ++ []; sent = cond o [] s.sent ++ [] })
    (cond o just_opened s)
head_as s true l e = same_fields _ just_opened (e ∙ or_true s.live) refl refl refl refl
head_as s false l e = same_fields _ s (e ∙ or_none s.live) refl refl (append-nil s.came) (append-nil s.sent)

head_step : (role : Role) (past : List Item) (h : Header) (n : ℕ)
    → AgreesOn (seen role (Came (Head h) ∷ past) n) (all_heard n (seen role past n) (head_events role past h))
head_step role past h n =
    subst (λ (t : Seen). AgreesOn (seen role (Came (Head h) ∷ past) n) t) (sym (heard_head role past h n (seen role past n)))
    (head_as (seen role past n) (opens role past (Came (Head h)) n) (is_live role (Came (Head h) ∷ past) n) (live_after role past (Came (Head h)) n))

-- ---- a byte

-- whether a byte is taken by the stream
abbrev pub takes : Option ℕ → ℕ → Bool
takes None n = false
takes (Some m) n = m == n

takes_if : (b : Bool) (m n : ℕ) → takes (cond b (Some m) None) n ≡ b && (m == n)
takes_if true m n = refl
takes_if false m n = refl

and_true : (b : Bool) → b && true ≡ b
and_true true = refl
and_true false = refl

pub belongs_to : (role : Role) (past : List Item) (n : ℕ) (r : Option Header) → reading role past ≡ r
    → byte_belongs role past n ≡ takes (taker role past r) n
belongs_to role past n None read = ap (λ q. (is_reading q n && is_live role past n) && not (finished role past n)) read
belongs_to role past n (Some h) read = by (h.stream == n) refl ∙ sym (takes_if (byte_belongs role past h.stream) h.stream n)
  where
    by : (same : Bool) → (h.stream == n) ≡ same → byte_belongs role past n ≡ byte_belongs role past h.stream && (h.stream == n)
    by true is =
        ap (byte_belongs role past) (sym (eqb-true h.stream n is)) ∙ sym (and_true (byte_belongs role past h.stream))
        ∙ ap (λ b. byte_belongs role past h.stream && b) (sym is)
    by false is =
        ap (λ q. (is_reading q n && is_live role past n) && not (finished role past n)) read
        ∙ ap (λ b. (b && is_live role past n) && not (finished role past n)) is
        ∙ sym (and_false (byte_belongs role past h.stream)) ∙ ap (λ b. byte_belongs role past h.stream && b) (sym is)

byte_as : (n b : ℕ) (s : Seen) (o : Option ℕ) (l : Bool) (c : List ℕ) → l ≡ s.live → c ≡ s.came ++ when (takes o n) b
    → AgreesOn (record { live = l; closed = s.closed; ended = s.ended; came = c; sent = s.sent ++ [] }) (all_heard n s (byte_told o b))
byte_as n b s None l c on came = same_fields _ s on refl refl (came ∙ append-nil s.came) (append-nil s.sent)
byte_as n b s (Some m) l c on came = by (m == n) came
  where
    by : (same : Bool) → c ≡ s.came ++ when same b
        → AgreesOn (record { live = l; closed = s.closed; ended = s.ended; came = c; sent = s.sent ++ [] })
        (cond same (record s { came = s.came ++ b ∷ [] }) s)
    by true is = same_fields _ (record s { came = s.came ++ b ∷ [] }) on refl refl is (append-nil s.sent)
    by false is = same_fields _ s on refl refl (is ∙ append-nil s.came) (append-nil s.sent)

byte_step : (role : Role) (past : List Item) (b n : ℕ)
    → AgreesOn (seen role (Came (Byte b) ∷ past) n) (all_heard n (seen role past n) (byte_told (taker role past (reading role past)) b))
byte_step role past b n =
    byte_as n b (seen role past n) (taker role past (reading role past)) (is_live role (Came (Byte b) ∷ past) n)
    (inbound role (Came (Byte b) ∷ past) n) (live_after role past (Came (Byte b)) n ∙ or_none (is_live role past n))
    (ap (λ c. inbound role past n ++ when c b) (belongs_to role past n (reading role past) refl))

-- ---- a tail

-- a stream that was reset, and one whose other end's direction has ended
abbrev was_reset : Seen → Seen
was_reset s = record s { live = false }

abbrev has_ended : Seen → Seen
has_ended s = record s { ended = true; live = s.live && not s.closed }

-- what the tail of a frame for a stream says of it
abbrev tail_says : Bool → Bool → Bool → Seen → Seen
tail_says same reset ended s = cond reset (cond same (was_reset s) s) (cond ended (cond same (has_ended s) s) s)

heard_tail : (n m : ℕ) (s : Seen) (on ended reset : Bool)
    → all_heard n s (cond on (cond reset (Told.Reset m ∷ []) (when ended (Told.Ended m))) []) ≡ cond on (tail_says (m == n) reset ended s) s
heard_tail n m s false ended reset = refl
heard_tail n m s true ended true = refl
heard_tail n m s true true false = refl
heard_tail n m s true false false = refl

not_about : (s : Seen) (on ended reset : Bool) → cond on (tail_says false reset ended s) s ≡ s
not_about s false ended reset = refl
not_about s true ended true = refl
not_about s true true false = refl
not_about s true false false = refl

abbrev after_tail : Bool → Bool → Bool → Seen → Seen
after_tail same reset fin s = record {
  live = (not (same && (reset || fin && s.closed)) && s.live) || false;
  closed = s.closed;
  ended = same && fin || s.ended;
  came = s.came ++ [];
  sent = s.sent ++ [];
}

or_on : (a b : Bool) → b ≡ true → a || b ≡ true
or_on a b e = ap (λ c. a || c) e ∙ or_true a

tail_here : (reset fin l c f : Bool) (g w : List ℕ) → (l ≡ true → f && c ≡ false)
    → (let s : Seen = record { live = l; closed = c; ended = f; came = g; sent = w } in
    AgreesOn (after_tail true reset fin s) (cond l (tail_says true reset (fin && not f) s) s))
tail_here reset fin false c f g w once =
    let off : (not (reset || fin && c) && false) || false ≡ false =
    or_none (not (reset || fin && c) && false) ∙ and_false (not (reset || fin && c)) in
    record {
      live = off;
      closed = refl;
      came = append-nil g;
      sent = append-nil w;
      ended = λ e. or_on fin f e;
      live_ended = λ on. absurd (let e : false ≡ true = sym off ∙ on in cc e);
    }
tail_here true fin true c f g w once = record {
  live = refl;
  closed = refl;
  came = append-nil g;
  sent = append-nil w;
  ended = λ e. or_on fin f e;
  live_ended = λ on. absurd (cc on);
}
tail_here false true true true false g w once = same_fields _ _ refl refl refl (append-nil g) (append-nil w)
tail_here false true true false false g w once = same_fields _ _ refl refl refl (append-nil g) (append-nil w)
tail_here false true true true true g w once = absurd (let e = once refl in cc e)
tail_here false true true false true g w once = same_fields _ _ refl refl refl (append-nil g) (append-nil w)
tail_here false false true c f g w once = same_fields _ _ refl refl refl (append-nil g) (append-nil w)

tail_by : (n m : ℕ) (s : Seen) (reset fin on ended same : Bool) → (m == n) ≡ same → (same ≡ true → on ≡ s.live) → (same ≡ true → ended ≡ s.ended)
    → (s.live ≡ true → s.ended && s.closed ≡ false)
    → AgreesOn (after_tail same reset fin s) (all_heard n s (cond on (cond reset (Told.Reset m ∷ []) (when (fin && not ended) (Told.Ended m))) []))
tail_by n m s reset fin on ended false is l f once =
    subst (λ (t : Seen). AgreesOn (after_tail false reset fin s) t)
    (sym (heard_tail n m s on (fin && not ended) reset ∙ ap (λ b. cond on (tail_says b reset (fin && not ended) s) s) is
    ∙ not_about s on (fin && not ended) reset))
    (same_fields (after_tail false reset fin s) s (or_none s.live) refl refl (append-nil s.came) (append-nil s.sent))
tail_by n m s reset fin on ended true is l f once =
    subst (λ (t : Seen). AgreesOn (after_tail true reset fin s) t)
    (sym (heard_tail n m s on (fin && not ended) reset ∙ ap (λ b. cond on (tail_says b reset (fin && not ended) s) s) is
    ∙ ap (λ b. cond b (tail_says true reset (fin && not ended) s) s) (l refl)
    ∙ ap (λ b. cond s.live (tail_says true reset (fin && not b) s) s) (f refl)))
    (tail_here reset fin s.live s.closed s.ended s.came s.sent once)

abbrev tail_seen : Option Header → ℕ → Bool → Seen → Seen
tail_seen r n l s = record {
  live = l;
  closed = s.closed;
  ended = tail_finishes r n || s.ended;
  came = s.came ++ [];
  sent = s.sent ++ [];
}

tail_agrees : (role : Role) (past : List Item) (n : ℕ) (r : Option Header)
    → (let s : Seen = seen role past n in
    AgreesOn (tail_seen r n ((not (tail_ends r s.closed n) && s.live) || false) s) (all_heard n s (tail_events role past r)))
tail_agrees role past n None =
    same_fields _ (seen role past n) (or_none (is_live role past n)) refl refl (append-nil (inbound role past n)) (append-nil (written role past n))
tail_agrees role past n (Some h) =
    tail_by n h.stream (seen role past n) (rst h) (fin h) (is_live role past h.stream) (finished role past h.stream) (h.stream == n) refl
    (λ same. ap (is_live role past) (eqb-true h.stream n same)) (λ same. ap (finished role past) (eqb-true h.stream n same)) (not_both role past n)

tail_step : (role : Role) (past : List Item) (n : ℕ)
    → AgreesOn (seen role (Came Tail ∷ past) n) (all_heard n (seen role past n) (tail_events role past (reading role past)))
tail_step role past n =
    let told : Seen = all_heard n (seen role past n) (tail_events role past (reading role past)) in
    subst (λ (l : Bool). AgreesOn (tail_seen (reading role past) n l (seen role past n)) told) (sym (live_after role past (Came Tail) n))
    (tail_agrees role past n (reading role past))

-- ---- all arrivals

heard_on : (n : ℕ) (is heard : Seen) (t : Told) → AgreesOn is heard → AgreesOn (hears n is t) (hears n heard t)
heard_on n is heard (Told.Opened m) a = by (m == n)
  where
    by : (b : Bool) → AgreesOn (cond b just_opened is) (cond b just_opened heard)
    by true = same_fields just_opened just_opened refl refl refl refl refl
    by false = a
heard_on n is heard (Told.Payload m b) a = by (m == n)
  where
    by : (c : Bool) → AgreesOn (cond c (record is { came = is.came ++ b ∷ [] }) is) (cond c (record heard { came = heard.came ++ b ∷ [] }) heard)
    by true = record {
      live = a.live;
      closed = a.closed;
      came = ap (λ g. g ++ b ∷ []) a.came;
      sent = a.sent;
      ended = a.ended;
      live_ended = a.live_ended;
    }
    by false = a
heard_on n is heard (Told.Ended m) a = by (m == n)
  where
    by : (c : Bool) → AgreesOn (cond c (has_ended is) is) (cond c (has_ended heard) heard)
    by true = record {
      live = ap (λ l. l && not is.closed) a.live ∙ ap (λ c. heard.live && not c) a.closed;
      closed = a.closed;
      came = a.came;
      sent = a.sent;
      ended = λ e. refl;
      live_ended = λ on. refl;
    }
    by false = a
heard_on n is heard (Told.Reset m) a = by (m == n)
  where
    by : (c : Bool) → AgreesOn (cond c (was_reset is) is) (cond c (was_reset heard) heard)
    by true = record { live = refl; closed = a.closed; came = a.came; sent = a.sent; ended = a.ended; live_ended = λ on. absurd (cc on) }
    by false = a
heard_on n is heard (Told.Accepted m) a = a
heard_on n is heard (Told.Credit m) a = a
heard_on n is heard (Told.GoAway code) a = a
heard_on n is heard (Told.Fault fault) a = a

all_on : (n : ℕ) (is heard : Seen) (told : List Told) → AgreesOn is heard → AgreesOn (all_heard n is told) (all_heard n heard told)
all_on n is heard [] a = a
all_on n is heard (t ∷ told) a = all_on n (hears n is t) (hears n heard t) told (heard_on n is heard t a)

in_turn : (a b c : Seen) → AgreesOn a b → AgreesOn b c → AgreesOn a c
in_turn a b c f g = record {
  live = f.live ∙ g.live;
  closed = f.closed ∙ g.closed;
  came = f.came ∙ g.came;
  sent = f.sent ∙ g.sent;
  ended = λ h. f.ended (g.ended h);
  live_ended = λ on. f.live_ended on ∙ g.live_ended (sym f.live ∙ on);
}

pub heard_step : (role : Role) (past : List Item) (a : Arrival) (n : ℕ) → fault_at role past (Came a) ≡ None
    → AgreesOn (seen role (Came a ∷ past) n) (all_heard n (seen role past n) (events_at role past (Came a)))
heard_step role past (Head h) n good =
    subst (λ (f : Option Fault). AgreesOn (seen role (Came (Head h) ∷ past) n) (all_heard n (seen role past n) (events_unless f (head_events role past h))))
    (sym good) (head_step role past h n)
heard_step role past (Byte b) n good = byte_step role past b n
heard_step role past Tail n good = tail_step role past n
heard_step role past (Garbled bytes) n good = absurd (cc good)

abbrev pub told_by : Role → List Item → List Arrival → List Told
told_by role past [] = []
told_by role past (a ∷ came) = told_by role past came ++ events_at role (map Came came ++ past) (Came a)

events_by : (role : Role) (past : List Item) (came : List Arrival) → events role (map Came came ++ past) ≡ events role past ++ told_by role past came
events_by role past [] = sym (append-nil (events role past))
events_by role past (a ∷ came) =
    ap (λ t. t ++ events_at role (map Came came ++ past) (Came a)) (events_by role past came)
    ∙ append_assoc (events role past) (told_by role past came) (events_at role (map Came came ++ past) (Came a))

pub told_is : (role : Role) (past : List Item) (came : List Arrival) (told : List Told) → TellsFrom role past came told → told ≡ told_by role past came
told_is role past came told from =
    append_cancel_left (events role past) told (told_by role past came) (sym from.told_is ∙ events_by role past came)

pub agrees_by : (role : Role) (past : List Item) (came : List Arrival) (n : ℕ) → HasNoFault role (map Came came ++ past)
    → AgreesOn (seen role (map Came came ++ past) n) (all_heard n (seen role past n) (told_by role past came))
agrees_by role past [] n good = same_fields (seen role past n) (seen role past n) refl refl refl refl refl
agrees_by role past (a ∷ came) n good =
    let mid = map Came came ++ past in
    let before : Seen = all_heard n (seen role past n) (told_by role past came) in
    subst (λ (t : Seen). AgreesOn (seen role (Came a ∷ mid) n) t) (sym (all_both n (seen role past n) (told_by role past came) (events_at role mid (Came a))))
    (in_turn (seen role (Came a ∷ mid) n) (all_heard n (seen role mid n) (events_at role mid (Came a))) _ (heard_step role mid a n good.0)
    (all_on n (seen role mid n) before (events_at role mid (Came a)) (agrees_by role past came n good.1)))

pub events_tell : EventsTell
events_tell role past came told n from =
    subst (λ (t : List Told). AgreesOn (seen role (map Came came ++ past) n) (all_heard n (seen role past n) t))
    (sym (told_is role past came told from)) (agrees_by role past came n from.no_fault)

-- ---- this end's own acts

same_seen : (a b : Seen) → a.live ≡ b.live → a.closed ≡ b.closed → a.ended ≡ b.ended → a.came ≡ b.came → a.sent ≡ b.sent → a ≡ b
same_seen a b l c e g w =
    let at : Bool → Bool → Bool → List ℕ → List ℕ → Seen =
    λ l c e g w. record { live = l; closed = c; ended = e; came = g; sent = w } in
    ap (λ x. at x a.closed a.ended a.came a.sent) l ∙ ap (λ x. at b.live x a.ended a.came a.sent) c
    ∙ ap (λ x. at b.live b.closed x a.came a.sent) e ∙ ap (λ x. at b.live b.closed b.ended x a.sent) g
    ∙ ap (λ x. at b.live b.closed b.ended b.came x) w

starts : (role : Role) (past : List Item) (m n : ℕ) (same : Bool) → (m == n) ≡ same
    → seen role (Did (Start m) ∷ past) n ≡ cond same just_opened (seen role past n)
starts role past m n true is =
    same_seen (seen role (Did (Start m) ∷ past) n) just_opened
    (live_after role past (Did (Start m)) n ∙ ap (λ b. is_live role past n || (b || false)) is ∙ or_true (is_live role past n))
    (ap (λ b. not (b || false) && closed role past n) is) (ap (λ b. not (b || false) && finished role past n) is)
    (ap (λ b. cond (b || false) [] (inbound role past n) ++ []) is) (ap (λ b. cond (b || false) [] (written role past n) ++ []) is)
starts role past m n false is =
    same_seen (seen role (Did (Start m) ∷ past) n) (seen role past n)
    (live_after role past (Did (Start m)) n ∙ ap (λ b. is_live role past n || (b || false)) is ∙ or_none (is_live role past n))
    (ap (λ b. not (b || false) && closed role past n) is) (ap (λ b. not (b || false) && finished role past n) is)
    (ap (λ b. cond (b || false) [] (inbound role past n) ++ []) is ∙ append-nil (inbound role past n))
    (ap (λ b. cond (b || false) [] (written role past n) ++ []) is ∙ append-nil (written role past n))

-- an act that neither opens nor ends a stream
stays : (role : Role) (past : List Item) (act : Act) (n : ℕ) → opens role past (Did act) n ≡ false → ends (reading role past) (finished role past n) (closed role past n) (Did act) n ≡ false
    → is_live role past n ≡ is_live role (Did act ∷ past) n
stays role past act n o e =
    sym (live_after role past (Did act) n ∙ ap (λ b. (not b && is_live role past n) || opens role past (Did act) n) e
    ∙ ap (λ b. is_live role past n || b) o ∙ or_none (is_live role past n))

writes : (role : Role) (past : List Item) (m : ℕ) (pieces : List (List ℕ)) (n : ℕ) (same : Bool) → (m == n) ≡ same
    → seen role (Did (Write m pieces) ∷ past) n ≡ cond same (record (seen role past n) { sent = written role past n ++ concat pieces }) (seen role past n)
writes role past m pieces n true is =
    same_seen (seen role (Did (Write m pieces) ∷ past) n) (record (seen role past n) { sent = written role past n ++ concat pieces })
    (sym (stays role past (Write m pieces) n refl refl)) refl refl (append-nil (inbound role past n))
    (ap (λ b. written role past n ++ cond b (concat pieces) []) is)
writes role past m pieces n false is =
    same_seen (seen role (Did (Write m pieces) ∷ past) n) (seen role past n)
    (sym (stays role past (Write m pieces) n refl refl)) refl refl (append-nil (inbound role past n))
    (ap (λ b. written role past n ++ cond b (concat pieces) []) is ∙ append-nil (written role past n))

swap : (a b : Bool) → not a && b ≡ b && not a
swap true true = refl
swap true false = refl
swap false true = refl
swap false false = refl

closing : (role : Role) (past : List Item) (m n : ℕ) (same : Bool) → (m == n) ≡ same
    → seen role (Did (Close m) ∷ past) n
    ≡ cond same (record (seen role past n) { closed = true; live = is_live role past n && not (finished role past n) }) (seen role past n)
closing role past m n true is =
    same_seen (seen role (Did (Close m) ∷ past) n) (record (seen role past n) { closed = true; live = is_live role past n && not (finished role past n) })
    (live_after role past (Did (Close m)) n ∙ or_none (not ((m == n) && finished role past n) && is_live role past n)
    ∙ ap (λ b. not (b && finished role past n) && is_live role past n) is ∙ swap (finished role past n) (is_live role past n))
    (ap (λ b. b || closed role past n) is) refl (append-nil (inbound role past n)) (append-nil (written role past n))
closing role past m n false is =
    same_seen (seen role (Did (Close m) ∷ past) n) (seen role past n)
    (live_after role past (Did (Close m)) n ∙ or_none (not ((m == n) && finished role past n) && is_live role past n)
    ∙ ap (λ b. not (b && finished role past n) && is_live role past n) is)
    (ap (λ b. b || closed role past n) is) refl (append-nil (inbound role past n)) (append-nil (written role past n))

resets : (role : Role) (past : List Item) (m n : ℕ) (same : Bool) → (m == n) ≡ same
    → seen role (Did (Reset m) ∷ past) n ≡ cond same (was_reset (seen role past n)) (seen role past n)
resets role past m n true is =
    same_seen (seen role (Did (Reset m) ∷ past) n) (was_reset (seen role past n))
    (live_after role past (Did (Reset m)) n ∙ ap (λ b. (not b && is_live role past n) || false) is)
    refl refl (append-nil (inbound role past n)) (append-nil (written role past n))
resets role past m n false is =
    same_seen (seen role (Did (Reset m) ∷ past) n) (seen role past n)
    (live_after role past (Did (Reset m)) n ∙ ap (λ b. (not b && is_live role past n) || false) is ∙ or_none (is_live role past n))
    refl refl (append-nil (inbound role past n)) (append-nil (written role past n))

quiet : (role : Role) (past : List Item) (act : Act) (n : ℕ) → inbound role (Did act ∷ past) n ≡ inbound role past n ++ []
    → written role (Did act ∷ past) n ≡ written role past n ++ [] → is_live role (Did act ∷ past) n ≡ is_live role past n
    → closed role (Did act ∷ past) n ≡ closed role past n → finished role (Did act ∷ past) n ≡ finished role past n
    → seen role (Did act ∷ past) n ≡ seen role past n
quiet role past act n g w l c e =
    same_seen (seen role (Did act ∷ past) n) (seen role past n) l c e (g ∙ append-nil (inbound role past n)) (w ∙ append-nil (written role past n))

pub acts_do : ActsDo
acts_do role past (Start m) n = starts role past m n (m == n) refl
acts_do role past (Write m pieces) n = writes role past m pieces n (m == n) refl
acts_do role past (Taken m count) n = quiet role past (Taken m count) n refl refl (sym (stays role past (Taken m count) n refl refl)) refl refl
acts_do role past (Close m) n = closing role past m n (m == n) refl
acts_do role past (Reset m) n = resets role past m n (m == n) refl
acts_do role past (Act.GoAway code) n = quiet role past (Act.GoAway code) n refl refl (sym (stays role past (Act.GoAway code) n refl refl)) refl refl
