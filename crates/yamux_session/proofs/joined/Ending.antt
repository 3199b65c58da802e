-- Once the end of a stream was told, all that was let through has come.
use Rattle.std.proofs.Common.{◌≡◌, ℕ, ◌<◌, ◌≤◌, Bool, true, false, not, ◌||◌, ◌&&◌, ◌==◌, nat_lt, cond, List, [], ◌∷◌, ◌++◌, Option, Some, None, refl, sym, ap, ◌∙◌, subst, arith}
use Rattle.std.specs.List.{list_any}
use Rattle.std.proofs.lemmas.List.{append-nil}
use Rattle.std.proofs.lemmas.List.Folds.{list_any-append}
use Rattle.std.proofs.lemmas.Bool.{eqb-true, eq-eqb}
use Rattle.yamux_frames.specs.declared.header.Header.{Header}
use Rattle.yamux_frames.specs.Frames.{Arrival, AreFrames}
use Rattle.yamux_frames.specs.Frames.Arrival.{Head, Byte, Tail, Garbled}
use Rattle.yamux_session.specs.declared.event.Role.{Role}
use Rattle.yamux_session.specs.declared.event.Role.TheVariants.{Client, Server}
use Rattle.yamux_session.specs.declared.event.Fault.{Fault}
use Rattle.yamux_session.specs.History.{Item, arrivals, ack, fin, rst, is_update, is_go_away, is_of_stream, is_own}
use Rattle.yamux_session.specs.History.Item.{Came, Did}
use Rattle.yamux_session.specs.Openings.{is_live, opens, reading, is_reading, finished, finishes, tail_finishes, head_belongs, byte_belongs}
use Rattle.yamux_session.specs.Windows.{accepted}
use Rattle.yamux_session.specs.Faults.{HasNoFault, fault_at}
use Rattle.yamux_session.specs.Events.{Told, when, events, events_at, events_unless, head_events, tail_events, byte_told, taker}
use Rattle.yamux_session.specs.Data.{inbound}
use Rattle.yamux_session.specs.Joined.{IsWholeAtEnd, AllBeforeTheEnd}
use Rattle.yamux_session.proofs.Lists.{and_parts}
use Rattle.yamux_session.proofs.Keeping.{and_false}
use Rattle.yamux_session.proofs.Live.{or_none_true}
use Rattle.yamux_session.proofs.Untaken.{frames_before}
use Rattle.yamux_session.proofs.joined.Totals.{total, total_both}
use Rattle.yamux_session.proofs.joined.WholeFrames.{sent_frames}
use Rattle.yamux_session.proofs.joined.InTurn.{head_of, fin_of, AreInTurn, sent_turn}
use Rattle.yamux_session.proofs.joined.Coming.{NoneBefore, head_at, past_turn, finished_came}
use Rattle.yamux_session.proofs.joined.Delivered.{bytes_of, sent_written, data_open, delivered}
use Rattle.yamux_session.proofs.joined.Joining.{Linked, linked, turned, opened_once, came_turn}

-- ---- where an end is told

abbrev is_end : ℕ → Told → Bool
is_end n (Told.Ended m) = m == n
is_end n x = false

or_true : (b : Bool) → b || true ≡ true
or_true true = refl
or_true false = refl

is_told : (n : ℕ) (told before after : List Told) → told ≡ before ++ Told.Ended n ∷ after → list_any (is_end n) told ≡ true
is_told n told before after e =
    ap (list_any (is_end n)) e ∙ list_any-append (is_end n) before (Told.Ended n ∷ after)
    ∙ ap (λ b. list_any (is_end n) before || (b || list_any (is_end n) after)) (eq-eqb n n refl) ∙ or_true (list_any (is_end n) before)

none_when : (n : ℕ) (b : Bool) (told : Told) → is_end n told ≡ false → list_any (is_end n) (when b told) ≡ false
none_when n true told none = ap (λ b. b || false) none
none_when n false told none = refl

none_both : (n : ℕ) (xs ys : List Told) → list_any (is_end n) xs ≡ false → list_any (is_end n) ys ≡ false → list_any (is_end n) (xs ++ ys) ≡ false
none_both n xs ys x y = list_any-append (is_end n) xs ys ∙ ap (λ b. b || list_any (is_end n) ys) x ∙ y

head_tells_none : (role : Role) (past : List Item) (h : Header) (n : ℕ) → list_any (is_end n) (head_events role past h) ≡ false
head_tells_none role past h n =
    let left : List Told = when (is_go_away h.kind) (Told.GoAway h.length) in
    let opened : List Told = when (opens role past (Came (Head h)) h.stream) (Told.Opened h.stream) in
    let accepts : Bool = head_belongs role past h h.stream && ack h && is_own role h.stream && not (accepted role past h.stream) in
    none_both n ((left ++ opened) ++ when accepts (Told.Accepted h.stream)) _
    (none_both n (left ++ opened) _ (none_both n left opened (none_when n (is_go_away h.kind) (Told.GoAway h.length) refl) (none_when n (opens role past (Came (Head h)) h.stream) (Told.Opened h.stream) refl))
    (none_when n accepts (Told.Accepted h.stream) refl))
    (none_when n (head_belongs role past h h.stream && is_update h.kind && nat_lt 0 h.length) (Told.Credit h.stream) refl)

none_unless : (n : ℕ) (fault : Option Fault) (told : List Told) → list_any (is_end n) told ≡ false → list_any (is_end n) (events_unless fault told) ≡ false
none_unless n (Some fault) told none = refl
none_unless n None told none = none

byte_tells_none : (n b : ℕ) (stream : Option ℕ) → list_any (is_end n) (byte_told stream b) ≡ false
byte_tells_none n b (Some stream) = refl
byte_tells_none n b None = refl

-- an end that is told is that of a live stream, which its FIN finishes
told_if : (n m : ℕ) (live reset fins : Bool) → list_any (is_end n) (cond live (cond reset (Told.Reset m ∷ []) (when fins (Told.Ended m))) []) ≡ true → (live ≡ true) × (fins ≡ true) × ((m == n) ≡ true)
told_if n m true true fins is = absurd cc
told_if n m true false true is = (refl, refl, or_none_true (m == n) is)
told_if n m true false false is = absurd cc
told_if n m false reset fins is = absurd cc

tail_told_end : (role : Role) (past : List Item) (n : ℕ) (r : Option Header) → reading role past ≡ r → list_any (is_end n) (tail_events role past r) ≡ true
    → (is_live role past n ≡ true) × (tail_finishes (reading role past) n ≡ true)
tail_told_end role past n None e is = absurd cc
tail_told_end role past n (Some h) e is =
    let parts = told_if n h.stream (is_live role past h.stream) (rst h) (fin h && not (finished role past h.stream)) is in (
      ap (is_live role past) (sym (eqb-true h.stream n parts.2)) ∙ parts.0,
      ap (λ r. tail_finishes r n) e ∙ ap (λ b. b && fin h) parts.2 ∙ (and_parts (fin h) (not (finished role past h.stream)) parts.1).0,
    )

told_end : (role : Role) (past : List Item) (x : Item) (n : ℕ) → list_any (is_end n) (events_at role past x) ≡ true → (is_live role past n ≡ true) × (finishes (reading role past) x n ≡ true)
told_end role past (Came Tail) n is = tail_told_end role past n (reading role past) refl is
told_end role past (Came (Head h)) n is =
    absurd (let e : true ≡ false = sym is ∙ none_unless n (fault_at role past (Came (Head h))) (head_events role past h) (head_tells_none role past h n) in cc)
told_end role past (Came (Byte b)) n is = absurd (let e : true ≡ false = sym is ∙ byte_tells_none n b (taker role past (reading role past)) in cc)
told_end role past (Came (Garbled bytes)) n is = absurd cc
told_end role past (Did act) n is = absurd cc

-- ---- nothing comes behind it

-- its direction has ended, and all of its data that came arrived
record IsOver (role : Role) (n : ℕ) (past : List Item) : Type 0 where
  over : finished role past n ≡ true
  whole : inbound role past n ≡ bytes_of n (arrivals past)

fins_are_heads : (n : ℕ) (xs : List Arrival) → total (fin_of n) xs ≤ total (head_of n) xs
fins_are_heads n [] = omega arith
fins_are_heads n (Head h ∷ xs) = let rest = fins_are_heads n xs in let here = by (h.stream == n) (is_of_stream h) (fin h) in omega arith
  where
    by : (s o f : Bool) → (let fin : ℕ = cond (s && (o && f)) 1 0 in fin ≤ cond (s && o) 1 0)
    by true true true = omega arith
    by true true false = omega arith
    by true false f = omega arith
    by false o f = omega arith
fins_are_heads n (Byte b ∷ xs) = let rest = fins_are_heads n xs in omega arith
fins_are_heads n (Tail ∷ xs) = let rest = fins_are_heads n xs in omega arith
fins_are_heads n (Garbled bytes ∷ xs) = let rest = fins_are_heads n xs in omega arith

-- a stream that has ended isn't opened again
not_again : (role : Role) (past : List Item) (x : Item) (n : ℕ) (b : Bool) → opens role past x n ≡ b → NoneBefore role n (x ∷ past) → finished role past n ≡ true → opens role past x n ≡ false
not_again role past x n true is none over =
    absurd (let zero = none.0 is in let came = finished_came role past n over in let less = fins_are_heads n (arrivals past) in omega arith)
not_again role past x n false is none over = is

no_byte : (role : Role) (past : List Item) (b n : ℕ) → finished role past n ≡ true → when (byte_belongs role past n) b ≡ []
no_byte role past b n over =
    ap (λ f. when ((is_reading (reading role past) n && is_live role past n) && not f) b) over ∙ ap (λ f. when f b) (and_false (is_reading (reading role past) n && is_live role past n))

no_byte_of : (n b : ℕ) (xs : List Arrival) (c : Bool) → is_reading (head_at xs) n ≡ c → AreFrames (Byte b ∷ xs) → AreInTurn xs → 0 < total (fin_of n) xs → cond (is_reading (head_at xs) n) (b ∷ []) [] ≡ []
no_byte_of n b xs true is frames turn came = absurd (let none = data_open n xs turn frames.0 is in omega arith)
no_byte_of n b xs false is frames turn came = ap (λ t. cond t (b ∷ []) []) is

still_over : (role : Role) (past : List Item) (x : Item) (n : ℕ) → NoneBefore role n (x ∷ past) → AreFrames (arrivals (x ∷ past)) → AreInTurn (arrivals past) → IsOver role n past → IsOver role n (x ∷ past)
still_over role past x n none frames turn before = record {
  over = ap (λ b. not b && (finishes (reading role past) x n || finished role past n)) shut ∙ ap (λ b. finishes (reading role past) x n || b) before.over ∙ or_true (finishes (reading role past) x n);
  whole = same x frames shut;
}
  where
    shut : opens role past x n ≡ false
    shut = not_again role past x n (opens role past x n) refl none before.over

    kept : (b : Bool) → b ≡ false → cond b [] (inbound role past n) ++ [] ≡ bytes_of n (arrivals past)
    kept b is = append-nil (cond b [] (inbound role past n)) ∙ ap (λ c. cond c [] (inbound role past n)) is ∙ before.whole

    same : (x : Item) → AreFrames (arrivals (x ∷ past)) → opens role past x n ≡ false → inbound role (x ∷ past) n ≡ bytes_of n (arrivals (x ∷ past))
    same (Came (Byte b)) frames shut =
        ap (λ (t : List ℕ). inbound role past n ++ t) (no_byte role past b n before.over) ∙ append-nil (inbound role past n) ∙ before.whole
        ∙ sym (append-nil (bytes_of n (arrivals past)))
        ∙ ap (λ (t : List ℕ). bytes_of n (arrivals past) ++ t) (sym (no_byte_of n b (arrivals past) (is_reading (head_at (arrivals past)) n) refl frames turn (finished_came role past n before.over)))
    same (Came (Head h)) frames shut = kept (opens role past (Came (Head h)) n) shut
    same (Came Tail) frames shut = kept false refl
    same (Came (Garbled bytes)) frames shut = kept false refl
    same (Did act) frames shut = kept (opens role past (Did act) n) shut

now_over : (role : Role) (past : List Item) (x : Item) (n : ℕ) → finishes (reading role past) x n ≡ true → inbound role past n ≡ bytes_of n (arrivals past) → IsOver role n (x ∷ past)
now_over role past (Came Tail) n is whole = record {
  over = ap (λ b. b || finished role past n) is;
  whole = append-nil (inbound role past n) ∙ whole;
}
now_over role past (Came (Head h)) n is whole = absurd cc
now_over role past (Came (Byte b)) n is whole = absurd cc
now_over role past (Came (Garbled bytes)) n is whole = absurd cc
now_over role past (Did act) n is whole = absurd cc

over_if : (role : Role) (past : List Item) (x : Item) (n : ℕ) (b : Bool) → NoneBefore role n (x ∷ past) → AreFrames (arrivals (x ∷ past)) → AreInTurn (arrivals past)
    → (list_any (is_end n) (events role past) ≡ true → IsOver role n past) → (is_live role past n ≡ true → inbound role past n ≡ bytes_of n (arrivals past))
    → list_any (is_end n) (events role past) ≡ b → list_any (is_end n) (events role past) || list_any (is_end n) (events_at role past x) ≡ true → IsOver role n (x ∷ past)
over_if role past x n true none frames turn over whole before told = still_over role past x n none frames turn (over before)
over_if role past x n false none frames turn over whole before told =
    let here = told_end role past x n (sym (ap (λ b. b || list_any (is_end n) (events_at role past x)) before) ∙ told) in
    now_over role past x n here.1 (whole here.0)

told_over : (role : Role) (past : List Item) (n : ℕ) → HasNoFault role past → NoneBefore role n past → AreFrames (arrivals past) → AreInTurn (arrivals past) → list_any (is_end n) (events role past) ≡ true → IsOver role n past
told_over role [] n good none frames turn told = absurd cc
told_over role (x ∷ past) n good none frames turn told =
    let older = frames_before x past frames in
    let before = past_turn x past turn in
    over_if role past x n (list_any (is_end n) (events role past)) none frames before
    (told_over role past n good.1 none.1 older before) (delivered role past n good.1 none.1 older before).whole refl
    (sym (list_any-append (is_end n) (events role past) (events_at role past x)) ∙ told)

-- and no data of it is on its way
no_more_bytes : (n : ℕ) (newer older : List Arrival) → AreFrames (newer ++ older) → AreInTurn (newer ++ older) → 0 < total (fin_of n) older → bytes_of n (newer ++ older) ≡ bytes_of n older
no_more_bytes n [] older frames turn came = refl
no_more_bytes n (Byte b ∷ newer) older frames turn came =
    let all = total_both (fin_of n) newer older in
    ap (λ (t : List ℕ). bytes_of n (newer ++ older) ++ t) (no_byte_of n b (newer ++ older) (is_reading (head_at (newer ++ older)) n) refl frames turn.1 (omega arith))
    ∙ append-nil (bytes_of n (newer ++ older)) ∙ no_more_bytes n newer older frames.1 turn.1 came
no_more_bytes n (Head h ∷ newer) older frames turn came = no_more_bytes n newer older frames.2 turn.1 came
no_more_bytes n (Tail ∷ newer) older frames turn came = no_more_bytes n newer older frames.2 turn.1 came
no_more_bytes n (Garbled bytes ∷ newer) older frames turn came = no_more_bytes n newer older frames.2 turn.1 came

whole_at_end : (p q : Role) (far near : List Item) → Linked p q far near → IsWholeAtEnd p q far near
whole_at_end p q far near l n before after e =
    let once = opened_once p q far near l in
    let over = told_over q near n l.q_good (l.q_none n) l.q_frames (came_turn p q far near l) (is_told n (events q near) before after e) in
    over.whole
    ∙ sym (no_more_bytes n l.way.0 (arrivals near) (subst AreFrames l.way.1 (sent_frames p far l.p_answered l.p_good l.p_frames).0)
    (subst AreInTurn l.way.1 (sent_turn p far l.p_answered l.p_good once)) (finished_came q near n over.over))
    ∙ ap (bytes_of n) (sym l.way.1)
    ∙ sent_written p far n l.p_answered (once n)

pub all_before_the_end : AllBeforeTheEnd
all_before_the_end client server joined =
    let l = linked client server joined in
    (whole_at_end Client Server client.items server.items l, whole_at_end Server Client server.items client.items (turned Client Server client.items server.items l))
