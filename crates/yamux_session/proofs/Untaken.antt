-- How much arrived and wasn't taken. Each list without a fault has rows, though no table stands.
use Rattle.std.proofs.Common.{◌≡◌, ℕ, ◌+◌, ◌-◌, ◌≤◌, Bool, true, false, ◌&&◌, not, ◌==◌, cond, List, [], ◌∷◌, length, Option, Some, None, refl, sym, ap, ◌∙◌, subst, arith}
use Rattle.std.specs.Prelude.{nat_le, sum_by}
use Rattle.std.proofs.lemmas.Bool.{eqb-true}
use Rattle.yamux_frames.specs.Frames.{AreFrames}
use Rattle.yamux_frames.specs.Frames.Arrival.{Head, Byte, Tail, Garbled}
use Rattle.yamux_session.specs.declared.event.Role.{Role}
use Rattle.yamux_session.specs.declared.event.ActRefused.TheVariants.{NoStream, Ended}
use Rattle.yamux_session.specs.declared.streams.Row.{Row}
use Rattle.yamux_session.specs.Table.{opened}
use Rattle.yamux_session.specs.History.{Item, Act, arrivals}
use Rattle.yamux_session.specs.History.Item.{Came, Did}
use Rattle.yamux_session.specs.History.Act.{Start, Write, Taken, Close, Reset}
use Rattle.yamux_session.specs.Openings.{live, is_live, contains, reading, is_reading, finished, closed, opens}
use Rattle.yamux_session.specs.Windows.{since_opening, arrived_length, taken_length, given_of, credit, untaken}
use Rattle.yamux_session.specs.Acts.{AreAnswered, IsAnswered}
use Rattle.yamux_session.specs.Faults.{HasNoFault}
use Rattle.yamux_session.specs.Keeps.{IsRowAt}
use Rattle.yamux_session.specs.Limits.{UntakenLimit}
use Rattle.yamux_frames.proofs.Front.{between_none}
use Rattle.yamux_session.proofs.Lists.{one_if}
use Rattle.yamux_session.proofs.Live.{past_answered, unread}
use Rattle.yamux_session.proofs.Refusals.{credit_is, untaken_is}
use Rattle.yamux_session.proofs.Keeping.{acts_on, after, apart, quiet, first_row, start_live, here_after, other_after, not_here, still_there, close_ends, close_stays, reset_ends, closing, writing, taking}
use Rattle.yamux_session.proofs.Arriving.{row_stays}
use Rattle.yamux_session.proofs.HeadLemmas.{head_row}
use Rattle.yamux_session.proofs.Tails.{tail_row}

-- ---- an act that is about the stream

pub live_unless : (b c : Bool) → cond b (cond c (Some Ended) None) (Some NoStream) ≡ None → b ≡ true
live_unless true c e = refl
live_unless false c e = absurd cc

pub live_if : (b : Bool) → cond b None (Some NoStream) ≡ None → b ≡ true
live_if true e = refl
live_if false e = absurd cc

pub small_given : (f : Bool) (amount : ℕ) → given_of f amount ≤ amount
small_given f amount = by (not f && nat_le 131072 amount)
  where
    by : (b : Bool) → cond b amount 0 ≤ amount
    by true = omega arith
    by false = omega arith

closed_row : (role : Role) (past : List Item) (n : ℕ) (row : Option Row) (f : Bool) → finished role past n ≡ f → is_live role past n ≡ true
    → IsRowAt role past n row → (new : Option Row) × IsRowAt role (Did (Close n) ∷ past) n new
closed_row role past n row true is on at = (None, ap (λ ns. contains ns n) (close_ends role past n is) ∙ not_here n (live role past))
closed_row role past n None false is on at = absurd (let e : true ≡ false = sym on ∙ at in cc)
closed_row role past n (Some s) false is on at =
    let same = close_stays role past n is in
    (Some (record s { closed = true }), (ap (λ ns. contains ns n) same ∙ at.0, after role past (Did (Close n)) n s (record s { closed = true }) (closing role past n s same) at.1))

taken_row : (role : Role) (past : List Item) (n k : ℕ) (row : Option Row) → is_live role past n ≡ true → k ≤ untaken role past n
    → IsRowAt role past n row → (new : Option Row) × IsRowAt role (Did (Taken n k) ∷ past) n new
taken_row role past n k None on fits at = absurd (let e : true ≡ false = sym on ∙ at in cc)
taken_row role past n k (Some s) on fits at =
    let g : ℕ = given_of s.finished (s.owed + k) in
    let small = small_given s.finished (s.owed + k) in
    let new : Row = record s { window = s.window + g; owed = (s.owed + k) - g } in (
      Some new,
      (
        ap (λ ns. contains ns n) (quiet (live role past)) ∙ at.0,
        after role past (Did (Taken n k)) n s new (taking role past n k g s new at.1 refl small fits refl (omega arith) refl refl refl refl) at.1,
      ),
    )

written_row : (role : Role) (past : List Item) (n : ℕ) (pieces : List (List ℕ)) (row : Option Row) → is_live role past n ≡ true → sum_by length pieces ≤ credit role past n
    → IsRowAt role past n row → (new : Option Row) × IsRowAt role (Did (Write n pieces) ∷ past) n new
written_row role past n pieces None on fits at = absurd (let e : true ≡ false = sym on ∙ at in cc)
written_row role past n pieces (Some s) on fits at =
    let k : ℕ = sum_by length pieces in
    let there = credit_is role past n s at.1 in
    let less : k ≤ s.credit = omega arith in
    let new : Row = record s { credit = s.credit - k } in
    (Some new, (ap (λ ns. contains ns n) (quiet (live role past)) ∙ at.0, after role past (Did (Write n pieces)) n s new (writing role past n k pieces s less refl) at.1))

-- the stream k that the act is about, or another
by_stream : (role : Role) (past : List Item) (act : Act) (k n : ℕ) (row : Option Row) (b : Bool) → (k == n) ≡ b → acts_on act n ≡ (k == n)
    → ((k == n) ≡ false → is_live role (Did act ∷ past) n ≡ is_live role past n)
    → (IsRowAt role past k row → (new : Option Row) × IsRowAt role (Did act ∷ past) k new)
    → IsRowAt role past n row → (new : Option Row) × IsRowAt role (Did act ∷ past) n new
by_stream role past act k n row false other on same here at = (row, apart role past act n row (on ∙ other) (same other) at)
by_stream role past act k n row true is on same here at =
    subst (λ m. IsRowAt role past m row → (new : Option Row) × IsRowAt role (Did act ∷ past) m new) (eqb-true k n is) here at

closed_other : (role : Role) (past : List Item) (k n : ℕ) (f : Bool) → finished role past k ≡ f → (k == n) ≡ false → is_live role (Did (Close k) ∷ past) n ≡ is_live role past n
closed_other role past k n true is other = ap (λ ns. contains ns n) (close_ends role past k is) ∙ still_there k n (live role past) other
closed_other role past k n false is other = ap (λ ns. contains ns n) (close_stays role past k is)

act_row : (role : Role) (past : List Item) (act : Act) (n : ℕ) (row : Option Row) → IsAnswered role past act → AreAnswered role past
    → IsRowAt role past n row → (new : Option Row) × IsRowAt role (Did act ∷ past) n new
act_row role past (Start k) n row can before at =
    by_stream role past (Start k) k n row (k == n) refl refl
    (λ other. ap (λ ns. contains ns n) (start_live role past k) ∙ other_after k n (live role past) other)
    (λ was. (Some opened, (ap (λ ns. contains ns k) (start_live role past k) ∙ here_after k (live role past), first_row role past k (unread role past k before can.1)))) at
act_row role past (Write k pieces) n row can before at =
    by_stream role past (Write k pieces) k n row (k == n) refl refl (λ other. ap (λ ns. contains ns n) (quiet (live role past)))
    (written_row role past k pieces row (live_unless (is_live role past k) (closed role past k) can.0) can.2) at
act_row role past (Taken k count) n row can before at =
    by_stream role past (Taken k count) k n row (k == n) refl refl (λ other. ap (λ ns. contains ns n) (quiet (live role past)))
    (taken_row role past k count row (live_if (is_live role past k) can.0) can.1) at
act_row role past (Close k) n row can before at =
    by_stream role past (Close k) k n row (k == n) refl refl (closed_other role past k n (finished role past k) refl)
    (closed_row role past k row (finished role past k) refl (live_unless (is_live role past k) (closed role past k) can)) at
act_row role past (Reset k) n row can before at =
    by_stream role past (Reset k) k n row (k == n) refl refl (λ other. ap (λ ns. contains ns n) (reset_ends role past k) ∙ still_there k n (live role past) other)
    (λ was. (None, ap (λ ns. contains ns k) (reset_ends role past k) ∙ not_here k (live role past))) at
act_row role past (Act.GoAway code) n row can before at = (row, apart role past (Act.GoAway code) n row refl (ap (λ ns. contains ns n) (quiet (live role past))) at)

-- ---- every item

pub frames_before : (x : Item) (past : List Item) → AreFrames (arrivals (x ∷ past)) → AreFrames (arrivals past)
frames_before (Did act) past frames = frames
frames_before (Came (Head h)) past frames = frames.2
frames_before (Came (Byte b)) past frames = frames.1
frames_before (Came Tail) past frames = frames.2
frames_before (Came (Garbled bytes)) past frames = frames.2

-- each stream has the row that a table would have for it
pub row_there : (role : Role) (past : List Item) (n : ℕ) → AreAnswered role past → HasNoFault role past → AreFrames (arrivals past) → (row : Option Row) × IsRowAt role past n row
row_there role [] n answered good frames = (None, refl)
row_there role (Did act ∷ past) n answered good frames =
    let before = row_there role past n answered.1 good.1 frames in
    act_row role past act n before.0 answered.0 answered.1 before.1
row_there role (Came (Head h) ∷ past) n answered good frames =
    let before = row_there role past n answered good.1 frames.2 in
    head_row role past h n before.0 (h.stream == n) (between_none (arrivals past) frames.0) refl good.0 before.1
row_there role (Came (Byte b) ∷ past) n answered good frames =
    let before = row_there role past n answered good.1 frames.1 in
    (before.0, row_stays role past b n before.0 frames.0 before.1)
row_there role (Came Tail ∷ past) n answered good frames =
    let before = row_there role past n answered good.1 frames.2 in
    tail_row role past n before.0 (reading role past) frames.1 refl before.1
row_there role (Came (Garbled bytes) ∷ past) n answered good frames = absurd (let bad = good.0 in cc)

untaken_at : (role : Role) (past : List Item) (n : ℕ) (row : Option Row) → IsRowAt role past n row → is_live role past n ≡ true → untaken role past n ≤ 262144
untaken_at role past n None off on = absurd (let e : false ≡ true = sym off ∙ on in cc)
untaken_at role past n (Some s) at on = let e = untaken_is role past n s at.1 in omega arith

-- nothing arrives for a stream that isn't live
arrived_none : (role : Role) (past : List Item) (x : Item) (n : ℕ) → is_live role (x ∷ past) n ≡ false → arrived_length role n past x ≡ 0
arrived_none role past (Came (Byte b)) n off =
    ap (λ l. one_if ((is_reading (reading role past) n && l) && not (finished role past n))) (sym (ap (λ ns. contains ns n) (quiet (live role past))) ∙ off)
    ∙ none (is_reading (reading role past) n)
  where
    none : (b : Bool) → one_if ((b && false) && not (finished role past n)) ≡ 0
    none true = refl
    none false = refl
arrived_none role past (Came (Head h)) n off = refl
arrived_none role past (Came Tail) n off = refl
arrived_none role past (Came (Garbled bytes)) n off = refl
arrived_none role past (Did act) n off = refl

no_more : (role : Role) (past : List Item) (x : Item) (n : ℕ) (b : Bool) → opens role past x n ≡ b → arrived_length role n past x ≡ 0 → untaken role past n ≤ 262144 → untaken role (x ∷ past) n ≤ 262144
no_more role past x n b is none before =
    subst (λ c. (arrived_length role n past x + cond c 0 (since_opening (arrived_length role n) role past n)) - (taken_length n past x + cond c 0 (since_opening (taken_length n) role past n)) ≤ 262144)
    (sym is) (by b)
  where
    by : (c : Bool) → (arrived_length role n past x + cond c 0 (since_opening (arrived_length role n) role past n)) - (taken_length n past x + cond c 0 (since_opening (taken_length n) role past n)) ≤ 262144
    by true = omega arith
    by false = omega arith

limit_at : (role : Role) (past : List Item) (x : Item) (n : ℕ) (b : Bool) → is_live role (x ∷ past) n ≡ b → AreAnswered role (x ∷ past) → HasNoFault role (x ∷ past)
    → AreFrames (arrivals (x ∷ past)) → untaken role past n ≤ 262144 → untaken role (x ∷ past) n ≤ 262144
limit_at role past x n true on answered good frames before =
    let row = row_there role (x ∷ past) n answered good frames in untaken_at role (x ∷ past) n row.0 row.1 on
limit_at role past x n false off answered good frames before = no_more role past x n (opens role past x n) refl (arrived_none role past x n off) before

pub untaken_limit : UntakenLimit
untaken_limit role [] n answered good frames = omega arith
untaken_limit role (x ∷ past) n answered good frames =
    limit_at role past x n (is_live role (x ∷ past) n) refl answered good frames
    (untaken_limit role past n (past_answered role x past answered) good.1 (frames_before x past frames))
