-- Credit and what is untaken change only where an event, or an own act, says so.
use Rattle.std.proofs.Common.{◌≡◌, ℕ, ◌+◌, ◌-◌, ◌==◌, Bool, true, false, ◌&&◌, ◌||◌, not, cond, nat_lt, List, [], ◌∷◌, ◌++◌, length, Option, Some, None, refl, sym, ap, ◌∙◌, subst, arith}
use Rattle.std.specs.Prelude.{map, sum_by}
use Rattle.std.specs.List.{AllByRecursion}
use Rattle.std.proofs.lemmas.Bool.{eqb-true, eq-eqb, ltb-false}
use Rattle.yamux_frames.specs.declared.header.Header.{Header}
use Rattle.yamux_frames.specs.Frames.{Arrival}
use Rattle.yamux_frames.specs.Frames.Arrival.{Head, Byte, Tail, Garbled}
use Rattle.yamux_session.specs.declared.event.Role.{Role}
use Rattle.yamux_session.specs.declared.event.Fault.{Fault}
use Rattle.yamux_session.specs.History.{Item, Act, syn, ack, is_of_stream, is_own, is_go_away, is_update, is_data}
use Rattle.yamux_session.specs.History.Item.{Came, Did}
use Rattle.yamux_session.specs.History.Act.{Start, Write, Taken, Close, Reset}
use Rattle.yamux_session.specs.Openings.{live, contains, opens, finished, reading, is_let_in, is_for_stream, local_go_away, head_belongs}
use Rattle.yamux_session.specs.Windows.{credit, untaken, since_opening, update_length, written_length, arrived_length, taken_length, accepted}
use Rattle.yamux_session.specs.Faults.{HasNoFault, fault_at}
use Rattle.yamux_session.specs.Events.{Told, when, head_events, taker, byte_told, events_at, events_unless}
use Rattle.yamux_session.specs.Seen.{Windows, windows, IsQuiet, CreditIsTold, ActsMove}
use Rattle.yamux_session.proofs.Hearing.{told_by, told_is, takes, belongs_to}

all_split : (n : ℕ) (xs ys : List Told) → AllByRecursion (IsQuiet n) (xs ++ ys) → AllByRecursion (IsQuiet n) xs × AllByRecursion (IsQuiet n) ys
all_split n [] ys h = (tt, h)
all_split n (x ∷ xs) ys h = let r = all_split n xs ys h.1 in ((h.0, r.0), r.1)

-- ---- a head

not_opened : (n m : ℕ) (lets : Bool) → AllByRecursion (IsQuiet n) (when (contains (cond lets (m ∷ []) []) m) (Told.Opened m))
    → contains (cond lets (m ∷ []) []) n ≡ false
not_opened n m false q = refl
not_opened n m true q =
    let there : (m == m) || false ≡ true = ap (λ b. b || false) (eq-eqb m m refl) in
    let told = subst (λ (b : Bool). AllByRecursion (IsQuiet n) (when b (Told.Opened m))) there q in
    ap (λ b. b || false) told.0

-- a head that is told no credit has none to give
no_length : (len n : ℕ) (updates more : Bool) → nat_lt 0 len ≡ more → AllByRecursion (IsQuiet n) (when (updates && more) (Told.Credit n)) → cond updates len 0 ≡ 0
no_length len n false more is q = refl
no_length len n true true is q = absurd (let same : true ≡ false = sym (eq-eqb n n refl) ∙ q.0 in cc same)
no_length len n true false is q = let h = ltb-false 0 len is in omega arith

update_none : (role : Role) (past : List Item) (h : Header) (n : ℕ) (same : Bool) → (h.stream == n) ≡ same
    → AllByRecursion (IsQuiet n) (when ((head_belongs role past h h.stream && is_update h.kind) && nat_lt 0 h.length) (Told.Credit h.stream))
    → update_length role n past (Came (Head h)) ≡ 0
update_none role past h n false is q =
    let apart : Bool = not ((is_data h.kind && not (syn h)) && finished role past n) in
    ap (λ b. cond (((b && is_for_stream role (live role past) (local_go_away past) h) && apart) && is_update h.kind) h.length 0) is
update_none role past h n true is q =
    let e : h.stream ≡ n = eqb-true h.stream n is in
    let quiet = subst (λ (k : ℕ). AllByRecursion (IsQuiet n) (when ((head_belongs role past h k && is_update h.kind) && nat_lt 0 h.length) (Told.Credit k))) e q in
    no_length h.length n (head_belongs role past h n && is_update h.kind) (nat_lt 0 h.length) refl quiet

-- ---- a byte

arrived_by : (n b : ℕ) (o : Option ℕ) → AllByRecursion (IsQuiet n) (byte_told o b) → takes o n ≡ false
arrived_by n b None q = refl
arrived_by n b (Some m) q = q.0

arrived_none : (role : Role) (past : List Item) (b n : ℕ) → AllByRecursion (IsQuiet n) (byte_told (taker role past (reading role past)) b)
    → arrived_length role n past (Came (Byte b)) ≡ 0
arrived_none role past b n q =
    ap (λ c. cond c 1 0) (belongs_to role past n (reading role past) refl ∙ arrived_by n b (taker role past (reading role past)) q)

-- ---- one arrival, and all

same_windows : (a b : Windows) → a.credit ≡ b.credit → a.untaken ≡ b.untaken → a ≡ b
same_windows a b c u =
    let at : ℕ → ℕ → Windows = λ c u. record { credit = c; untaken = u } in
    ap (λ x. at x a.untaken) c ∙ ap (λ x. at b.credit x) u

-- an item that doesn't open the stream adds its amounts
without : (role : Role) (past : List Item) (x : Item) (n u w r t : ℕ) → opens role past x n ≡ false → update_length role n past x ≡ u
    → written_length n past x ≡ w → arrived_length role n past x ≡ r → taken_length n past x ≡ t
    → windows role (x ∷ past) n ≡ record {
      credit = (262144 + (u + since_opening (update_length role n) role past n)) - (w + since_opening (written_length n) role past n);
      untaken = (r + since_opening (arrived_length role n) role past n) - (t + since_opening (taken_length n) role past n);
    }
without role past x n u w r t o us ws rs ts =
    let more : ℕ → Bool → ℕ → ℕ = λ k b before. k + cond b 0 before in
    same_windows (windows role (x ∷ past) n) _
    (ap (λ b. (262144 + more (update_length role n past x) b (since_opening (update_length role n) role past n))
    - more (written_length n past x) b (since_opening (written_length n) role past n)) o
    ∙ ap (λ k. (262144 + (k + since_opening (update_length role n) role past n)) - (written_length n past x + since_opening (written_length n) role past n)) us
    ∙ ap (λ k. (262144 + (u + since_opening (update_length role n) role past n)) - (k + since_opening (written_length n) role past n)) ws)
    (ap (λ b. more (arrived_length role n past x) b (since_opening (arrived_length role n) role past n)
    - more (taken_length n past x) b (since_opening (taken_length n) role past n)) o
    ∙ ap (λ k. (k + since_opening (arrived_length role n) role past n) - (taken_length n past x + since_opening (taken_length n) role past n)) rs
    ∙ ap (λ k. (r + since_opening (arrived_length role n) role past n) - (k + since_opening (taken_length n) role past n)) ts)

nothing_moved : (role : Role) (past : List Item) (x : Item) (n : ℕ) → opens role past x n ≡ false → update_length role n past x ≡ 0
    → written_length n past x ≡ 0 → arrived_length role n past x ≡ 0 → taken_length n past x ≡ 0 → windows role (x ∷ past) n ≡ windows role past n
nothing_moved role past x n o u w r t =
    without role past x n 0 0 0 0 o u w r t ∙ same_windows _ (windows role past n) (omega arith) (omega arith)

step : (role : Role) (past : List Item) (a : Arrival) (n : ℕ) → fault_at role past (Came a) ≡ None
    → AllByRecursion (IsQuiet n) (events_at role past (Came a)) → windows role (Came a ∷ past) n ≡ windows role past n
step role past (Head h) n good q =
    let left : List Told = when (is_go_away h.kind) (Told.GoAway h.length) in
    let opened : List Told = when (opens role past (Came (Head h)) h.stream) (Told.Opened h.stream) in
    let accepts : Bool = head_belongs role past h h.stream && ack h && is_own role h.stream && not (accepted role past h.stream) in
    let credits : Bool = head_belongs role past h h.stream && is_update h.kind && nat_lt 0 h.length in
    let all = subst (λ (f : Option Fault). AllByRecursion (IsQuiet n) (events_unless f (head_events role past h))) good q in
    let last = all_split n ((left ++ opened) ++ when accepts (Told.Accepted h.stream)) (when credits (Told.Credit h.stream)) all in
    let mid = all_split n (left ++ opened) (when accepts (Told.Accepted h.stream)) last.0 in
    let first = all_split n left opened mid.0 in
    nothing_moved role past (Came (Head h)) n
    (not_opened n h.stream (is_of_stream h && syn h && is_let_in role (live role past) (local_go_away past) h) first.1)
    (update_none role past h n (h.stream == n) refl last.1) refl refl refl
step role past (Byte b) n good q = nothing_moved role past (Came (Byte b)) n refl refl refl (arrived_none role past b n q) refl
step role past Tail n good q = nothing_moved role past (Came Tail) n refl refl refl refl refl
step role past (Garbled bytes) n good q = absurd (cc good)

all_same : (role : Role) (past : List Item) (came : List Arrival) (n : ℕ) → HasNoFault role (map Came came ++ past)
    → AllByRecursion (IsQuiet n) (told_by role past came) → windows role (map Came came ++ past) n ≡ windows role past n
all_same role past [] n good q = refl
all_same role past (a ∷ came) n good q =
    let mid = map Came came ++ past in
    let parts = all_split n (told_by role past came) (events_at role mid (Came a)) q in
    step role mid a n good.0 parts.1 ∙ all_same role past came n good.1 parts.0

pub credit_is_told : CreditIsTold
credit_is_told role past came told n from quiet =
    all_same role past came n from.no_fault
    (subst (λ (t : List Told). AllByRecursion (IsQuiet n) t) (told_is role past came told from) quiet)

-- ---- this end's own acts

starts : (role : Role) (past : List Item) (m n : ℕ) (same : Bool) → (m == n) ≡ same
    → windows role (Did (Start m) ∷ past) n ≡ cond same (record { credit = 262144; untaken = 0 }) (windows role past n)
starts role past m n true is =
    same_windows (windows role (Did (Start m) ∷ past) n) (record { credit = 262144; untaken = 0 })
    (ap (λ b. (262144 + (0 + cond (b || false) 0 (since_opening (update_length role n) role past n)))
    - (0 + cond (b || false) 0 (since_opening (written_length n) role past n))) is)
    (ap (λ b. (0 + cond (b || false) 0 (since_opening (arrived_length role n) role past n))
    - (0 + cond (b || false) 0 (since_opening (taken_length n) role past n))) is)
starts role past m n false is = nothing_moved role past (Did (Start m)) n (ap (λ b. b || false) is) refl refl refl refl

writes : (role : Role) (past : List Item) (m : ℕ) (pieces : List (List ℕ)) (n : ℕ) (same : Bool) → (m == n) ≡ same
    → windows role (Did (Write m pieces) ∷ past) n
    ≡ cond same (record (windows role past n) { credit = credit role past n - sum_by length pieces }) (windows role past n)
writes role past m pieces n true is =
    without role past (Did (Write m pieces)) n 0 (sum_by length pieces) 0 0 refl refl (ap (λ b. cond b (sum_by length pieces) 0) is) refl refl
    ∙ same_windows _ (record (windows role past n) { credit = credit role past n - sum_by length pieces }) (omega arith) (omega arith)
writes role past m pieces n false is =
    nothing_moved role past (Did (Write m pieces)) n refl refl (ap (λ b. cond b (sum_by length pieces) 0) is) refl refl

takes_of : (role : Role) (past : List Item) (m count n : ℕ) (same : Bool) → (m == n) ≡ same
    → windows role (Did (Taken m count) ∷ past) n
    ≡ cond same (record (windows role past n) { untaken = untaken role past n - count }) (windows role past n)
takes_of role past m count n true is =
    without role past (Did (Taken m count)) n 0 0 0 count refl refl refl refl (ap (λ b. cond b count 0) is)
    ∙ same_windows _ (record (windows role past n) { untaken = untaken role past n - count }) (omega arith) (omega arith)
takes_of role past m count n false is =
    nothing_moved role past (Did (Taken m count)) n refl refl refl refl (ap (λ b. cond b count 0) is)

pub acts_move : ActsMove
acts_move role past (Start m) n = starts role past m n (m == n) refl
acts_move role past (Write m pieces) n = writes role past m pieces n (m == n) refl
acts_move role past (Taken m count) n = takes_of role past m count n (m == n) refl
acts_move role past (Close m) n = nothing_moved role past (Did (Close m)) n refl refl refl refl refl
acts_move role past (Reset m) n = nothing_moved role past (Did (Reset m)) n refl refl refl refl refl
acts_move role past (Act.GoAway code) n = nothing_moved role past (Did (Act.GoAway code)) n refl refl refl refl refl
