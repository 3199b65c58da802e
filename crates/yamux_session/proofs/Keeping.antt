-- The table after an act of this end.
use Rattle.std.proofs.Common.{◌≡◌, ℕ, ◌+◌, ◌-◌, ◌<◌, ◌≤◌, Bool, true, false, ◌||◌, ◌&&◌, not, ◌==◌, cond, nat_lt, List, [], ◌∷◌, ◌++◌, length, Option, Some, None, refl, sym, ap, ◌∙◌, subst, append_assoc, arith}
use Rattle.std.proofs.lemmas.List.{append-nil}
use Rattle.std.specs.Prelude.{filter, sum_by}
use Rattle.std.proofs.lemmas.Bool.{eqb-true, eq-eqb, lt-ltb, le-ltb}
use Rattle.yamux_frames.specs.declared.header.FrameKind.TheVariants.{Window}
use Rattle.yamux_frames.specs.Frames.{bytes_left}
use Rattle.yamux_session.specs.declared.event.Role.{Role}
use Rattle.yamux_session.specs.declared.streams.Row.{Row}
use Rattle.yamux_session.specs.Table.{Table, row_at, is_taker, Rewrites, Forgets, Opens, opened}
use Rattle.yamux_session.specs.History.{Item, Act, arrivals, is_own, is_remote}
use Rattle.yamux_session.specs.History.Item.{Did}
use Rattle.yamux_session.specs.History.Act.{Start, Write, Taken, Close, Reset}
use Rattle.yamux_session.specs.Openings.{live, is_live, reading, finished, closed, contains, opens, finishes, closes, local_go_away, is_reading, byte_belongs}
use Rattle.yamux_session.specs.Windows.{since_opening, data_length, update_length, written_length, arrived_length, taken_length, given_back, given_of, is_take_of, owed, accepted, acks, coming, untaken}
use Rattle.yamux_session.specs.Acts.{AreAnswered, IsAnswered, next_own}
use Rattle.yamux_session.specs.Keeps.{Keeps, IsRow, IsRowAt}
use Rattle.yamux_session.specs.Output.{item_output, frame}
use Rattle.yamux_session.specs.State.{State, Stands}
use Rattle.yamux_session.proofs.Lists.{contains_append, contains_filter, filter_true, filter_same, without, one_if, count_then, count_without}
use Rattle.yamux_session.proofs.Live.{distinct, unread, own_next, not_both}
use Rattle.yamux_session.proofs.Refusals.{row_of}

-- the row s of a stream, moved by an item that doesn't open it, is new
pub record Moves (role : Role) (past : List Item) (x : Item) (n : ℕ) (s new : Row) : Type 0 where
  pub not_opened : opens role past x n ≡ false
  pub credit : new.credit + written_length n past x ≡ s.credit + update_length role n past x
  pub window : new.window + data_length role n past x ≡ s.window + given_back role n past x
  pub rest : new.window + new.owed + coming role (x ∷ past) n + arrived_length role n past x ≡ s.window + s.owed + coming role past n + taken_length n past x
  pub owed_is : new.owed ≡ cond (is_take_of n x) ((s.owed + taken_length n past x) - given_of s.finished (s.owed + taken_length n past x)) (s.owed + taken_length n past x)
  pub finished_is : new.finished ≡ finishes (reading role past) x n || s.finished
  pub closed_is : new.closed ≡ closes x n || s.closed
  pub accepted_is : new.accepted ≡ acks role past x n || s.accepted
  pub bound : taken_length n past x ≤ untaken role past n

pub and_true : (b : Bool) → b && true ≡ b
and_true true = refl
and_true false = refl

pub and_false : (b : Bool) → b && false ≡ false
and_false true = refl
and_false false = refl

-- a sum goes on
since_more : (amount : List Item → Item → ℕ) (role : Role) (past : List Item) (x : Item) (n : ℕ) → opens role past x n ≡ false → since_opening amount role (x ∷ past) n ≡ amount past x + since_opening amount role past n
since_more amount role past x n e = ap (λ b. amount past x + cond b 0 (since_opening amount role past n)) e

-- the row after the item
pub after : (role : Role) (past : List Item) (x : Item) (n : ℕ) (s new : Row) → Moves role past x n s new → IsRow role past n s → IsRow role (x ∷ past) n new
after role past x n s new m row =
    let more = λ (amount : List Item → Item → ℕ). since_more amount role past x n m.not_opened in
    let t : ℕ = taken_length n past x in
    record {
      credit = omega (arith, more (written_length n), more (update_length role n), m.credit, row.credit);
      window = omega (arith, more (data_length role n), more (given_back role n), m.window, row.window);
      untaken = omega (arith, more (taken_length n), more (arrived_length role n), m.rest, row.untaken);
      owed_is = m.owed_is
          ∙ ap (λ o. cond (is_take_of n x) ((o + t) - given_of s.finished (o + t)) (o + t)) row.owed_is
          ∙ ap (λ f. cond (is_take_of n x) ((owed role past n + t) - given_of f (owed role past n + t)) (owed role past n + t)) row.finished_is
          ∙ sym (ap (λ b. cond b 0 (cond (is_take_of n x) ((owed role past n + t) - given_of (finished role past n) (owed role past n + t)) (owed role past n + t))) m.not_opened);
      finished_is = m.finished_is ∙ ap (λ f. finishes (reading role past) x n || f) row.finished_is ∙ sym (ap (λ b. not b && (finishes (reading role past) x n || finished role past n)) m.not_opened);
      closed_is = m.closed_is ∙ ap (λ f. closes x n || f) row.closed_is ∙ sym (ap (λ b. not b && (closes x n || closed role past n)) m.not_opened);
      accepted_is = m.accepted_is ∙ ap (λ f. acks role past x n || f) row.accepted_is ∙ sym (ap (λ b. not b && (acks role past x n || accepted role past n)) m.not_opened);
      bound = let less = m.bound in let was = row.bound in omega (arith, more (taken_length n), more (arrived_length role n));
    }

-- an act that doesn't open the stream, nor ends it, leaves what is to come
belongs_same : (role : Role) (past : List Item) (act : Act) (n : ℕ) → opens role past (Did act) n ≡ false → is_live role (Did act ∷ past) n ≡ is_live role past n → byte_belongs role (Did act ∷ past) n ≡ byte_belongs role past n
belongs_same role past act n off same =
    ap (λ f. (is_reading (reading role past) n && is_live role (Did act ∷ past) n) && not (not f && finished role past n)) off
    ∙ ap (λ l. (is_reading (reading role past) n && l) && not (finished role past n)) same

coming_same : (role : Role) (past : List Item) (act : Act) (n : ℕ) → opens role past (Did act) n ≡ false → is_live role (Did act ∷ past) n ≡ is_live role past n → coming role (Did act ∷ past) n ≡ coming role past n
coming_same role past act n off same = ap (λ b. cond b (bytes_left (arrivals past)) 0) (belongs_same role past act n off same)

-- between two frames nothing is to come
pub none_coming : (role : Role) (past : List Item) (n : ℕ) → bytes_left (arrivals past) ≡ 0 → coming role past n ≡ 0
none_coming role past n none = by (byte_belongs role past n)
  where
    by : (b : Bool) → cond b (bytes_left (arrivals past)) 0 ≡ 0
    by true = none
    by false = refl

-- whether an act is about a stream
abbrev pub acts_on : Act → ℕ → Bool
acts_on (Start n) m = n == m
acts_on (Write n pieces) m = n == m
acts_on (Taken n count) m = n == m
acts_on (Close n) m = n == m
acts_on (Reset n) m = n == m
acts_on (Act.GoAway code) m = false

pub stays : (role : Role) (past : List Item) (act : Act) (m : ℕ) (s : Row) → acts_on act m ≡ false → is_live role (Did act ∷ past) m ≡ is_live role past m → Moves role past (Did act) m s s
stays role past (Start k) m s h same = record {
  not_opened = ap (λ t. t || false) h;
  credit = refl;
  window = refl;
  rest = let e = coming_same role past (Start k) m (ap (λ t. t || false) h) same in omega arith;
  owed_is = omega arith;
  finished_is = refl;
  closed_is = refl;
  accepted_is = refl;
  bound = omega arith;
}
stays role past (Write k ps) m s h same = record {
  not_opened = refl;
  credit = ap (λ b. s.credit + cond b (sum_by length ps) 0) h;
  window = refl;
  rest = let e = coming_same role past (Write k ps) m (refl) same in omega arith;
  owed_is = omega arith;
  finished_is = refl;
  closed_is = refl;
  accepted_is = refl;
  bound = omega arith;
}
stays role past (Taken k c) m s h same = record {
  not_opened = refl;
  credit = refl;
  window = sym (ap (λ b. s.window + cond b (given_of (finished role past m) (owed role past m + c)) 0) h);
  rest = let e = coming_same role past (Taken k c) m (refl) same in let none : taken_length m past (Did (Taken k c)) ≡ 0 = ap (λ b. cond b c 0) h in omega arith;
  owed_is = sym (ap (λ b. cond b ((s.owed + cond b c 0) - given_of s.finished (s.owed + cond b c 0)) (s.owed + cond b c 0)) h ∙ (let e : s.owed + 0 ≡ s.owed = omega arith in e));
  finished_is = refl;
  closed_is = refl;
  accepted_is = refl;
  bound = let none : taken_length m past (Did (Taken k c)) ≡ 0 = ap (λ b. cond b c 0) h in omega arith;
}
stays role past (Close k) m s h same = record {
  not_opened = refl;
  credit = refl;
  window = refl;
  rest = let e = coming_same role past (Close k) m (refl) same in omega arith;
  owed_is = omega arith;
  finished_is = refl;
  closed_is = sym (ap (λ b. b || s.closed) h);
  accepted_is = refl;
  bound = omega arith;
}
stays role past (Reset k) m s h same = record {
  not_opened = refl;
  credit = refl;
  window = refl;
  rest = let e = coming_same role past (Reset k) m (refl) same in omega arith;
  owed_is = omega arith;
  finished_is = refl;
  closed_is = refl;
  accepted_is = refl;
  bound = omega arith;
}
stays role past (Act.GoAway code) m s h same = record {
  not_opened = refl;
  credit = refl;
  window = refl;
  rest = let e = coming_same role past (Act.GoAway code) m (refl) same in omega arith;
  owed_is = omega arith;
  finished_is = refl;
  closed_is = refl;
  accepted_is = refl;
  bound = omega arith;
}

-- a stream that the act isn't about
pub apart : (role : Role) (past : List Item) (act : Act) (m : ℕ) (row : Option Row) → acts_on act m ≡ false → is_live role (Did act ∷ past) m ≡ is_live role past m → IsRowAt role past m row → IsRowAt role (Did act ∷ past) m row
apart role past act m None h same at = same ∙ at
apart role past act m (Some s) h same at = (same ∙ at.0, after role past (Did act) m s s (stays role past act m s h same) at.1)

rows_at : (role : Role) (past : List Item) (act : Act) (n m : ℕ) (w : Option Row) (old new : List (ℕ × Row)) (b : Bool) → (n == m) ≡ b
    → row_at new m ≡ cond (n == m) w (row_at old m) → ((k : ℕ) → acts_on act k ≡ (n == k))
    → ((n == m) ≡ false → is_live role (Did act ∷ past) m ≡ is_live role past m)
    → IsRowAt role past m (row_at old m) → IsRowAt role (Did act ∷ past) n w → IsRowAt role (Did act ∷ past) m (row_at new m)
rows_at role past act n m w old new true is e on same before now =
    subst (IsRowAt role (Did act ∷ past) m) (sym (e ∙ ap (λ b. cond b w (row_at old m)) is)) (subst (λ k. IsRowAt role (Did act ∷ past) k w) (eqb-true n m is) now)
rows_at role past act n m w old new false is e on same before now =
    subst (IsRowAt role (Did act ∷ past) m) (sym (e ∙ ap (λ b. cond b w (row_at old m)) is)) (apart role past act m (row_at old m) (on m ∙ is) (same is) before)

-- an act that changes the row of a live stream
pub replaced : (role : Role) (past : List Item) (act : Act) (n : ℕ) (s t : Row) (old new : Table) → Keeps role past old → row_at old.rows n ≡ Some s
    → Rewrites old n (Some t) old.own old.remote new → Moves role past (Did act) n s t → ((k : ℕ) → acts_on act k ≡ (n == k))
    → live role (Did act ∷ past) ≡ live role past → ((m : ℕ) → opens role past (Did act) m ≡ false) → local_go_away (Did act ∷ past) ≡ local_go_away past → next_own role (Did act ∷ past) ≡ next_own role past → Keeps role (Did act ∷ past) new
replaced role past act n s t old new keeps found writes moves on same shut left next =
    let before = row_of role past old n (Some s) keeps found in
    record {
      role_is = ap (λ (q : Table). q.role) writes.rest ∙ keeps.role_is;
      rows = λ m. rows_at role past act n m (Some t) old.rows new.rows (n == m) refl (writes.row_is m) on (λ _. ap (λ ns. contains ns m) same) (keeps.rows m)
          (ap (λ ns. contains ns n) same ∙ before.0, after role past (Did act) n s t moves before.1);
      own_is = ap (λ (q : Table). q.own) writes.rest ∙ keeps.own_is ∙ sym (ap (λ ns. length (filter (is_own role) ns)) same);
      remote_is = ap (λ (q : Table). q.remote) writes.rest ∙ keeps.remote_is ∙ sym (ap (λ ns. length (filter (is_remote role) ns)) same);
      reading_is = ap (λ (q : Table). q.reading) writes.rest ∙ keeps.reading_is;
      takes = λ m. ap (λ (q : Table). is_taker q.taker m) writes.rest ∙ keeps.takes m ∙ sym (belongs_same role past act m (shut m) (ap (λ ns. contains ns m) same));
      local_go_away_is = ap (λ (q : Table). q.local_go_away) writes.rest ∙ keeps.local_go_away_is ∙ sym left;
      remote_go_away_is = ap (λ (q : Table). q.remote_go_away) writes.rest ∙ keeps.remote_go_away_is;
      next_is = ap (λ (q : Table). q.next) writes.rest ∙ keeps.next_is ∙ sym next;
    }

pub not_here : (n : ℕ) (ns : List ℕ) → contains (without n ns) n ≡ false
not_here n ns = contains_filter (λ k. not (n == k)) ns n ∙ ap (λ b. not b && contains ns n) (eq-eqb n n refl)

pub still_there : (n m : ℕ) (ns : List ℕ) → (n == m) ≡ false → contains (without n ns) m ≡ contains ns m
still_there n m ns h = contains_filter (λ k. not (n == k)) ns m ∙ ap (λ b. not b && contains ns m) h

-- the payload of a stream that is forgotten belongs to none
off_taken : (t : Option ℕ) (n m : ℕ) (b : Bool) → (n == m) ≡ b → is_taker (cond (is_taker t n) None t) m ≡ not b && is_taker t m
off_taken None n m b is = sym (and_false (not b))
off_taken (Some k) n m b is = by (k == n) refl
  where
    by : (c : Bool) → (k == n) ≡ c → is_taker (cond (k == n) None (Some k)) m ≡ not b && (k == m)
    by true here =
        ap (λ c. is_taker (cond c None (Some k)) m) here
        ∙ sym (ap (λ j. not b && (j == m)) (eqb-true k n here) ∙ ap (λ c. not b && c) is ∙ not_and b)
      where
        not_and : (b : Bool) → not b && b ≡ false
        not_and true = refl
        not_and false = refl
    by false other = ap (λ c. is_taker (cond c None (Some k)) m) other ∙ sym (still b is)
      where
        still : (b : Bool) → (n == m) ≡ b → not b && (k == m) ≡ (k == m)
        still true same = sym (ap (λ j. k == j) (sym (eqb-true n m same)) ∙ other)
        still false apart = refl

without_first : (b r l f : Bool) → not b && ((r && l) && f) ≡ (r && (not b && l)) && f
without_first true true l f = refl
without_first true false l f = refl
without_first false r l f = refl

belongs_without : (role : Role) (past : List Item) (act : Act) (n m : ℕ) → opens role past (Did act) m ≡ false → live role (Did act ∷ past) ≡ without n (live role past)
    → byte_belongs role (Did act ∷ past) m ≡ not (n == m) && byte_belongs role past m
belongs_without role past act n m shut gone =
    ap (λ f. (is_reading (reading role past) m && is_live role (Did act ∷ past) m) && not (not f && finished role past m)) shut
    ∙ ap (λ l. (is_reading (reading role past) m && l) && not (finished role past m)) (ap (λ ns. contains ns m) gone ∙ contains_filter (λ k. not (n == k)) (live role past) m)
    ∙ sym (without_first (n == m) (is_reading (reading role past) m) (is_live role past m) (not (finished role past m)))

-- an act that ends a live stream
pub forgotten : (role : Role) (past : List Item) (act : Act) (n : ℕ) (s : Row) (old new : Table) → AreAnswered role past → Keeps role past old → row_at old.rows n ≡ Some s
    → Forgets old n new → ((k : ℕ) → acts_on act k ≡ (n == k))
    → live role (Did act ∷ past) ≡ without n (live role past) → ((m : ℕ) → opens role past (Did act) m ≡ false) → local_go_away (Did act ∷ past) ≡ local_go_away past → next_own role (Did act ∷ past) ≡ next_own role past → Keeps role (Did act ∷ past) new
forgotten role past act n s old new answered keeps found writes on gone shut left next =
    let before = row_of role past old n (Some s) keeps found in
    let d = distinct role past answered in
    record {
      role_is = ap (λ (q : Table). q.role) writes.rest ∙ keeps.role_is;
      rows = λ m. rows_at role past act n m None old.rows new.rows (n == m) refl (writes.row_is m) on (λ other. ap (λ ns. contains ns m) gone ∙ still_there n m (live role past) other) (keeps.rows m)
          (ap (λ ns. contains ns n) gone ∙ not_here n (live role past));
      own_is = ap (λ (q : Table). q.own) writes.rest ∙ ap (λ (r : Role). old.own - cond (is_own r n) 1 0) keeps.role_is
          ∙ (let count = count_without (is_own role) n (live role past) d before.0 in let was = keeps.own_is in let e : old.own - one_if (is_own role n) ≡ length (filter (is_own role) (without n (live role past))) = omega arith in e)
          ∙ sym (ap (λ ns. length (filter (is_own role) ns)) gone);
      remote_is = ap (λ (q : Table). q.remote) writes.rest ∙ ap (λ (r : Role). old.remote - cond (is_remote r n) 1 0) keeps.role_is
          ∙ (let count = count_without (is_remote role) n (live role past) d before.0 in let was = keeps.remote_is in let e : old.remote - one_if (is_remote role n) ≡ length (filter (is_remote role) (without n (live role past))) = omega arith in e)
          ∙ sym (ap (λ ns. length (filter (is_remote role) ns)) gone);
      reading_is = ap (λ (q : Table). q.reading) writes.rest ∙ keeps.reading_is;
      takes = λ m. ap (λ (q : Table). is_taker q.taker m) writes.rest ∙ off_taken old.taker n m (n == m) refl ∙ ap (λ b. not (n == m) && b) (keeps.takes m) ∙ sym (belongs_without role past act n m (shut m) gone);
      local_go_away_is = ap (λ (q : Table). q.local_go_away) writes.rest ∙ keeps.local_go_away_is ∙ sym left;
      remote_go_away_is = ap (λ (q : Table). q.remote_go_away) writes.rest ∙ keeps.remote_go_away_is;
      next_is = ap (λ (q : Table). q.next) writes.rest ∙ keeps.next_is ∙ sym next;
    }

-- ---- which streams are live after an act

pub quiet : (ns : List ℕ) → filter (λ k. true) ns ++ [] ≡ ns
quiet ns = append-nil (filter (λ k. true) ns) ∙ filter_true ns

close_at : (role : Role) (past : List Item) (n k : ℕ) (f b : Bool) → (n == k) ≡ b → finished role past n ≡ f → not (n == k && finished role past k) ≡ not (n == k && f)
close_at role past n k f true is e = ap (λ c. not (n == k && c)) (ap (finished role past) (sym (eqb-true n k is)) ∙ e)
close_at role past n k f false is e = ap (λ c. not (c && finished role past k)) is ∙ sym (ap (λ c. not (c && f)) is)

pub close_ends : (role : Role) (past : List Item) (n : ℕ) → finished role past n ≡ true → live role (Did (Close n) ∷ past) ≡ without n (live role past)
close_ends role past n e =
    append-nil (filter (λ k. not (n == k && finished role past k)) (live role past))
    ∙ filter_same (λ k. not (n == k && finished role past k)) (λ k. not (n == k)) (live role past)
    (λ k. close_at role past n k true (n == k) refl e ∙ ap not (and_true (n == k)))

pub close_stays : (role : Role) (past : List Item) (n : ℕ) → finished role past n ≡ false → live role (Did (Close n) ∷ past) ≡ live role past
close_stays role past n e =
    append-nil (filter (λ k. not (n == k && finished role past k)) (live role past))
    ∙ filter_same (λ k. not (n == k && finished role past k)) (λ k. true) (live role past)
    (λ k. close_at role past n k false (n == k) refl e ∙ ap not (and_false (n == k)))
    ∙ filter_true (live role past)

pub reset_ends : (role : Role) (past : List Item) (n : ℕ) → live role (Did (Reset n) ∷ past) ≡ without n (live role past)
reset_ends role past n = append-nil (filter (λ k. not (n == k)) (live role past))

-- ---- the session after an act

-- the session after an act that was answered: the table is moved, and its frames wait behind the output
pub did : (role : Role) (past : List Item) (fed sent : List ℕ) (act : Act) (old new : State) → Stands role past fed sent old → IsAnswered role past act
    → Keeps role (Did act ∷ past) new.table → new.place ≡ old.place → new.failed ≡ false → new.pending ≡ old.pending ++ item_output role past (Did act)
    → Stands role (Did act ∷ past) fed sent new
did role past fed sent act old new at answered keeps place going pending =
    record {
      going = going;
      no_fault = (refl, at.no_fault);
      answered = (answered, at.answered);
      frames = subst (λ p. Rattle.yamux_frames.specs.Frames.Stands fed (Rattle.yamux_session.specs.History.arrivals past) p) (sym place) at.frames;
      table = keeps;
      output = ap (λ (t : List ℕ). sent ++ t) pending ∙ sym (append_assoc sent old.pending (item_output role past (Did act))) ∙ ap (λ (t : List ℕ). t ++ item_output role past (Did act)) at.output;
    }

-- ---- a stream of this end is opened

pub since_first : (amount : List Item → Item → ℕ) (role : Role) (past : List Item) (x : Item) (n : ℕ) → opens role past x n ≡ true → since_opening amount role (x ∷ past) n ≡ amount past x + 0
since_first amount role past x n e = ap (λ b. amount past x + cond b 0 (since_opening amount role past n)) e

pub first_row : (role : Role) (past : List Item) (n : ℕ) → is_reading (reading role past) n ≡ false → IsRow role (Did (Start n) ∷ past) n opened
first_row role past n unread =
    let x : Item = Did (Start n) in
    let here : opens role past x n ≡ true = ap (λ t. t || false) (eq-eqb n n refl) in
    let start = λ (amount : List Item → Item → ℕ). since_first amount role past x n here in
    let coming_unread : coming role (x ∷ past) n ≡ 0 = ap (λ r. cond ((r && is_live role (x ∷ past) n) && not (finished role (x ∷ past) n)) (bytes_left (arrivals past)) 0) unread in
    record {
      credit = omega (arith, start (written_length n), start (update_length role n));
      window = omega (arith, start (data_length role n), start (given_back role n));
      untaken = omega (arith, start (taken_length n), start (arrived_length role n));
      owed_is = sym (ap (λ b. cond b 0 (owed role past n + 0)) here);
      finished_is = sym (ap (λ b. not b && finished role past n) here);
      closed_is = sym (ap (λ b. not b && closed role past n) here);
      accepted_is = sym (ap (λ b. not b && accepted role past n) here);
      bound = omega (arith, start (taken_length n), start (arrived_length role n));
    }

pub start_live : (role : Role) (past : List Item) (n : ℕ) → live role (Did (Start n) ∷ past) ≡ live role past ++ n ∷ []
start_live role past n = ap (λ (ns : List ℕ). ns ++ n ∷ []) (filter_true (live role past))

or_here : (b : Bool) → b || (true || false) ≡ true
or_here true = refl
or_here false = refl

or_other : (b : Bool) → b || (false || false) ≡ b
or_other true = refl
or_other false = refl

pub here_after : (n : ℕ) (ns : List ℕ) → contains (ns ++ n ∷ []) n ≡ true
here_after n ns = contains_append ns (n ∷ []) n ∙ ap (λ b. contains ns n || (b || false)) (eq-eqb n n refl) ∙ or_here (contains ns n)

pub other_after : (n m : ℕ) (ns : List ℕ) → (n == m) ≡ false → contains (ns ++ n ∷ []) m ≡ contains ns m
other_after n m ns h = contains_append ns (n ∷ []) m ∙ ap (λ b. contains ns m || (b || false)) h ∙ or_other (contains ns m)

not_remote : (role : Role) (n : ℕ) (b : Bool) → is_remote role n ≡ b → is_own role n ≡ true → b ≡ false
not_remote role n true is own = absurd (not_both role n own is)
not_remote role n false is own = refl

-- a stream that is opened here has no payload that is being read
belongs_started : (role : Role) (past : List Item) (n m : ℕ) (b : Bool) → (n == m) ≡ b → is_reading (reading role past) n ≡ false → byte_belongs role (Did (Start n) ∷ past) m ≡ byte_belongs role past m
belongs_started role past n m true is unread =
    let off : is_reading (reading role past) m ≡ false = subst (λ k. is_reading (reading role past) k ≡ false) (eqb-true n m is) unread in
    ap (λ r. (r && is_live role (Did (Start n) ∷ past) m) && not (finished role (Did (Start n) ∷ past) m)) off
    ∙ sym (ap (λ r. (r && is_live role past m) && not (finished role past m)) off)
belongs_started role past n m false is unread =
    belongs_same role past (Start n) m (ap (λ t. t || false) is) (ap (λ ns. contains ns m) (start_live role past n) ∙ other_after n m (live role past) is)

pub started : (role : Role) (past : List Item) (old new : Table) → AreAnswered role past → Keeps role past old → Opens old new → Keeps role (Did (Start old.next) ∷ past) new
started role past old new answered keeps writes =
    let n : ℕ = old.next in
    let own : is_own role n ≡ true = ap (is_own role) keeps.next_is ∙ own_next role past answered in
    let same = start_live role past n in
    record {
      role_is = ap (λ (q : Table). q.role) writes.rest ∙ keeps.role_is;
      rows = λ m. rows_at role past (Start n) n m (Some opened) old.rows new.rows (n == m) refl (writes.row_is m) (λ k. refl)
          (λ other. ap (λ ns. contains ns m) same ∙ other_after n m (live role past) other) (keeps.rows m)
          (ap (λ ns. contains ns n) same ∙ here_after n (live role past), first_row role past n (unread role past n answered keeps.next_is));
      own_is = ap (λ (q : Table). q.own) writes.rest
          ∙ (let was = keeps.own_is in let more = count_then (is_own role) (live role past) n in let one : one_if (is_own role n) ≡ 1 = ap one_if own in let e : old.own + 1 ≡ length (filter (is_own role) (live role past ++ n ∷ [])) = omega arith in e)
          ∙ sym (ap (λ ns. length (filter (is_own role) ns)) same);
      remote_is = ap (λ (q : Table). q.remote) writes.rest
          ∙ (let was = keeps.remote_is in let more = count_then (is_remote role) (live role past) n in let none : one_if (is_remote role n) ≡ 0 = ap one_if (not_remote role n (is_remote role n) refl own) in let e : old.remote ≡ length (filter (is_remote role) (live role past ++ n ∷ [])) = omega arith in e)
          ∙ sym (ap (λ ns. length (filter (is_remote role) ns)) same);
      reading_is = ap (λ (q : Table). q.reading) writes.rest ∙ keeps.reading_is;
      takes = λ m. ap (λ (q : Table). is_taker q.taker m) writes.rest ∙ keeps.takes m ∙ sym (belongs_started role past n m (n == m) refl (unread role past n answered keeps.next_is));
      local_go_away_is = ap (λ (q : Table). q.local_go_away) writes.rest ∙ keeps.local_go_away_is;
      remote_go_away_is = ap (λ (q : Table). q.remote_go_away) writes.rest ∙ keeps.remote_go_away_is;
      next_is = ap (λ (q : Table). q.next) writes.rest;
    }

-- ---- this end goes away

pub gone_away : (role : Role) (past : List Item) (code : ℕ) (old new : Table) → Keeps role past old → new ≡ record old { local_go_away = true } → Keeps role (Did (Act.GoAway code) ∷ past) new
gone_away role past code old new keeps e =
    let same = quiet (live role past) in
    subst (Keeps role (Did (Act.GoAway code) ∷ past)) (sym e) (record {
      role_is = keeps.role_is;
      rows = λ m. apart role past (Act.GoAway code) m (row_at old.rows m) refl (ap (λ ns. contains ns m) same) (keeps.rows m);
      own_is = keeps.own_is ∙ sym (ap (λ ns. length (filter (is_own role) ns)) same);
      remote_is = keeps.remote_is ∙ sym (ap (λ ns. length (filter (is_remote role) ns)) same);
      reading_is = keeps.reading_is;
      takes = λ m. keeps.takes m ∙ sym (belongs_same role past (Act.GoAway code) m refl (ap (λ ns. contains ns m) same));
      local_go_away_is = refl;
      remote_go_away_is = keeps.remote_go_away_is;
      next_is = keeps.next_is;
    })

-- ---- the row that an act changes

pub closing : (role : Role) (past : List Item) (n : ℕ) (s : Row) → live role (Did (Close n) ∷ past) ≡ live role past → Moves role past (Did (Close n)) n s (record s { closed = true })
closing role past n s same = record {
  bound = omega arith;
  not_opened = refl;
  credit = refl;
  window = refl;
  rest = let e = coming_same role past (Close n) n refl (ap (λ ns. contains ns n) same) in omega arith;
  owed_is = omega arith;
  finished_is = refl;
  closed_is = sym (ap (λ b. b || s.closed) (eq-eqb n n refl));
  accepted_is = refl;
}

pub writing : (role : Role) (past : List Item) (n k : ℕ) (pieces : List (List ℕ)) (s : Row) → k ≤ s.credit → sum_by length pieces ≡ k → Moves role past (Did (Write n pieces)) n s (record s { credit = s.credit - k })
writing role past n k pieces s fits sum = record {
  bound = omega arith;
  not_opened = refl;
  credit = let its : written_length n past (Did (Write n pieces)) ≡ sum_by length pieces = ap (λ b. cond b (sum_by length pieces) 0) (eq-eqb n n refl) in omega arith;
  window = refl;
  rest = let e = coming_same role past (Write n pieces) n refl (ap (λ ns. contains ns n) (quiet (live role past))) in omega arith;
  owed_is = omega arith;
  finished_is = refl;
  closed_is = refl;
  accepted_is = refl;
}

-- the output of a Take
pub giving : (role : Role) (past : List Item) (n k g : ℕ) (s : Row) → IsRow role past n s → given_of s.finished (s.owed + k) ≡ g → given_back role n past (Did (Taken n k)) ≡ g
giving role past n k g s row e =
    ap (λ b. cond b (given_of (finished role past n) (owed role past n + k)) 0) (eq-eqb n n refl)
    ∙ ap (λ f. given_of f (owed role past n + k)) (sym row.finished_is) ∙ ap (λ o. given_of s.finished (o + k)) (sym row.owed_is) ∙ e

pub taking : (role : Role) (past : List Item) (n k g : ℕ) (s new : Row) → IsRow role past n s → given_of s.finished (s.owed + k) ≡ g → g ≤ s.owed + k → k ≤ untaken role past n
    → new.window ≡ s.window + g → new.owed + g ≡ s.owed + k
    → new.credit ≡ s.credit → new.finished ≡ s.finished → new.closed ≡ s.closed → new.accepted ≡ s.accepted
    → Moves role past (Did (Taken n k)) n s new
taking role past n k g s new row g_is small fits window owed_is credit finished_is closed_is accepted_is =
    let its : taken_length n past (Did (Taken n k)) ≡ k = ap (λ b. cond b k 0) (eq-eqb n n refl) in
    record {
      not_opened = refl;
      credit = ap (λ c. c + 0) credit;
      window = let e = giving role past n k g s row g_is in omega arith;
      rest = let e = coming_same role past (Taken n k) n refl (ap (λ ns. contains ns n) (quiet (live role past))) in omega arith;
      owed_is = (let e : new.owed ≡ (s.owed + k) - g = omega arith in e) ∙ ap (λ t. (s.owed + k) - t) (sym g_is)
          ∙ sym (ap (λ b. cond b ((s.owed + cond b k 0) - given_of s.finished (s.owed + cond b k 0)) (s.owed + cond b k 0)) (eq-eqb n n refl));
      finished_is = finished_is;
      closed_is = closed_is;
      accepted_is = accepted_is;
      bound = omega arith;
    }

pub none_finished : (f : Bool) (a : ℕ) → f ≡ true → given_of f a ≡ 0
none_finished f a e = ap (λ b. given_of b a) e

pub none_few : (f : Bool) (a : ℕ) → a < 131072 → given_of f a ≡ 0
none_few f a h = ap (λ b. cond (not f && b) a 0) (le-ltb 131071 a (omega arith)) ∙ ap (λ b. cond b a 0) (and_false (not f))

pub all_given : (f : Bool) (a : ℕ) → f ≡ false → 131072 ≤ a → given_of f a ≡ a
all_given f a e h = ap (λ b. given_of b a) e ∙ ap (λ b. cond b a 0) (lt-ltb 131071 a (omega arith))

pub nothing_sent : (role : Role) (past : List Item) (n k : ℕ) (xs : List ℕ) → given_back role n past (Did (Taken n k)) ≡ 0 → xs ≡ xs ++ item_output role past (Did (Taken n k))
nothing_sent role past n k xs e = sym (ap (λ g. xs ++ cond (nat_lt 0 g) (frame Window 0 n g) []) e ∙ append-nil xs)

pub given_sent : (role : Role) (past : List Item) (n k g : ℕ) → given_back role n past (Did (Taken n k)) ≡ g → 131072 ≤ g → frame Window 0 n g ≡ item_output role past (Did (Taken n k))
given_sent role past n k g e h = sym (ap (λ a. cond (nat_lt 0 a) (frame Window 0 n a) []) e ∙ ap (λ b. cond b (frame Window 0 n g) []) (lt-ltb 0 g (omega arith)))

pub as_counted : (role : Role) (past : List Item) (fed sent : List ℕ) (n k m : ℕ) (new : State) → k ≡ m → Stands role (Did (Taken n k) ∷ past) fed sent new → Stands role (Did (Taken n m) ∷ past) fed sent new
as_counted role past fed sent n k m new e at = subst (λ j. Stands role (Did (Taken n j) ∷ past) fed sent new) e at
