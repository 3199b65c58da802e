-- The tail of a frame.
use Rattle.std.proofs.Common.{◌≡◌, ℕ, ◌-◌, Bool, true, false, ◌||◌, ◌&&◌, not, ◌==◌, cond, List, [], ◌∷◌, ◌++◌, length, Option, Some, None, refl, sym, ap, ◌∙◌, subst, arith}
use Rattle.std.proofs.lemmas.List.{append-nil}
use Rattle.std.specs.Prelude.{filter}
use Rattle.std.proofs.lemmas.Bool.{eqb-true, eq-eqb}
use Rattle.yamux_frames.specs.declared.header.Header.{Header}
use Rattle.yamux_frames.specs.Frames.{bytes_left}
use Rattle.yamux_frames.specs.Frames.Arrival.{Tail}
use Rattle.yamux_session.specs.declared.event.Role.{Role}
use Rattle.yamux_session.specs.declared.streams.Row.{Row}
use Rattle.yamux_session.specs.Table.{Table, row_at, is_taker}
use Rattle.yamux_session.specs.History.{Item, arrivals, fin, rst, is_own, is_remote}
use Rattle.yamux_session.specs.History.Item.{Came}
use Rattle.yamux_session.specs.Openings.{live, is_live, reading, is_reading, contains, finished, closed, tail_ends, tail_finishes}
use Rattle.yamux_session.specs.Events.{when, tail_told, tail_events}
use Rattle.yamux_session.specs.Events.{Told}
use Rattle.yamux_session.specs.Acts.{AreAnswered}
use Rattle.yamux_session.specs.Keeps.{Keeps, IsRowAt}
use Rattle.yamux_session.proofs.Lists.{either_way, filter_true, filter_same, without, without_absent, one_if, count_without}
use Rattle.yamux_session.proofs.Live.{distinct}
use Rattle.yamux_session.proofs.Refusals.{row_of}
use Rattle.yamux_session.proofs.Keeping.{Moves, after, none_coming, quiet, and_true, and_false, not_here, still_there}

-- ---- which streams are live after it

chosen_at : (g : ℕ → Bool) (n k : ℕ) (b c : Bool) → (n == k) ≡ c → g n ≡ b → not (n == k && g k) ≡ not (n == k && b)
chosen_at g n k b true is e = ap (λ t. not (n == k && t)) (ap g (sym (eqb-true n k is)) ∙ e)
chosen_at g n k b false is e = ap (λ t. not (t && g k)) is ∙ sym (ap (λ t. not (t && b)) is)

pub ends_or_stays : (g : ℕ → Bool) (n : ℕ) (xs : List ℕ) (b : Bool) → g n ≡ b → filter (λ k. not (n == k && g k)) xs ++ [] ≡ cond b (without n xs) xs
ends_or_stays g n xs true e = append-nil (filter (λ k. not (n == k && g k)) xs) ∙ filter_same (λ k. not (n == k && g k)) (λ k. not (n == k)) xs (λ k. chosen_at g n k true (n == k) refl e ∙ ap not (and_true (n == k)))
ends_or_stays g n xs false e = append-nil (filter (λ k. not (n == k && g k)) xs) ∙ filter_same (λ k. not (n == k && g k)) (λ k. true) xs (λ k. chosen_at g n k false (n == k) refl e ∙ ap not (and_false (n == k))) ∙ filter_true xs

pub none_live : (role : Role) (past : List Item) → reading role past ≡ None → live role (Came Tail ∷ past) ≡ live role past
none_live role past e = ap (λ r. filter (λ k. not (tail_ends r (closed role past k) k)) (live role past) ++ []) e ∙ quiet (live role past)

pub tail_live : (role : Role) (past : List Item) (h : Header) (b : Bool) → reading role past ≡ Some h → (rst h || fin h && closed role past h.stream) ≡ b
    → live role (Came Tail ∷ past) ≡ cond b (without h.stream (live role past)) (live role past)
tail_live role past h b e is =
    ap (λ r. filter (λ k. not (tail_ends r (closed role past k) k)) (live role past) ++ []) e
    ∙ ends_or_stays (λ k. rst h || fin h && closed role past k) h.stream (live role past) b is

-- ---- the rows

pub tail_moves : (role : Role) (past : List Item) (n : ℕ) (s : Row) (f : Bool) → bytes_left (arrivals past) ≡ 0 → tail_finishes (reading role past) n ≡ f → Moves role past (Came Tail) n s (record s { finished = f || s.finished })
tail_moves role past n s f whole e = record {
  not_opened = refl;
  credit = refl;
  window = refl;
  rest = let none = none_coming role past n whole in omega arith;
  owed_is = omega arith;
  finished_is = ap (λ t. t || s.finished) (sym e);
  closed_is = refl;
  accepted_is = refl;
  bound = omega arith;
}

tail_apart : (role : Role) (past : List Item) (n : ℕ) (row : Option Row) → bytes_left (arrivals past) ≡ 0 → tail_finishes (reading role past) n ≡ false → is_live role (Came Tail ∷ past) n ≡ is_live role past n → IsRowAt role past n row → IsRowAt role (Came Tail ∷ past) n row
tail_apart role past n None whole off same at = same ∙ at
tail_apart role past n (Some s) whole off same at = (same ∙ at.0, after role past (Came Tail) n s s (tail_moves role past n s false whole off) at.1)

rows_by : (role : Role) (past : List Item) (x : Item) (n m : ℕ) (w : Option Row) (old new : Option Row) (b : Bool) → (n == m) ≡ b → new ≡ cond (n == m) w old
    → ((n == m) ≡ false → IsRowAt role (x ∷ past) m old) → IsRowAt role (x ∷ past) n w → IsRowAt role (x ∷ past) m new
rows_by role past x n m w old new true is e other here = subst (IsRowAt role (x ∷ past) m) (sym (e ∙ ap (λ b. cond b w old) is)) (subst (λ k. IsRowAt role (x ∷ past) k w) (eqb-true n m is) here)
rows_by role past x n m w old new false is e other here = subst (IsRowAt role (x ∷ past) m) (sym (e ∙ ap (λ b. cond b w old) is)) (other is)

finishes_apart : (role : Role) (past : List Item) (h : Header) (m : ℕ) → reading role past ≡ Some h → (h.stream == m) ≡ false → tail_finishes (reading role past) m ≡ false
finishes_apart role past h m e other = ap (λ r. tail_finishes r m) e ∙ ap (λ t. t && fin h) other

-- ---- the table after it

-- of a frame that ends no direction of a stream
tail_still : (role : Role) (past : List Item) (old new : Table) → bytes_left (arrivals past) ≡ 0 → Keeps role past old → live role (Came Tail ∷ past) ≡ live role past
    → ((m : ℕ) → tail_finishes (reading role past) m ≡ false) → new ≡ record old { reading = None; taker = None } → Keeps role (Came Tail ∷ past) new
tail_still role past old new whole keeps same off rest =
    subst (Keeps role (Came Tail ∷ past)) (sym rest) (record {
      role_is = keeps.role_is;
      rows = λ m. tail_apart role past m (row_at old.rows m) whole (off m) (ap (λ ns. contains ns m) same) (keeps.rows m);
      own_is = keeps.own_is ∙ sym (ap (λ ns. length (filter (is_own role) ns)) same);
      remote_is = keeps.remote_is ∙ sym (ap (λ ns. length (filter (is_remote role) ns)) same);
      reading_is = refl;
      takes = λ m. refl;
      local_go_away_is = keeps.local_go_away_is;
      remote_go_away_is = keeps.remote_go_away_is;
      next_is = keeps.next_is;
    })

no_taker : (t : Option ℕ) → ((n : ℕ) → is_taker t n ≡ false) → t ≡ None
no_taker None none = refl
no_taker (Some k) none = absurd (let e : true ≡ false = sym (eq-eqb k k refl) ∙ none k in cc)

-- of no stream's frame
pub tail_of_none : (role : Role) (past : List Item) (old new : Table) → bytes_left (arrivals past) ≡ 0 → Keeps role past old → old.reading ≡ None → new ≡ old → Keeps role (Came Tail ∷ past) new
tail_of_none role past old new whole keeps none rest =
    let read : reading role past ≡ None = sym keeps.reading_is ∙ none in
    let free = no_taker old.taker (λ n. keeps.takes n ∙ ap (λ r. (is_reading r n && is_live role past n) && not (finished role past n)) read) in
    tail_still role past old new whole keeps (none_live role past read) (λ m. ap (λ r. tail_finishes r m) read)
    (rest ∙ ap (λ (r : Option Header). record old { reading = r }) none ∙ ap (λ (t : Option ℕ). record old { reading = None; taker = t }) free)

-- of a frame without FIN and RST
pub tail_plain : (role : Role) (past : List Item) (h : Header) (old new : Table) → bytes_left (arrivals past) ≡ 0 → Keeps role past old → old.reading ≡ Some h → rst h ≡ false → fin h ≡ false
    → new ≡ record old { reading = None; taker = None } → Keeps role (Came Tail ∷ past) new
tail_plain role past h old new whole keeps some no_rst no_fin rest =
    let read : reading role past ≡ Some h = sym keeps.reading_is ∙ some in
    tail_still role past old new whole keeps
    (tail_live role past h false read (ap (λ r. r || fin h && closed role past h.stream) no_rst ∙ ap (λ f. f && closed role past h.stream) no_fin))
    (λ m. ap (λ r. tail_finishes r m) read ∙ ap (λ f. h.stream == m && f) no_fin ∙ and_false (h.stream == m)) rest

-- of a frame for a stream that isn't live any more, or whose flags end nothing, or which ends the other end's direction
pub tail_stays : (role : Role) (past : List Item) (h : Header) (w : Option Row) (old new : Table) → bytes_left (arrivals past) ≡ 0 → Keeps role past old → old.reading ≡ Some h
    → live role (Came Tail ∷ past) ≡ live role past → ((m : ℕ) → row_at new.rows m ≡ cond (h.stream == m) w (row_at old.rows m))
    → IsRowAt role (Came Tail ∷ past) h.stream w → new ≡ record old { rows = new.rows; reading = None; taker = None } → Keeps role (Came Tail ∷ past) new
tail_stays role past h w old new whole keeps some same writes here rest =
    let read : reading role past ≡ Some h = sym keeps.reading_is ∙ some in
    record {
      role_is = ap (λ (q : Table). q.role) rest ∙ keeps.role_is;
      rows = λ m. rows_by role past (Came Tail) h.stream m w (row_at old.rows m) (row_at new.rows m) (h.stream == m) refl (writes m)
          (λ other. tail_apart role past m (row_at old.rows m) whole (finishes_apart role past h m read other) (ap (λ ns. contains ns m) same) (keeps.rows m)) here;
      own_is = ap (λ (q : Table). q.own) rest ∙ keeps.own_is ∙ sym (ap (λ ns. length (filter (is_own role) ns)) same);
      remote_is = ap (λ (q : Table). q.remote) rest ∙ keeps.remote_is ∙ sym (ap (λ ns. length (filter (is_remote role) ns)) same);
      reading_is = ap (λ (q : Table). q.reading) rest;
      takes = λ m. ap (λ (q : Table). is_taker q.taker m) rest;
      local_go_away_is = ap (λ (q : Table). q.local_go_away) rest ∙ keeps.local_go_away_is;
      remote_go_away_is = ap (λ (q : Table). q.remote_go_away) rest ∙ keeps.remote_go_away_is;
      next_is = ap (λ (q : Table). q.next) rest ∙ keeps.next_is;
    }

-- of a frame that ends a live stream
pub tail_forgets : (role : Role) (past : List Item) (h : Header) (s : Row) (old new : Table) → bytes_left (arrivals past) ≡ 0 → AreAnswered role past → Keeps role past old → old.reading ≡ Some h → row_at old.rows h.stream ≡ Some s
    → (rst h || fin h && s.closed) ≡ true → ((m : ℕ) → row_at new.rows m ≡ cond (h.stream == m) None (row_at old.rows m))
    → new ≡ record old { rows = new.rows; own = old.own - cond (is_own old.role h.stream) 1 0; remote = old.remote - cond (is_remote old.role h.stream) 1 0; reading = None; taker = None } → Keeps role (Came Tail ∷ past) new
tail_forgets role past h s old new whole answered keeps some found ended writes rest =
    let n : ℕ = h.stream in
    let read : reading role past ≡ Some h = sym keeps.reading_is ∙ some in
    let before = row_of role past old n (Some s) keeps found in
    let gone : live role (Came Tail ∷ past) ≡ without n (live role past) = tail_live role past h true read (ap (λ c. rst h || fin h && c) (sym before.1.closed_is) ∙ ended) in
    let d = distinct role past answered in
    record {
      role_is = ap (λ (q : Table). q.role) rest ∙ keeps.role_is;
      rows = λ m. rows_by role past (Came Tail) n m None (row_at old.rows m) (row_at new.rows m) (n == m) refl (writes m)
          (λ other. tail_apart role past m (row_at old.rows m) whole (finishes_apart role past h m read other) (ap (λ ns. contains ns m) gone ∙ still_there n m (live role past) other) (keeps.rows m))
          (ap (λ ns. contains ns n) gone ∙ not_here n (live role past));
      own_is = ap (λ (q : Table). q.own) rest ∙ ap (λ (r : Role). old.own - cond (is_own r n) 1 0) keeps.role_is
          ∙ (let count = count_without (is_own role) n (live role past) d before.0 in let was = keeps.own_is in let e : old.own - one_if (is_own role n) ≡ length (filter (is_own role) (without n (live role past))) = omega arith in e)
          ∙ sym (ap (λ ns. length (filter (is_own role) ns)) gone);
      remote_is = ap (λ (q : Table). q.remote) rest ∙ ap (λ (r : Role). old.remote - cond (is_remote r n) 1 0) keeps.role_is
          ∙ (let count = count_without (is_remote role) n (live role past) d before.0 in let was = keeps.remote_is in let e : old.remote - one_if (is_remote role n) ≡ length (filter (is_remote role) (without n (live role past))) = omega arith in e)
          ∙ sym (ap (λ ns. length (filter (is_remote role) ns)) gone);
      reading_is = ap (λ (q : Table). q.reading) rest;
      takes = λ m. ap (λ (q : Table). is_taker q.taker m) rest;
      local_go_away_is = ap (λ (q : Table). q.local_go_away) rest ∙ keeps.local_go_away_is;
      remote_go_away_is = ap (λ (q : Table). q.remote_go_away) rest ∙ keeps.remote_go_away_is;
      next_is = ap (λ (q : Table). q.next) rest ∙ keeps.next_is;
    }

pub tail_absent : (role : Role) (past : List Item) (h : Header) (old new : Table) → bytes_left (arrivals past) ≡ 0 → Keeps role past old → old.reading ≡ Some h → row_at old.rows h.stream ≡ None → new ≡ record old { reading = None; taker = None } → Keeps role (Came Tail ∷ past) new
tail_absent role past h old new whole keeps some found rest =
    let n : ℕ = h.stream in
    let read : reading role past ≡ Some h = sym keeps.reading_is ∙ some in
    let off = row_of role past old n None keeps found in
    let same : live role (Came Tail ∷ past) ≡ live role past = tail_live role past h (rst h || fin h && closed role past n) read refl ∙ either (rst h || fin h && closed role past n) off in
    subst (Keeps role (Came Tail ∷ past)) (sym rest)
    (tail_stays role past h None old (record old { reading = None; taker = None }) whole keeps some same (λ m. gone m (n == m) refl) (ap (λ ns. contains ns n) same ∙ off) refl)
  where
    either : (b : Bool) → contains (live role past) h.stream ≡ false → cond b (without h.stream (live role past)) (live role past) ≡ live role past
    either true off = without_absent h.stream (live role past) off
    either false off = refl

    gone : (m : ℕ) (b : Bool) → (h.stream == m) ≡ b → row_at old.rows m ≡ cond (h.stream == m) None (row_at old.rows m)
    gone m true is = ap (row_at old.rows) (sym (eqb-true h.stream m is)) ∙ found ∙ sym (ap (λ b. cond b None (row_at old.rows m)) is)
    gone m false is = sym (ap (λ b. cond b None (row_at old.rows m)) is)

-- the row of the stream whose frame it was, which goes on
finished_row : (role : Role) (past : List Item) (h : Header) (s : Row) → bytes_left (arrivals past) ≡ 0 → reading role past ≡ Some h → live role (Came Tail ∷ past) ≡ live role past
    → IsRowAt role past h.stream (Some s) → IsRowAt role (Came Tail ∷ past) h.stream (Some (record s { finished = fin h || s.finished }))
finished_row role past h s whole read same at =
    let n : ℕ = h.stream in (
      ap (λ ns. contains ns n) same ∙ at.0,
      after role past (Came Tail) n s (record s { finished = fin h || s.finished }) (tail_moves role past n s (fin h) whole (ap (λ r. tail_finishes r n) read ∙ ap (λ t. t && fin h) (eq-eqb n n refl))) at.1,
    )

-- FIN: the other end's direction has ended
pub tail_finished : (role : Role) (past : List Item) (h : Header) (s : Row) (old new : Table) → bytes_left (arrivals past) ≡ 0 → Keeps role past old → old.reading ≡ Some h → row_at old.rows h.stream ≡ Some s
    → (rst h || fin h && s.closed) ≡ false → ((m : ℕ) → row_at new.rows m ≡ cond (h.stream == m) (Some (record s { finished = fin h || s.finished })) (row_at old.rows m))
    → new ≡ record old { rows = new.rows; reading = None; taker = None } → Keeps role (Came Tail ∷ past) new
tail_finished role past h s old new whole keeps some found open_still writes rest =
    let n : ℕ = h.stream in
    let read : reading role past ≡ Some h = sym keeps.reading_is ∙ some in
    let before = row_of role past old n (Some s) keeps found in
    let same : live role (Came Tail ∷ past) ≡ live role past = tail_live role past h false read (ap (λ c. rst h || fin h && c) (sym before.1.closed_is) ∙ open_still) in
    tail_stays role past h (Some (record s { finished = fin h || s.finished })) old new whole keeps some same writes (finished_row role past h s whole read same before) rest

-- ---- the row of a stream after it

ended_row : (role : Role) (past : List Item) (h : Header) (row : Option Row) (b : Bool) → bytes_left (arrivals past) ≡ 0 → reading role past ≡ Some h → (rst h || fin h && closed role past h.stream) ≡ b
    → IsRowAt role past h.stream row → (new : Option Row) × IsRowAt role (Came Tail ∷ past) h.stream new
ended_row role past h row true whole read is at = (None, ap (λ ns. contains ns h.stream) (tail_live role past h true read is) ∙ not_here h.stream (live role past))
ended_row role past h None false whole read is at = (None, ap (λ ns. contains ns h.stream) (tail_live role past h false read is) ∙ at)
ended_row role past h (Some s) false whole read is at = (Some (record s { finished = fin h || s.finished }), finished_row role past h s whole read (tail_live role past h false read is) at)

other_row : (role : Role) (past : List Item) (h : Header) (n : ℕ) (row : Option Row) (b : Bool) → bytes_left (arrivals past) ≡ 0 → reading role past ≡ Some h → (rst h || fin h && closed role past h.stream) ≡ b
    → (h.stream == n) ≡ false → IsRowAt role past n row → IsRowAt role (Came Tail ∷ past) n row
other_row role past h n row true whole read is other at =
    tail_apart role past n row whole (finishes_apart role past h n read other) (ap (λ ns. contains ns n) (tail_live role past h true read is) ∙ still_there h.stream n (live role past) other) at
other_row role past h n row false whole read is other at =
    tail_apart role past n row whole (finishes_apart role past h n read other) (ap (λ ns. contains ns n) (tail_live role past h false read is)) at

row_of_frame : (role : Role) (past : List Item) (h : Header) (n : ℕ) (row : Option Row) (b : Bool) → bytes_left (arrivals past) ≡ 0 → reading role past ≡ Some h → (h.stream == n) ≡ b
    → IsRowAt role past n row → (new : Option Row) × IsRowAt role (Came Tail ∷ past) n new
row_of_frame role past h n row false whole read other at = (row, other_row role past h n row (rst h || fin h && closed role past h.stream) whole read refl other at)
row_of_frame role past h n row true whole read same at =
    subst (λ k. IsRowAt role past k row → (new : Option Row) × IsRowAt role (Came Tail ∷ past) k new) (eqb-true h.stream n same)
    (ended_row role past h row (rst h || fin h && closed role past h.stream) whole read refl) at

pub tail_row : (role : Role) (past : List Item) (n : ℕ) (row : Option Row) (r : Option Header) → bytes_left (arrivals past) ≡ 0 → reading role past ≡ r
    → IsRowAt role past n row → (new : Option Row) × IsRowAt role (Came Tail ∷ past) n new
tail_row role past n row None whole read at = (row, tail_apart role past n row whole (ap (λ t. tail_finishes t n) read) (ap (λ ns. contains ns n) (none_live role past read)) at)
tail_row role past n row (Some h) whole read at = row_of_frame role past h n row (h.stream == n) whole read refl at

-- ---- what it tells

module _ (role : Role) (past : List Item) (old : Table) (keeps : Keeps role past old) where
  pub tells_none : old.reading ≡ None → [] ≡ tail_events role past (reading role past)
  tells_none e = sym (ap (tail_events role past) (sym keeps.reading_is ∙ e))

  tells_at : (h : Header) (b : Bool) → old.reading ≡ Some h → is_live role past h.stream ≡ b → tail_events role past (reading role past) ≡ cond b (tail_told h (finished role past h.stream)) []
  tells_at h b e is = ap (tail_events role past) (sym keeps.reading_is ∙ e) ∙ ap (λ t. cond t (tail_told h (finished role past h.stream)) []) is

  pub tells_absent : (h : Header) → old.reading ≡ Some h → row_at old.rows h.stream ≡ None → [] ≡ tail_events role past (reading role past)
  tells_absent h e found = sym (tells_at h false e (row_of role past old h.stream None keeps found))

  pub tells_plain : (h : Header) → old.reading ≡ Some h → rst h ≡ false → fin h ≡ false → [] ≡ tail_events role past (reading role past)
  tells_plain h e no_rst no_fin =
      let ended : Bool = finished role past h.stream in
      sym (tells_at h (is_live role past h.stream) e refl
      ∙ ap (λ r. cond (is_live role past h.stream) (cond r (Told.Reset h.stream ∷ []) (when (fin h && not ended) (Told.Ended h.stream))) []) no_rst
      ∙ ap (λ f. cond (is_live role past h.stream) (when (f && not ended) (Told.Ended h.stream)) []) no_fin
      ∙ either_way (is_live role past h.stream) [])

  pub tells_row : (h : Header) (s : Row) → old.reading ≡ Some h → row_at old.rows h.stream ≡ Some s → tail_told h s.finished ≡ tail_events role past (reading role past)
  tells_row h s e found =
      let at = row_of role past old h.stream (Some s) keeps found in
      ap (tail_told h) at.1.finished_is ∙ sym (tells_at h true e at.0)
