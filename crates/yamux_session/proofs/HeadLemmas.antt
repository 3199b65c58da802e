-- The table after the head of a frame.
use Rattle.std.proofs.Common.{◌≡◌, ℕ, ◌+◌, ◌≤◌, Bool, true, false, ◌||◌, ◌&&◌, not, ◌==◌, cond, nat_lt, List, [], ◌∷◌, ◌++◌, length, Option, Some, None, refl, sym, ap, ◌∙◌, subst, arith}
use Rattle.std.specs.Prelude.{filter}
use Rattle.std.proofs.lemmas.Bool.{eqb-true, eq-eqb, ltb-false}
use Rattle.yamux_frames.specs.declared.header.Header.{Header}
use Rattle.yamux_frames.specs.declared.header.FrameKind.{FrameKind}
use Rattle.yamux_frames.specs.declared.header.FrameKind.TheVariants.{Payload, Window, Ping, GoAway}
use Rattle.yamux_frames.specs.Spelling.{payload_length, length_of}
use Rattle.yamux_frames.specs.Frames.{bytes_left}
use Rattle.yamux_frames.specs.Frames.Arrival.{Head}
use Rattle.yamux_session.specs.declared.event.Role.{Role}
use Rattle.yamux_session.specs.declared.event.Fault.{Fault}
use Rattle.yamux_session.specs.declared.event.Fault.TheVariants.{WrongParity, DuplicateStream, WindowExceeded, WindowTooLarge}
use Rattle.yamux_session.specs.declared.streams.Row.{Row}
use Rattle.yamux_session.specs.Table.{Table, row_at, is_taker, opened}
use Rattle.yamux_session.specs.History.{Item, arrivals, syn, ack, is_data, is_update, is_go_away, is_of_stream, is_own, is_remote}
use Rattle.yamux_session.specs.History.Item.{Came}
use Rattle.yamux_session.specs.Openings.{live, is_live, is_reading, contains, opens, finished, closed, head_belongs, byte_belongs, is_let_in, is_for_stream, local_go_away}
use Rattle.yamux_session.specs.Windows.{initial_window, written_length, update_length, data_length, given_back, taken_length, arrived_length, owed, accepted, acks, credit, receiving_window, coming}
use Rattle.yamux_session.specs.Faults.{fault_at, syn_fault, window_fault, window_at, credit_at, or_else}
use Rattle.yamux_session.specs.Keeps.{Keeps, IsRow, IsRowAt}
use Rattle.yamux_session.specs.Heads.{charged, row_fault, HeadDone}
use Rattle.yamux_session.proofs.Lists.{and_parts, not_true, filter_true, one_if, count_then}
use Rattle.yamux_session.proofs.Live.{not_both}
use Rattle.yamux_session.proofs.Refusals.{row_of, credit_is}
use Rattle.yamux_session.proofs.Keeping.{Moves, after, none_coming, quiet, and_true, and_false, since_first, here_after, other_after}

-- ---- booleans

payload_is : (k : FrameKind) (n : ℕ) → length_of k n ≡ cond (is_data k) n 0
payload_is Payload n = refl
payload_is Window n = refl
payload_is Ping n = refl
payload_is GoAway n = refl

fits_if : (b : Bool) (n w : ℕ) → (b ≡ true → n ≤ w) → cond b n 0 ≤ w
fits_if true n w h = h refl
fits_if false n w h = omega arith

none_if : (b : Bool) (n : ℕ) → b ≡ false → cond b n 0 ≡ 0
none_if b n e = ap (λ c. cond c n 0) e

-- a head of another stream, or none, isn't read for this one
unread_if : (b c : Bool) (h : Header) (n : ℕ) → (h.stream == n) ≡ c → c ≡ false → is_reading (cond b (Some h) None) n ≡ false
unread_if true c h n e off = e ∙ off
unread_if false c h n e off = refl

not_unless : (forit d f : Bool) → (true && forit) && not (d && f) ≡ false → forit && not f ≡ false
not_unless true true true e = refl
not_unless true true false e = absurd cc
not_unless true false true e = refl
not_unless true false false e = absurd cc
not_unless false d f e = refl

cut_middle : (a b c : Bool) → a && c ≡ false → (a && b) && c ≡ false
cut_middle true true c e = e
cut_middle true false c e = refl
cut_middle false b c e = refl

-- a frame of a stream is no GoAway
pub stays_there : (h : Header) → is_of_stream h ≡ true → is_go_away h.kind ≡ false
stays_there h e = by h.kind e
  where
    by : (k : FrameKind) → is_data k || is_update k ≡ true → is_go_away k ≡ false
    by Payload e = refl
    by Window e = refl
    by Ping e = absurd cc
    by GoAway e = absurd cc

-- ---- the head, asked of its list

module _ (role : Role) (past : List Item) (h : Header) where
  abbrev lets : Bool
  lets = is_of_stream h && syn h && is_let_in role (live role past) (local_go_away past) h

  abbrev for_it : Bool
  for_it = is_for_stream role (live role past) (local_go_away past) h

  pub opens_not : lets ≡ false → (n : ℕ) → opens role past (Came (Head h)) n ≡ false
  opens_not e n = ap (λ b. contains (cond b (h.stream ∷ []) []) n) e

  pub opens_here : lets ≡ true → opens role past (Came (Head h)) h.stream ≡ true
  opens_here e = ap (λ b. contains (cond b (h.stream ∷ []) []) h.stream) e ∙ ap (λ b. b || false) (eq-eqb h.stream h.stream refl)

  other_at : (b : Bool) (n : ℕ) → (h.stream == n) ≡ false → contains (cond b (h.stream ∷ []) []) n ≡ false
  other_at true n e = ap (λ c. c || false) e
  other_at false n e = refl

  pub opens_other : (n : ℕ) → (h.stream == n) ≡ false → opens role past (Came (Head h)) n ≡ false
  opens_other n e = other_at lets n e

  pub live_not : lets ≡ false → live role (Came (Head h) ∷ past) ≡ live role past
  live_not e = ap (λ b. filter (λ k. true) (live role past) ++ cond b (h.stream ∷ []) []) e ∙ quiet (live role past)

  pub live_opened : lets ≡ true → live role (Came (Head h) ∷ past) ≡ live role past ++ h.stream ∷ []
  live_opened e = ap (λ b. filter (λ k. true) (live role past) ++ cond b (h.stream ∷ []) []) e ∙ ap (λ (ns : List ℕ). ns ++ h.stream ∷ []) (filter_true (live role past))

  live_by : (b : Bool) → lets ≡ b → (n : ℕ) → (h.stream == n) ≡ false → is_live role (Came (Head h) ∷ past) n ≡ is_live role past n
  live_by true e n other = ap (λ ns. contains ns n) (live_opened e) ∙ other_after h.stream n (live role past) other
  live_by false e n other = ap (λ ns. contains ns n) (live_not e)

  pub live_other : (n : ℕ) → (h.stream == n) ≡ false → is_live role (Came (Head h) ∷ past) n ≡ is_live role past n
  live_other n other = live_by lets refl n other

  belongs_other : (n : ℕ) → (h.stream == n) ≡ false → head_belongs role past h n ≡ false
  belongs_other n e = ap (λ b. (b && for_it) && not ((is_data h.kind && not (syn h)) && finished role past n)) e

  unread_other : (n : ℕ) → (h.stream == n) ≡ false → byte_belongs role (Came (Head h) ∷ past) n ≡ false
  unread_other n e =
      ap (λ b. (b && is_live role (Came (Head h) ∷ past) n) && not (finished role (Came (Head h) ∷ past) n)) (unread_if for_it (h.stream == n) h n refl e)

  -- what doesn't belong has no bytes that do
  reads_if : (b : Bool) → for_it ≡ b → is_reading (cond for_it (Some h) None) h.stream ≡ b
  reads_if true e = ap (λ c. is_reading (cond c (Some h) None) h.stream) e ∙ eq-eqb h.stream h.stream refl
  reads_if false e = ap (λ c. is_reading (cond c (Some h) None) h.stream) e

  unread_here : lets ≡ false → head_belongs role past h h.stream ≡ false → byte_belongs role (Came (Head h) ∷ past) h.stream ≡ false
  unread_here none off =
      let off2 : (true && for_it) && not ((is_data h.kind && not (syn h)) && finished role past h.stream) ≡ false =
      sym (ap (λ b. (b && for_it) && not ((is_data h.kind && not (syn h)) && finished role past h.stream)) (eq-eqb h.stream h.stream refl)) ∙ off in
      ap (λ b. (b && is_live role (Came (Head h) ∷ past) h.stream) && not (finished role (Came (Head h) ∷ past) h.stream)) (reads_if for_it refl)
      ∙ ap (λ b. (for_it && is_live role (Came (Head h) ∷ past) h.stream) && not (not b && finished role past h.stream)) (opens_not none h.stream)
      ∙ cut_middle for_it (is_live role (Came (Head h) ∷ past) h.stream) (not (finished role past h.stream)) (not_unless for_it (is_data h.kind && not (syn h)) (finished role past h.stream) off2)

  pub unread_any : lets ≡ false → head_belongs role past h h.stream ≡ false → (n : ℕ) (b : Bool) → (h.stream == n) ≡ b → byte_belongs role (Came (Head h) ∷ past) n ≡ false
  unread_any none off n true is = subst (λ k. byte_belongs role (Came (Head h) ∷ past) k ≡ false) (eqb-true h.stream n is) (unread_here none off)
  unread_any none off n false is = unread_other n is

  -- what belongs is read from here on, unless the other end's direction has ended
  belongs_for : head_belongs role past h h.stream ≡ true → for_it ≡ true
  belongs_for its = (and_parts (h.stream == h.stream) for_it (and_parts ((h.stream == h.stream) && for_it) (not ((is_data h.kind && not (syn h)) && finished role past h.stream)) its).0).1

  -- Data doesn't belong behind the other end's FIN
  goes_on : syn h ≡ false → head_belongs role past h h.stream ≡ true → is_data h.kind && finished role past h.stream ≡ false
  goes_on plain its =
      sym (ap (λ b. b && finished role past h.stream) (ap (λ b. is_data h.kind && not b) plain ∙ and_true (is_data h.kind)))
      ∙ not_true ((is_data h.kind && not (syn h)) && finished role past h.stream)
      (and_parts ((h.stream == h.stream) && for_it) (not ((is_data h.kind && not (syn h)) && finished role past h.stream)) its).1

  read_here : (f : Bool) → head_belongs role past h h.stream ≡ true → is_live role (Came (Head h) ∷ past) h.stream ≡ true → finished role (Came (Head h) ∷ past) h.stream ≡ f
      → byte_belongs role (Came (Head h) ∷ past) h.stream ≡ not f
  read_here f its on ended =
      ap (λ b. (b && is_live role (Came (Head h) ∷ past) h.stream) && not (finished role (Came (Head h) ∷ past) h.stream)) (reads_if true (belongs_for its))
      ∙ ap (λ b. b && not (finished role (Came (Head h) ∷ past) h.stream)) on ∙ ap not ended

  read_plain : lets ≡ false → is_live role past h.stream ≡ true → head_belongs role past h h.stream ≡ true → byte_belongs role (Came (Head h) ∷ past) h.stream ≡ not (finished role past h.stream)
  read_plain none on its =
      read_here (finished role past h.stream) its (ap (λ ns. contains ns h.stream) (live_not none) ∙ on) (ap (λ b. not b && finished role past h.stream) (opens_not none h.stream))

  read_opened : lets ≡ true → head_belongs role past h h.stream ≡ true → byte_belongs role (Came (Head h) ∷ past) h.stream ≡ true
  read_opened lets_it its =
      read_here false its (ap (λ ns. contains ns h.stream) (live_opened lets_it) ∙ here_after h.stream (live role past)) (ap (λ b. not b && finished role past h.stream) (opens_here lets_it))

  -- so all data that a head announces is to come
  coming_if : (b : Bool) → byte_belongs role (Came (Head h) ∷ past) h.stream ≡ b → (is_data h.kind ≡ true → b ≡ true) → coming role (Came (Head h) ∷ past) h.stream ≡ cond (is_data h.kind) h.length 0
  coming_if b is all = ap (λ c. cond c (payload_length h) 0) is ∙ ap (λ k. cond b k 0) (payload_is h.kind h.length) ∙ by (is_data h.kind) b all
    where
      by : (d c : Bool) → (d ≡ true → c ≡ true) → cond c (cond d h.length 0) 0 ≡ cond d h.length 0
      by d true all = refl
      by false false all = refl
      by true false all = absurd (let e : false ≡ true = all refl in cc)

  coming_plain : lets ≡ false → syn h ≡ false → is_live role past h.stream ≡ true → head_belongs role past h h.stream ≡ true → coming role (Came (Head h) ∷ past) h.stream ≡ cond (is_data h.kind) h.length 0
  coming_plain none plain on its =
      coming_if (not (finished role past h.stream)) (read_plain none on its) (λ kind. ap not (sym (ap (λ b. b && finished role past h.stream) kind) ∙ goes_on plain its))

  coming_opened : lets ≡ true → head_belongs role past h h.stream ≡ true → coming role (Came (Head h) ∷ past) h.stream ≡ cond (is_data h.kind) h.length 0
  coming_opened lets_it its = coming_if true (read_opened lets_it its) (λ kind. refl)

  -- ---- the rows

  unmoved : (n : ℕ) (s : Row) → bytes_left (arrivals past) ≡ 0 → opens role past (Came (Head h)) n ≡ false → head_belongs role past h n ≡ false → byte_belongs role (Came (Head h) ∷ past) n ≡ false
      → Moves role past (Came (Head h)) n s s
  unmoved n s between shut off unread = record {
    not_opened = shut;
    credit = sym (ap (λ b. s.credit + cond (b && is_update h.kind) h.length 0) off);
    window = ap (λ b. s.window + cond (b && is_data h.kind) h.length 0) off;
    rest = let was = none_coming role past n between in let none : coming role (Came (Head h) ∷ past) n ≡ 0 = none_if (byte_belongs role (Came (Head h) ∷ past) n) (payload_length h) unread in omega arith;
    owed_is = omega arith;
    finished_is = refl;
    closed_is = refl;
    accepted_is = sym (ap (λ b. b && ack h || s.accepted) off);
    bound = omega arith;
  }

  moved : (s : Row) → bytes_left (arrivals past) ≡ 0 → lets ≡ false → syn h ≡ false → is_live role past h.stream ≡ true → head_belongs role past h h.stream ≡ true → (is_data h.kind ≡ true → h.length ≤ s.window)
      → Moves role past (Came (Head h)) h.stream s (record (charged s h) { accepted = ack h || s.accepted })
  moved s between none plain on its fits =
      let used : ℕ = cond (is_data h.kind) h.length 0 in
      let room : used ≤ s.window = fits_if (is_data h.kind) h.length s.window fits in
      record {
        not_opened = opens_not none h.stream;
        credit = let sum : update_length role h.stream past (Came (Head h)) ≡ cond (is_update h.kind) h.length 0 = ap (λ b. cond (b && is_update h.kind) h.length 0) its in omega arith;
        window = let sum : data_length role h.stream past (Came (Head h)) ≡ used = ap (λ b. cond (b && is_data h.kind) h.length 0) its in omega arith;
        rest = let was = none_coming role past h.stream between in let all = coming_plain none plain on its in omega arith;
        owed_is = omega arith;
        finished_is = refl;
        closed_is = refl;
        accepted_is = sym (ap (λ b. b && ack h || s.accepted) its);
        bound = omega arith;
      }

  first : lets ≡ true → head_belongs role past h h.stream ≡ true → (is_data h.kind ≡ true → h.length ≤ 262144)
      → IsRow role (Came (Head h) ∷ past) h.stream (charged opened h)
  first lets_it its fits =
      let n : ℕ = h.stream in
      let here = opens_here lets_it in
      let all = coming_opened lets_it its in
      let used : ℕ = cond (is_data h.kind) h.length 0 in
      let room : used ≤ 262144 = fits_if (is_data h.kind) h.length 262144 fits in
      let start = λ (amount : List Item → Item → ℕ). since_first amount role past (Came (Head h)) n here in
      let up : update_length role n past (Came (Head h)) ≡ cond (is_update h.kind) h.length 0 = ap (λ b. cond (b && is_update h.kind) h.length 0) its in
      let down : data_length role n past (Came (Head h)) ≡ used = ap (λ b. cond (b && is_data h.kind) h.length 0) its in
      record {
        credit = omega (arith, start (written_length n), start (update_length role n));
        window = omega (arith, start (data_length role n), start (given_back role n));
        untaken = omega (arith, start (taken_length n), start (arrived_length role n));
        owed_is = sym (ap (λ b. cond b 0 (owed role past n + 0)) here);
        finished_is = sym (ap (λ b. not b && finished role past n) here);
        closed_is = sym (ap (λ b. not b && closed role past n) here);
        accepted_is = sym (ap (λ b. not b && (acks role past (Came (Head h)) n || accepted role past n)) here);
        bound = omega (arith, start (taken_length n), start (arrived_length role n));
      }

  apart : (n : ℕ) (row : Option Row) → bytes_left (arrivals past) ≡ 0 → (h.stream == n) ≡ false → IsRowAt role past n row → IsRowAt role (Came (Head h) ∷ past) n row
  apart n None between other at = live_other n other ∙ at
  apart n (Some s) between other at = (live_other n other ∙ at.0, after role past (Came (Head h)) n s s (unmoved n s between (opens_other n other) (belongs_other n other) (unread_other n other)) at.1)

  -- the head changes no row
  pub still : (row : Option Row) → bytes_left (arrivals past) ≡ 0 → lets ≡ false → head_belongs role past h h.stream ≡ false → IsRowAt role past h.stream row → IsRowAt role (Came (Head h) ∷ past) h.stream row
  still None between none off at = ap (λ ns. contains ns h.stream) (live_not none) ∙ at
  still (Some s) between none off at = (
    ap (λ ns. contains ns h.stream) (live_not none) ∙ at.0,
    after role past (Came (Head h)) h.stream s s (unmoved h.stream s between (opens_not none h.stream) off (unread_here none off)) at.1,
  )

  -- ---- the table

  row_by : (n : ℕ) (w : Option Row) (old new : Option Row) (b : Bool) → bytes_left (arrivals past) ≡ 0 → (h.stream == n) ≡ b → new ≡ cond (h.stream == n) w old
      → IsRowAt role past n old → IsRowAt role (Came (Head h) ∷ past) h.stream w → IsRowAt role (Came (Head h) ∷ past) n new
  row_by n w old new true between is e before here =
      subst (IsRowAt role (Came (Head h) ∷ past) n) (sym (e ∙ ap (λ b. cond b w old) is)) (subst (λ k. IsRowAt role (Came (Head h) ∷ past) k w) (eqb-true h.stream n is) here)
  row_by n w old new false between is e before here = subst (IsRowAt role (Came (Head h) ∷ past) n) (sym (e ∙ ap (λ b. cond b w old) is)) (apart n old between is before)

  pub keeps_by : (w : Option Row) (remote : ℕ) (gone : Bool) (read : Option Header) (takes : Option ℕ) (old new : Table) → bytes_left (arrivals past) ≡ 0 → Keeps role past old
      → ((n : ℕ) → row_at new.rows n ≡ cond (h.stream == n) w (row_at old.rows n)) → IsRowAt role (Came (Head h) ∷ past) h.stream w
      → new ≡ record old { rows = new.rows; remote = remote; reading = read; taker = takes; remote_go_away = gone } → read ≡ cond for_it (Some h) None
      → ((n : ℕ) → is_taker takes n ≡ byte_belongs role (Came (Head h) ∷ past) n) → gone ≡ is_go_away h.kind || old.remote_go_away
      → old.own ≡ length (filter (is_own role) (live role (Came (Head h) ∷ past))) → remote ≡ length (filter (is_remote role) (live role (Came (Head h) ∷ past)))
      → Keeps role (Came (Head h) ∷ past) new
  keeps_by w remote gone read takes old new between keeps writes here rest read_is takes_is remote_go_away_is own_is remote_is = record {
    role_is = ap (λ (q : Table). q.role) rest ∙ keeps.role_is;
    rows = λ n. row_by n w (row_at old.rows n) (row_at new.rows n) (h.stream == n) between refl (writes n) (keeps.rows n) here;
    own_is = ap (λ (q : Table). q.own) rest ∙ own_is;
    remote_is = ap (λ (q : Table). q.remote) rest ∙ remote_is;
    reading_is = ap (λ (q : Table). q.reading) rest ∙ read_is;
    takes = λ n. ap (λ (q : Table). is_taker q.taker n) rest ∙ takes_is n;
    local_go_away_is = ap (λ (q : Table). q.local_go_away) rest ∙ keeps.local_go_away_is;
    remote_go_away_is = ap (λ (q : Table). q.remote_go_away) rest ∙ remote_go_away_is ∙ ap (λ b. is_go_away h.kind || b) keeps.remote_go_away_is;
    next_is = ap (λ (q : Table). q.next) rest ∙ keeps.next_is;
  }

  same_row : (n : ℕ) (old : Table) (b : Bool) → (h.stream == n) ≡ b → row_at old.rows n ≡ cond (h.stream == n) (row_at old.rows h.stream) (row_at old.rows n)
  same_row n old true is = sym (ap (row_at old.rows) (eqb-true h.stream n is)) ∙ sym (ap (λ b. cond b (row_at old.rows h.stream) (row_at old.rows n)) is)
  same_row n old false is = sym (ap (λ b. cond b (row_at old.rows h.stream) (row_at old.rows n)) is)

  -- a head that belongs to no stream
  pub passes : (gone : Bool) (read : Option Header) (old : Table) → bytes_left (arrivals past) ≡ 0 → Keeps role past old → lets ≡ false → head_belongs role past h h.stream ≡ false
      → read ≡ cond for_it (Some h) None → gone ≡ is_go_away h.kind || old.remote_go_away → Keeps role (Came (Head h) ∷ past) (record old { reading = read; taker = None; remote_go_away = gone })
  passes gone read old between keeps none off read_is remote_go_away_is =
      let same = live_not none in
      keeps_by (row_at old.rows h.stream) old.remote gone read None old (record old { reading = read; taker = None; remote_go_away = gone }) between keeps (λ n. same_row n old (h.stream == n) refl)
      (still (row_at old.rows h.stream) between none off (keeps.rows h.stream)) refl read_is (λ n. sym (unread_any none off n (h.stream == n) refl)) remote_go_away_is
      (keeps.own_is ∙ sym (ap (λ ns. length (filter (is_own role) ns)) same)) (keeps.remote_is ∙ sym (ap (λ ns. length (filter (is_remote role) ns)) same))

  -- the stream takes the payload, and no other
  takes_if : (b c : Bool) (n : ℕ) → (h.stream == n) ≡ c → byte_belongs role (Came (Head h) ∷ past) h.stream ≡ b → is_taker (cond b (Some h.stream) None) n ≡ byte_belongs role (Came (Head h) ∷ past) n
  takes_if b true n is its = here b ∙ subst (λ k. b ≡ byte_belongs role (Came (Head h) ∷ past) k) (eqb-true h.stream n is) (sym its)
    where
      here : (b : Bool) → is_taker (cond b (Some h.stream) None) n ≡ b
      here true = is
      here false = refl
  takes_if b false n is its = there b ∙ sym (unread_other n is)
    where
      there : (b : Bool) → is_taker (cond b (Some h.stream) None) n ≡ false
      there true = is
      there false = refl

  takes_unless : (f : Bool) (n : ℕ) → byte_belongs role (Came (Head h) ∷ past) h.stream ≡ not f → is_taker (cond f None (Some h.stream)) n ≡ byte_belongs role (Came (Head h) ∷ past) n
  takes_unless true n its = takes_if false (h.stream == n) n refl its
  takes_unless false n its = takes_if true (h.stream == n) n refl its

  -- a head that belongs to a stream which was live before
  pub charges : (s : Row) (old new : Table) → bytes_left (arrivals past) ≡ 0 → Keeps role past old → lets ≡ false → syn h ≡ false → head_belongs role past h h.stream ≡ true → for_it ≡ true → is_go_away h.kind ≡ false
      → row_at old.rows h.stream ≡ Some s → (is_data h.kind ≡ true → h.length ≤ s.window)
      → ((n : ℕ) → row_at new.rows n ≡ cond (h.stream == n) (Some (record (charged s h) { accepted = ack h || s.accepted })) (row_at old.rows n))
      → new ≡ record old { rows = new.rows; reading = Some h; taker = cond s.finished None (Some h.stream) } → Keeps role (Came (Head h) ∷ past) new
  charges s old new between keeps none plain its is_for stays found fits writes rest =
      let same = live_not none in
      let at = row_of role past old h.stream (Some s) keeps found in
      keeps_by (Some (record (charged s h) { accepted = ack h || s.accepted })) old.remote old.remote_go_away (Some h) (cond s.finished None (Some h.stream)) old new between keeps writes (
        ap (λ ns. contains ns h.stream) same ∙ at.0,
        after role past (Came (Head h)) h.stream s (record (charged s h) { accepted = ack h || s.accepted }) (moved s between none plain at.0 its fits) at.1,
      ) rest (sym (ap (λ b. cond b (Some h) None) is_for))
      (λ n. takes_unless s.finished n (read_plain none at.0 its ∙ ap not (sym at.1.finished_is))) (sym (ap (λ b. b || old.remote_go_away) stays))
      (keeps.own_is ∙ sym (ap (λ ns. length (filter (is_own role) ns)) same)) (keeps.remote_is ∙ sym (ap (λ ns. length (filter (is_remote role) ns)) same))

  own_none : (b : Bool) → is_own role h.stream ≡ b → is_remote role h.stream ≡ true → one_if (is_own role h.stream) ≡ 0
  own_none true e remote = absurd (not_both role h.stream e remote)
  own_none false e remote = ap one_if e

  -- a head that opens a stream
  pub lets_in : (old new : Table) → bytes_left (arrivals past) ≡ 0 → Keeps role past old → lets ≡ true → head_belongs role past h h.stream ≡ true → for_it ≡ true → is_go_away h.kind ≡ false
      → is_remote role h.stream ≡ true → (is_data h.kind ≡ true → h.length ≤ 262144)
      → ((n : ℕ) → row_at new.rows n ≡ cond (h.stream == n) (Some (charged opened h)) (row_at old.rows n))
      → new ≡ record old { rows = new.rows; remote = old.remote + 1; reading = Some h; taker = Some h.stream } → Keeps role (Came (Head h) ∷ past) new
  lets_in old new between keeps lets_it its is_for stays remote fits writes rest =
      let same = live_opened lets_it in
      keeps_by (Some (charged opened h)) (old.remote + 1) old.remote_go_away (Some h) (Some h.stream) old new between keeps writes
      (ap (λ ns. contains ns h.stream) same ∙ here_after h.stream (live role past), first lets_it its fits)
      rest (sym (ap (λ b. cond b (Some h) None) is_for)) (λ n. takes_unless false n (read_opened lets_it its)) (sym (ap (λ b. b || old.remote_go_away) stays))
      ((let was = keeps.own_is in let more = count_then (is_own role) (live role past) h.stream in let none = own_none (is_own role h.stream) refl remote in
      let e : old.own ≡ length (filter (is_own role) (live role past ++ h.stream ∷ [])) = omega arith in e)
      ∙ sym (ap (λ ns. length (filter (is_own role) ns)) same))
      ((let was = keeps.remote_is in let more = count_then (is_remote role) (live role past) h.stream in let one : one_if (is_remote role h.stream) ≡ 1 = ap one_if remote in
      let e : old.remote + 1 ≡ length (filter (is_remote role) (live role past ++ h.stream ∷ [])) = omega arith in e)
      ∙ sym (ap (λ ns. length (filter (is_remote role) ns)) same))

  -- ---- the fault

  no_syn_fault : syn h ≡ false → fault_at role past (Came (Head h)) ≡ cond (head_belongs role past h h.stream) (window_fault role past h) None
  no_syn_fault plain =
      ap (λ b. or_else (cond b (syn_fault role past h) None) (cond (head_belongs role past h h.stream) (window_fault role past h) None)) (ap (λ b. is_of_stream h && b) plain ∙ and_false (is_of_stream h))

  windows_fault : (w c : ℕ) → window_at role past h ≡ w → credit_at role past h ≡ c
      → window_fault role past h ≡ cond (is_data h.kind && nat_lt w h.length) (Some WindowExceeded) (cond (is_update h.kind && nat_lt 4294967295 (c + h.length)) (Some WindowTooLarge) None)
  windows_fault w c we ce =
      ap (λ k. cond (is_data h.kind && nat_lt k h.length) (Some WindowExceeded) (cond (is_update h.kind && nat_lt 4294967295 (credit_at role past h + h.length)) (Some WindowTooLarge) None)) we
      ∙ ap (λ k. cond (is_data h.kind && nat_lt w h.length) (Some WindowExceeded) (cond (is_update h.kind && nat_lt 4294967295 (k + h.length)) (Some WindowTooLarge) None)) ce

  window_is : (s : Row) → IsRow role past h.stream s → s.window ≡ receiving_window role past h.stream
  window_is s row = let sum = row.window in omega arith

  plain_fault : (s : Row) → syn h ≡ false → IsRow role past h.stream s → window_fault role past h ≡ row_fault s h
  plain_fault s plain row =
      windows_fault s.window s.credit
      (ap (λ b. cond b initial_window (receiving_window role past h.stream)) plain ∙ sym (window_is s row))
      (ap (λ b. cond b initial_window (credit role past h.stream)) plain ∙ sym (credit_is role past h.stream s row))

  opening_fault : syn h ≡ true → window_fault role past h ≡ row_fault opened h
  opening_fault opening =
      windows_fault 262144 262144
      (ap (λ b. cond b initial_window (receiving_window role past h.stream)) opening)
      (ap (λ b. cond b initial_window (credit role past h.stream)) opening)

  -- ---- a head without SYN, for a stream or none

  pub plain_lets : syn h ≡ false → lets ≡ false
  plain_lets plain = ap (λ b. (is_of_stream h && b) && is_let_in role (live role past) (local_go_away past) h) plain ∙ ap (λ b. b && is_let_in role (live role past) (local_go_away past) h) (and_false (is_of_stream h))

  pub plain_for : is_of_stream h ≡ true → syn h ≡ false → (b : Bool) → is_live role past h.stream ≡ b → for_it ≡ b
  plain_for kind plain b is =
      ap (λ k. k && cond (syn h) (is_let_in role (live role past) (local_go_away past) h) (contains (live role past) h.stream)) kind
      ∙ ap (λ t. cond t (is_let_in role (live role past) (local_go_away past) h) (contains (live role past) h.stream)) plain ∙ is

  pub belongs_if : (b d f : Bool) → for_it ≡ b → (is_data h.kind && not (syn h)) ≡ d → finished role past h.stream ≡ f → head_belongs role past h h.stream ≡ b && not (d && f)
  belongs_if b d f eb ed ef =
      ap (λ t. (t && for_it) && not ((is_data h.kind && not (syn h)) && finished role past h.stream)) (eq-eqb h.stream h.stream refl)
      ∙ ap (λ t. t && not ((is_data h.kind && not (syn h)) && finished role past h.stream)) eb
      ∙ ap (λ t. b && not (t && finished role past h.stream)) ed
      ∙ ap (λ t. b && not (d && t)) ef

  pub done_passing : (gone : Bool) (read : Option Header) (old : Table) → bytes_left (arrivals past) ≡ 0 → Keeps role past old → lets ≡ false → head_belongs role past h h.stream ≡ false
      → fault_at role past (Came (Head h)) ≡ None → read ≡ cond for_it (Some h) None → gone ≡ is_go_away h.kind || old.remote_go_away
      → HeadDone role past h (record { opened = false; accepted = false; credited = false }) (record old { reading = read; taker = None; remote_go_away = gone })
  done_passing gone read old between keeps none off good read_is remote_go_away_is = record {
    no_fault = good;
    keeps = passes gone read old between keeps none off read_is remote_go_away_is;
    opened = sym (opens_not none h.stream);
    accepted = sym (ap (λ b. ((b && ack h) && is_own role h.stream) && not (accepted role past h.stream)) off);
    credited = sym (ap (λ b. (b && is_update h.kind) && nat_lt 0 h.length) off);
  }

  plain_off_fault : syn h ≡ false → head_belongs role past h h.stream ≡ false → fault_at role past (Came (Head h)) ≡ None
  plain_off_fault plain off = no_syn_fault plain ∙ ap (λ b. cond b (window_fault role past h) None) off

  -- of no live stream
  pub plain_absent : (old : Table) → bytes_left (arrivals past) ≡ 0 → is_of_stream h ≡ true → syn h ≡ false → is_go_away h.kind ≡ false → Keeps role past old → row_at old.rows h.stream ≡ None
      → HeadDone role past h (record { opened = false; accepted = false; credited = false }) (record old { reading = None; taker = None })
  plain_absent old between kind plain stays keeps found =
      let is_for = plain_for kind plain false (row_of role past old h.stream None keeps found) in
      let off = belongs_if false (is_data h.kind && not (syn h)) (finished role past h.stream) is_for refl refl in
      done_passing old.remote_go_away None old between keeps (plain_lets plain) off (plain_off_fault plain off) (sym (ap (λ b. cond b (Some h) None) is_for)) (sym (ap (λ b. b || old.remote_go_away) stays))

  -- Data behind the other end's FIN
  pub plain_finished : (s : Row) (old : Table) → bytes_left (arrivals past) ≡ 0 → is_data h.kind ≡ true → syn h ≡ false → is_go_away h.kind ≡ false → Keeps role past old → row_at old.rows h.stream ≡ Some s → s.finished ≡ true
      → HeadDone role past h (record { opened = false; accepted = false; credited = false }) (record old { reading = Some h; taker = None })
  plain_finished s old between kind plain stays keeps found done =
      let at = row_of role past old h.stream (Some s) keeps found in
      let is_for = plain_for (ap (λ b. b || is_update h.kind) kind) plain true at.0 in
      let off = belongs_if true true true is_for (ap (λ b. b && not (syn h)) kind ∙ ap not plain) (sym at.1.finished_is ∙ done) in
      done_passing old.remote_go_away (Some h) old between keeps (plain_lets plain) off (plain_off_fault plain off) (sym (ap (λ b. cond b (Some h) None) is_for)) (sym (ap (λ b. b || old.remote_go_away) stays))

  plain_its : (s : Row) (old : Table) → is_of_stream h ≡ true → syn h ≡ false → Keeps role past old → row_at old.rows h.stream ≡ Some s → (is_data h.kind && s.finished) ≡ false
      → head_belongs role past h h.stream ≡ true
  plain_its s old kind plain keeps found unfinished =
      let at = row_of role past old h.stream (Some s) keeps found in
      let is_for = plain_for kind plain true at.0 in
      belongs_if true (is_data h.kind) s.finished is_for (ap (λ b. is_data h.kind && not b) plain ∙ and_true (is_data h.kind)) (sym at.1.finished_is)
      ∙ ap not unfinished

  -- a fault of the windows
  pub plain_faults : (s : Row) (fault : Fault) (old : Table) → is_of_stream h ≡ true → syn h ≡ false → Keeps role past old → row_at old.rows h.stream ≡ Some s → (is_data h.kind && s.finished) ≡ false
      → row_fault s h ≡ Some fault → fault_at role past (Came (Head h)) ≡ Some fault
  plain_faults s fault old kind plain keeps found unfinished faulty =
      let at = row_of role past old h.stream (Some s) keeps found in
      no_syn_fault plain ∙ ap (λ b. cond b (window_fault role past h) None) (plain_its s old kind plain keeps found unfinished) ∙ plain_fault s plain at.1 ∙ faulty

  data_fits : (s : Row) → row_fault s h ≡ None → is_data h.kind ≡ true → h.length ≤ s.window
  data_fits s good kind = ltb-false s.window h.length (lt_none (is_data h.kind) (nat_lt s.window h.length) (cond (is_update h.kind && nat_lt 4294967295 (s.credit + h.length)) (Some WindowTooLarge) None) kind good)
    where
      lt_none : (d l : Bool) (rest : Option Fault) → d ≡ true → cond (d && l) (Some WindowExceeded) rest ≡ None → l ≡ false
      lt_none true true rest e bad = absurd cc
      lt_none true false rest e bad = refl
      lt_none false l rest e bad = absurd cc

  -- a head that belongs to its stream
  pub plain_done : (s : Row) (old new : Table) (was_accepted : Bool) → bytes_left (arrivals past) ≡ 0 → is_of_stream h ≡ true → syn h ≡ false → is_go_away h.kind ≡ false → Keeps role past old → row_at old.rows h.stream ≡ Some s
      → (is_data h.kind && s.finished) ≡ false → row_fault s h ≡ None → s.accepted ≡ was_accepted
      → ((n : ℕ) → row_at new.rows n ≡ cond (h.stream == n) (Some (record (charged s h) { accepted = ack h || s.accepted })) (row_at old.rows n))
      → new ≡ record old { rows = new.rows; reading = Some h; taker = cond s.finished None (Some h.stream) }
      → HeadDone role past h (record { opened = false; accepted = ack h && is_own role h.stream && not was_accepted; credited = is_update h.kind && nat_lt 0 h.length }) new
  plain_done s old new was_accepted between kind plain stays keeps found unfinished good was writes rest =
      let at = row_of role past old h.stream (Some s) keeps found in
      let its = plain_its s old kind plain keeps found unfinished in
      record {
        no_fault = no_syn_fault plain ∙ ap (λ b. cond b (window_fault role past h) None) its ∙ plain_fault s plain at.1 ∙ good;
        keeps = charges s old new between keeps (plain_lets plain) plain its (plain_for kind plain true at.0) stays found (data_fits s good) writes rest;
        opened = sym (opens_not (plain_lets plain) h.stream);
        accepted = ap (λ b. (ack h && is_own role h.stream) && not b) (sym was ∙ at.1.accepted_is)
            ∙ sym (ap (λ b. ((b && ack h) && is_own role h.stream) && not (accepted role past h.stream)) its);
        credited = sym (ap (λ b. (b && is_update h.kind) && nat_lt 0 h.length) its);
      }

  -- ---- a head with SYN

  opening_of : is_of_stream h ≡ true → syn h ≡ true → is_of_stream h && syn h ≡ true
  opening_of kind opening = ap (λ b. b && syn h) kind ∙ opening

  syn_first : (fault : Option Fault) → is_of_stream h ≡ true → syn h ≡ true → syn_fault role past h ≡ fault
      → fault_at role past (Came (Head h)) ≡ or_else fault (cond (head_belongs role past h h.stream) (window_fault role past h) None)
  syn_first fault kind opening e =
      ap (λ b. or_else (cond b (syn_fault role past h) None) (cond (head_belongs role past h h.stream) (window_fault role past h) None)) (opening_of kind opening)
      ∙ ap (λ f. or_else f (cond (head_belongs role past h h.stream) (window_fault role past h) None)) e

  pub wrong_parity : is_of_stream h ≡ true → syn h ≡ true → is_remote role h.stream ≡ false → fault_at role past (Came (Head h)) ≡ Some WrongParity
  wrong_parity kind opening own =
      syn_first (Some WrongParity) kind opening (ap (λ b. cond (not b) (Some WrongParity) (cond (is_live role past h.stream) (Some DuplicateStream) None)) own)

  pub duplicate : (s : Row) (old : Table) → is_of_stream h ≡ true → syn h ≡ true → is_remote role h.stream ≡ true → Keeps role past old → row_at old.rows h.stream ≡ Some s
      → fault_at role past (Came (Head h)) ≡ Some DuplicateStream
  duplicate s old kind opening remote keeps found =
      syn_first (Some DuplicateStream) kind opening
      (ap (λ b. cond (not b) (Some WrongParity) (cond (is_live role past h.stream) (Some DuplicateStream) None)) remote
      ∙ ap (λ b. cond b (Some DuplicateStream) None) (row_of role past old h.stream (Some s) keeps found).0)

  syn_good : is_of_stream h ≡ true → syn h ≡ true → is_remote role h.stream ≡ true → is_live role past h.stream ≡ false
      → fault_at role past (Came (Head h)) ≡ cond (head_belongs role past h h.stream) (window_fault role past h) None
  syn_good kind opening remote off =
      syn_first None kind opening
      (ap (λ b. cond (not b) (Some WrongParity) (cond (is_live role past h.stream) (Some DuplicateStream) None)) remote
      ∙ ap (λ b. cond b (Some DuplicateStream) None) off)

  let_in_is : (room left : Bool) → is_remote role h.stream ≡ true → is_live role past h.stream ≡ false → nat_lt (length (filter (is_remote role) (live role past))) 256 ≡ room → local_go_away past ≡ left
      → is_let_in role (live role past) (local_go_away past) h ≡ room && not left
  let_in_is room left remote off room_is local_go_away_is =
      ap (λ b. ((b && not (contains (live role past) h.stream)) && nat_lt (length (filter (is_remote role) (live role past))) 256) && not (local_go_away past)) remote
      ∙ ap (λ b. (not b && nat_lt (length (filter (is_remote role) (live role past))) 256) && not (local_go_away past)) off
      ∙ ap (λ b. b && not (local_go_away past)) room_is ∙ ap (λ b. room && not b) local_go_away_is

  lets_is : (b : Bool) → is_of_stream h ≡ true → syn h ≡ true → is_let_in role (live role past) (local_go_away past) h ≡ b → lets ≡ b
  lets_is b kind opening e = ap (λ t. t && is_let_in role (live role past) (local_go_away past) h) (opening_of kind opening) ∙ e

  opening_for : (b : Bool) → is_of_stream h ≡ true → syn h ≡ true → is_let_in role (live role past) (local_go_away past) h ≡ b → for_it ≡ b
  opening_for b kind opening e =
      ap (λ k. k && cond (syn h) (is_let_in role (live role past) (local_go_away past) h) (contains (live role past) h.stream)) kind
      ∙ ap (λ t. cond t (is_let_in role (live role past) (local_go_away past) h) (contains (live role past) h.stream)) opening ∙ e

  opening_data : syn h ≡ true → (is_data h.kind && not (syn h)) ≡ false
  opening_data opening = ap (λ b. is_data h.kind && not b) opening ∙ and_false (is_data h.kind)

  -- there is no room, or this end has left
  pub opening_refused : (old : Table) → bytes_left (arrivals past) ≡ 0 → is_of_stream h ≡ true → syn h ≡ true → is_go_away h.kind ≡ false → is_remote role h.stream ≡ true → Keeps role past old → row_at old.rows h.stream ≡ None
      → nat_lt old.remote 256 && not old.local_go_away ≡ false
      → HeadDone role past h (record { opened = false; accepted = false; credited = false }) (record old { reading = None; taker = None })
  opening_refused old between kind opening stays remote keeps found shut =
      let absent = row_of role past old h.stream None keeps found in
      let no_entry = let_in_is (nat_lt old.remote 256) old.local_go_away remote absent (ap (λ n. nat_lt n 256) (sym keeps.remote_is)) (sym keeps.local_go_away_is) ∙ shut in
      let is_for = opening_for false kind opening no_entry in
      let off = belongs_if false false (finished role past h.stream) is_for (opening_data opening) refl in
      done_passing old.remote_go_away None old between keeps (lets_is false kind opening no_entry) off
      (syn_good kind opening remote absent ∙ ap (λ b. cond b (window_fault role past h) None) off)
      (sym (ap (λ b. cond b (Some h) None) is_for)) (sym (ap (λ b. b || old.remote_go_away) stays))

  opening_its : (old : Table) → is_of_stream h ≡ true → syn h ≡ true → is_remote role h.stream ≡ true → Keeps role past old → row_at old.rows h.stream ≡ None
      → nat_lt old.remote 256 && not old.local_go_away ≡ true → (lets ≡ true) × (for_it ≡ true) × (head_belongs role past h h.stream ≡ true)
  opening_its old kind opening remote keeps found room =
      let absent = row_of role past old h.stream None keeps found in
      let entry = let_in_is (nat_lt old.remote 256) old.local_go_away remote absent (ap (λ n. nat_lt n 256) (sym keeps.remote_is)) (sym keeps.local_go_away_is) ∙ room in
      let is_for = opening_for true kind opening entry in
      (lets_is true kind opening entry, is_for, belongs_if true false (finished role past h.stream) is_for (opening_data opening) refl)

  pub opening_faults : (fault : Option Fault) (old : Table) → is_of_stream h ≡ true → syn h ≡ true → is_remote role h.stream ≡ true → Keeps role past old → row_at old.rows h.stream ≡ None
      → nat_lt old.remote 256 && not old.local_go_away ≡ true → row_fault opened h ≡ fault → fault_at role past (Came (Head h)) ≡ fault
  opening_faults fault old kind opening remote keeps found room faulty =
      let its = opening_its old kind opening remote keeps found room in
      syn_good kind opening remote (row_of role past old h.stream None keeps found)
      ∙ ap (λ b. cond b (window_fault role past h) None) its.2 ∙ opening_fault opening ∙ faulty

  pub opening_opens : (old : Table) → is_of_stream h ≡ true → syn h ≡ true → is_remote role h.stream ≡ true → Keeps role past old → row_at old.rows h.stream ≡ None
      → nat_lt old.remote 256 && not old.local_go_away ≡ true → opens role past (Came (Head h)) h.stream ≡ true
  opening_opens old kind opening remote keeps found room = opens_here (opening_its old kind opening remote keeps found room).0

  pub opening_done : (old new : Table) → bytes_left (arrivals past) ≡ 0 → is_of_stream h ≡ true → syn h ≡ true → is_go_away h.kind ≡ false → is_remote role h.stream ≡ true → Keeps role past old → row_at old.rows h.stream ≡ None
      → nat_lt old.remote 256 && not old.local_go_away ≡ true → row_fault opened h ≡ None
      → ((n : ℕ) → row_at new.rows n ≡ cond (h.stream == n) (Some (charged opened h)) (row_at old.rows n))
      → new ≡ record old { rows = new.rows; remote = old.remote + 1; reading = Some h; taker = Some h.stream }
      → HeadDone role past h (record { opened = true; accepted = false; credited = is_update h.kind && nat_lt 0 h.length }) new
  opening_done old new between kind opening stays remote keeps found room good writes rest =
      let its = opening_its old kind opening remote keeps found room in
      record {
        no_fault = opening_faults None old kind opening remote keeps found room good;
        keeps = lets_in old new between keeps its.0 its.2 its.1 stays remote (data_fits opened good) writes rest;
        opened = sym (opens_here its.0);
        accepted = sym (and_mid (head_belongs role past h h.stream && ack h) (is_own role h.stream) (not (accepted role past h.stream)) (not_own (is_own role h.stream) refl remote));
        credited = sym (ap (λ b. (b && is_update h.kind) && nat_lt 0 h.length) its.2);
      }
    where
      and_mid : (a b c : Bool) → b ≡ false → (a && b) && c ≡ false
      and_mid a b c e = ap (λ t. (a && t) && c) e ∙ ap (λ t. t && c) (and_false a)

      not_own : (b : Bool) → is_own role h.stream ≡ b → is_remote role h.stream ≡ true → is_own role h.stream ≡ false
      not_own true e remote = absurd (not_both role h.stream e remote)
      not_own false e remote = e

  -- ---- the row of a stream, where the head has no fault

  for_kind : for_it ≡ true → (is_of_stream h ≡ true) × (cond (syn h) (is_let_in role (live role past) (local_go_away past) h) (contains (live role past) h.stream) ≡ true)
  for_kind e = and_parts (is_of_stream h) (cond (syn h) (is_let_in role (live role past) (local_go_away past) h) (contains (live role past) h.stream)) e

  -- a head for a stream that it doesn't open has no SYN
  plain_unless : (b : Bool) → syn h ≡ b → lets ≡ false → for_it ≡ true → syn h ≡ false
  plain_unless false e none is_for = e
  plain_unless true e none is_for =
      let parts = for_kind is_for in
      let entry : is_let_in role (live role past) (local_go_away past) h ≡ true = sym (ap (λ t. cond t (is_let_in role (live role past) (local_go_away past) h) (contains (live role past) h.stream)) e) ∙ parts.1 in
      absurd (let both : true ≡ false = sym (lets_is true parts.0 e entry) ∙ none in cc)

  good_windows : fault_at role past (Came (Head h)) ≡ None → head_belongs role past h h.stream ≡ true → window_fault role past h ≡ None
  good_windows good its =
      sym (ap (λ b. cond b (window_fault role past h) None) its)
      ∙ second (cond (is_of_stream h && syn h) (syn_fault role past h) None) (cond (head_belongs role past h h.stream) (window_fault role past h) None) good
    where
      second : (a b : Option Fault) → or_else a b ≡ None → b ≡ None
      second (Some f) b e = absurd cc
      second None b e = e

  opened_row : fault_at role past (Came (Head h)) ≡ None → lets ≡ true → IsRowAt role (Came (Head h) ∷ past) h.stream (Some (charged opened h))
  opened_row good lets_it =
      let parts = and_parts (is_of_stream h && syn h) (is_let_in role (live role past) (local_go_away past) h) lets_it in
      let both = and_parts (is_of_stream h) (syn h) parts.0 in
      let its = belongs_if true false (finished role past h.stream) (opening_for true both.0 both.1 parts.1) (opening_data both.1) refl in (
        ap (λ ns. contains ns h.stream) (live_opened lets_it) ∙ here_after h.stream (live role past),
        first lets_it its (data_fits opened (sym (opening_fault both.1) ∙ good_windows good its)),
      )

  belonging_row : (row : Option Row) → bytes_left (arrivals past) ≡ 0 → fault_at role past (Came (Head h)) ≡ None → lets ≡ false → head_belongs role past h h.stream ≡ true
      → IsRowAt role past h.stream row → (new : Option Row) × IsRowAt role (Came (Head h) ∷ past) h.stream new
  belonging_row None between good none its off =
      let is_for = belongs_for its in
      let plain = plain_unless (syn h) refl none is_for in
      absurd (let e : true ≡ false = sym is_for ∙ plain_for (for_kind is_for).0 plain false off in cc)
  belonging_row (Some s) between good none its at =
      let plain = plain_unless (syn h) refl none (belongs_for its) in (
        Some (record (charged s h) { accepted = ack h || s.accepted }),
        (
          ap (λ ns. contains ns h.stream) (live_not none) ∙ at.0,
          after role past (Came (Head h)) h.stream s (record (charged s h) { accepted = ack h || s.accepted })
              (moved s between none plain at.0 its (data_fits s (sym (plain_fault s plain at.1) ∙ good_windows good its))) at.1,
        ),
      )

  row_here : (row : Option Row) (b c : Bool) → bytes_left (arrivals past) ≡ 0 → lets ≡ b → head_belongs role past h h.stream ≡ c → fault_at role past (Came (Head h)) ≡ None
      → IsRowAt role past h.stream row → (new : Option Row) × IsRowAt role (Came (Head h) ∷ past) h.stream new
  row_here row true c between lets_it its good at = (Some (charged opened h), opened_row good lets_it)
  row_here row false true between none its good at = belonging_row row between good none its at
  row_here row false false between none off good at = (row, still row between none off at)

  pub head_row : (n : ℕ) (row : Option Row) (b : Bool) → bytes_left (arrivals past) ≡ 0 → (h.stream == n) ≡ b → fault_at role past (Came (Head h)) ≡ None
      → IsRowAt role past n row → (new : Option Row) × IsRowAt role (Came (Head h) ∷ past) n new
  head_row n row false between other good at = (row, apart n row between other at)
  head_row n row true between same good at =
      subst (λ k. IsRowAt role past k row → (new : Option Row) × IsRowAt role (Came (Head h) ∷ past) k new) (eqb-true h.stream n same)
      (row_here row lets (head_belongs role past h h.stream) between refl refl good) at

  -- ---- Ping and GoAway

  pub session_head : (old : Table) (gone : Bool) → bytes_left (arrivals past) ≡ 0 → Keeps role past old → is_of_stream h ≡ false → gone ≡ is_go_away h.kind || old.remote_go_away
      → HeadDone role past h (record { opened = false; accepted = false; credited = false }) (record old { reading = None; taker = None; remote_go_away = gone })
  session_head old gone between keeps kind remote_go_away_is =
      let none : lets ≡ false = ap (λ b. (b && syn h) && is_let_in role (live role past) (local_go_away past) h) kind in
      let is_for : for_it ≡ false = ap (λ b. b && cond (syn h) (is_let_in role (live role past) (local_go_away past) h) (contains (live role past) h.stream)) kind in
      let off = belongs_if false (is_data h.kind && not (syn h)) (finished role past h.stream) is_for refl refl in
      done_passing gone None old between keeps none off
      (ap (λ b. or_else (cond (b && syn h) (syn_fault role past h) None) (cond (head_belongs role past h h.stream) (window_fault role past h) None)) kind
      ∙ ap (λ b. cond b (window_fault role past h) None) off)
      (sym (ap (λ b. cond b (Some h) None) is_for)) remote_go_away_is
