-- How many rows a legal history shows.
use Rattle.std.proofs.Common.{◌≡◌, ◌∙◌, ◌⊎◌, inl, inr, ℕ, zero, suc, ◌+◌, ◌<◌, ◌≤◌, ◌==◌, nat_le, nat_lt, Bool, true, false, not, ◌&&◌, cond, List, [], ◌∷◌, ◌++◌, length, map, Option, Some, None, refl, sym, ap, subst, arith}
use Rattle.std.specs.Bool.{if◌then◌else◌}
use Rattle.std.specs.List.{filter, count_by, range_with_len}
use Rattle.std.specs.Str.{bytes_eq}
use Rattle.std.proofs.lemmas.Bool.{false≢true, eqb-true}
use Rattle.std.proofs.lemmas.Bool.Decides.{nat_tests}
use Rattle.std.proofs.lemmas.Slice.Eq.{bytes_eq-Decides}
use Rattle.pool_state.specs.declared.call.Call.{Call}
use Rattle.pool_state.specs.declared.call.Call.TheVariants as call
use Rattle.pool_state.specs.declared.call.Reply.{Reply}
use Rattle.pool_state.specs.declared.call.Reply.TheVariants as reply
use Rattle.pool_state.specs.declared.call.Refusal.{Refusal}
use Rattle.pool_state.specs.declared.limits.Config.{Config}
use Rattle.pool_state.specs.declared.row.Row.{Row}
use Rattle.pool_state.specs.declared.row.Phase.TheVariants as phase
use Rattle.pool_state.specs.declared.row.ConnSide.{ConnSide}
use Rattle.pool_state.specs.declared.row.ConnSide.TheVariants as side
use Rattle.pool_state.specs.Parts.{Peer, is_peer, is_phase, is_side}
use Rattle.pool_state.specs.Table.{rows_on, rows_of, others_of, closable, may_refuse}
use Rattle.pool_state.specs.History.{Entry, stands, admits, admissions, next_number}
use Rattle.pool_state.specs.Shown.{row_of, IsLegal, Shown}
use Rattle.pool_state.specs.Added.{fresh, rows_after, row_after, with_row}
use Rattle.pool_state.proofs.Legal.{IsNext, Counts, decided, none_holds, legal_ind_with}
use Rattle.pool_state.proofs.Blank.{blank}
use Rattle.pool_state.proofs.Law.{rows, rows_next, count_cons}

module _ {X : Type 0} where
  count_sum : (f g h : X → Bool) → ((x : X) → cond (f x) 1 0 ≤ cond (g x) 1 0 + cond (h x) 1 0) → (xs : List X) → count_by f xs ≤ count_by g xs + count_by h xs
  count_sum f g h each [] = omega arith
  count_sum f g h each (x ∷ xs) = omega (arith, each x, count_cons f x xs, count_cons g x xs, count_cons h x xs, count_sum f g h each xs)

  count_le : (f g : X → Bool) → ((x : X) → f x ≡ true → g x ≡ true) → (xs : List X) → count_by f xs ≤ count_by g xs
  count_le f g each [] = omega arith
  count_le f g each (x ∷ xs) = omega (arith, step (f x) (g x) (each x), count_cons f x xs, count_cons g x xs, count_le f g each xs)
    where
      step : (a b : Bool) → (a ≡ true → b ≡ true) → cond a 1 0 ≤ cond b 1 0
      step true true h = omega arith
      step true false h = absurd (false≢true (h refl))
      step false b h = omega arith

  count_filter : (f t : X → Bool) (xs : List X) → count_by f (filter t xs) ≤ count_by f xs
  count_filter f t [] = omega arith
  count_filter f t (x ∷ xs) = step (t x) (count_filter f t xs)
    where
      step : (b : Bool) → count_by f (filter t xs) ≤ count_by f xs → count_by f (cond b (x ∷ filter t xs) (filter t xs)) ≤ count_by f (x ∷ xs)
      step true h = omega (arith, count_cons f x (filter t xs), count_cons f x xs)
      step false h = omega (arith, count_cons f x xs)

  count_more_one : (f : X → Bool) (xs : List X) (y : X) → count_by f (xs ++ y ∷ []) ≤ count_by f xs + cond (f y) 1 0
  count_more_one f [] y = omega arith
  count_more_one f (x ∷ xs) y = omega (arith, count_cons f x (xs ++ y ∷ []), count_cons f x xs, count_more_one f xs y)

pub count_map : {X Y : Type 0} (f : Y → Bool) (g : X → Y) (xs : List X) → count_by f (map g xs) ≡ count_by (λ x. f (g x)) xs
count_map f g [] = refl
count_map f g (x ∷ xs) = count_cons f (g x) (map g xs) ∙ (ap (λ (n : ℕ). cond (f (g x)) 1 0 + n) (count_map f g xs) ∙ sym (count_cons (λ x. f (g x)) x xs))

-- no two rows have one number
pub one_row : (F : ℕ → Row) (t : ℕ → Bool) (a k n : ℕ) → ((m : ℕ) → (F m).conn ≡ m) → count_by (λ (row : Row). row.conn == n) (map F (filter t (range_with_len a k))) ≤ cond (nat_le a n) 1 0
one_row F t a zero n same = omega arith
one_row F t a (suc k) n same = step (t a) (one_row F t (a + 1) k n same)
  where
    is_n : (b : Bool) → ((F a).conn == n) ≡ b → cond b 1 0 + cond (nat_le (a + 1) n) 1 0 ≤ cond (nat_le a n) 1 0
    is_n true e = let q : a ≡ n = sym (same a) ∙ eqb-true _ n e in grind (arith, nat_tests)
    is_n false e = grind (arith, nat_tests)

    step : (b : Bool) → count_by (λ (row : Row). row.conn == n) (map F (filter t (range_with_len (a + 1) k))) ≤ cond (nat_le (a + 1) n) 1 0
        → count_by (λ (row : Row). row.conn == n) (map F (cond b (a ∷ filter t (range_with_len (a + 1) k)) (filter t (range_with_len (a + 1) k)))) ≤ cond (nat_le a n) 1 0
    step true h = omega (arith, is_n ((F a).conn == n) refl, count_cons (λ (row : Row). row.conn == n) (F a) (map F (filter t (range_with_len (a + 1) k))))
    step false h = grind (arith, nat_tests, h)

abbrev pub few_of : Config → List Entry → Type 0
few_of config h = (p : Peer) → rows_of (rows config h) p ≤ config.limits.per_peer

abbrev has_peer : Peer → Row → Bool
has_peer p row = is_peer p row.peer

-- a change that keeps each row's peer
kept : (p : Peer) (g : Row → Row) → ((row : Row) → (g row).peer ≡ row.peer) → (rs : List Row) → rows_of (map g rs) p ≤ rows_of rs p
kept p g same rs = omega (arith, count_map (has_peer p) g rs, count_le (λ row. has_peer p (g row)) (has_peer p) (λ row h. sym (ap (is_peer p) (same row)) ∙ h) rs)

refused_same : (c : Call) (w : Refusal) (rs : List Row) → rows_after c (reply.Refused w) rs ≡ map (λ row. row) rs
refused_same (call.Dial o) w rs = refl
refused_same call.Accept w rs = refl
refused_same (call.Settle n q) w rs = refl
refused_same (call.Ask n i) w rs = refl
refused_same (call.Done n i) w rs = refl
refused_same (call.HangUp q) w rs = refl
refused_same (call.Block q) w rs = refl
refused_same (call.Unblock q) w rs = refl
refused_same (call.Gone n) w rs = refl
refused_same (call.Allow q) w rs = refl
refused_same (call.Disallow q) w rs = refl
refused_same (call.Note n a) w rs = refl

admit_count : (p : Peer) (rs : List Row) (row : Row) → rows_of (with_row rs row) p ≤ rows_of rs p + cond (has_peer p row) 1 0
admit_count p rs row = step (nat_lt (length rs) 256)
  where
    step : (b : Bool) → rows_of (if b then rs ++ row ∷ [] else rs) p ≤ rows_of rs p + cond (has_peer p row) 1 0
    step true = count_more_one (has_peer p) rs row
    step false = omega arith

by_record : (b : Bool) (row row' : Row) → row'.peer ≡ row.peer → (if b then row' else row).peer ≡ row.peer
by_record true row row' h = h
by_record false row row' h = refl

disallow_keeps : (b c : Bool) (row : Row) → (if b then (if c then record row { phase = phase.Closing } else row) else row).peer ≡ row.peer
disallow_keeps true true row = refl
disallow_keeps true false row = refl
disallow_keeps false c row = refl

same_peers : (q p : Peer) → bytes_eq q p ≡ true → q ≡ p
same_peers q p h = (bytes_eq-Decides q p).0 h

below_limit : (n limit : ℕ) → nat_le limit n ≡ false → n + 1 ≤ limit
below_limit n limit h = grind (arith, nat_tests)

-- what a new row of a peer adds
dial_few : (config : Config) (h : List Entry) (q p : Peer) (n : ℕ) → few_of config h → nat_le config.limits.per_peer (rows_of (rows config h) q) ≡ false → rows_of (with_row (rows config h) (fresh n side.Dialer (Some q))) p ≤ config.limits.per_peer
dial_few config h q p n few room = step (bytes_eq q p) refl
  where
    step : (b : Bool) → bytes_eq q p ≡ b → rows_of (with_row (rows config h) (fresh n side.Dialer (Some q))) p ≤ config.limits.per_peer
    step true e =
        let add = admit_count p (rows config h) (fresh n side.Dialer (Some q)) in
        let is : rows_of (rows config h) q ≡ rows_of (rows config h) p = ap (λ (z : Peer). rows_of (rows config h) z) (same_peers q p e) in
        omega (arith, rw e at add, below_limit (rows_of (rows config h) q) config.limits.per_peer room, is)
    step false e =
        let add = admit_count p (rows config h) (fresh n side.Dialer (Some q)) in
        omega (arith, rw e at add, few p)

settle_few : (config : Config) (h : List Entry) (n : ℕ) (q p : Peer) → few_of config h → nat_le config.limits.per_peer (others_of (rows config h) n q) ≡ false → rows_of (map (row_after (call.Settle n q) reply.Done) (rows config h)) p ≤ config.limits.per_peer
settle_few config h n q p few room = step (bytes_eq q p) refl
  where
    moved : rows_of (map (row_after (call.Settle n q) reply.Done) (rows config h)) p ≡ count_by (λ row. has_peer p (row_after (call.Settle n q) reply.Done row)) (rows config h)
    moved = count_map (has_peer p) (row_after (call.Settle n q) reply.Done) (rows config h)

    other : (b : Bool) → bytes_eq q p ≡ false → (x : Option Peer) (row : Row) → row.peer ≡ x → has_peer p (if b then record row { phase = Rattle.pool_state.specs.Added.settled row.phase; peer = Some q } else row) ≡ true → has_peer p row ≡ true
    other true e x row is h = absurd (false≢true (sym e ∙ h))
    other false e x row is h = h

    this : (b : Bool) → (row : Row) → bytes_eq q p ≡ true → cond (has_peer p (if b then record row { phase = Rattle.pool_state.specs.Added.settled row.phase; peer = Some q } else row)) 1 0 ≤ cond (not b && is_peer q row.peer) 1 0 + cond b 1 0
    this true row e = rw e (omega arith)
    this false row e = rw (same_peers q p e) (by_bool (is_peer p row.peer))
      where
        by_bool : (b : Bool) → cond b 1 0 ≤ cond b 1 0 + 0
        by_bool true = omega arith
        by_bool false = omega arith

    one : count_by (λ (row : Row). row.conn == n) (rows config h) ≤ 1
    one = at_most (nat_le config.first_conn n) (one_row (row_of config h) (stands h) config.first_conn (admissions h) n (λ m. refl))
      where
        at_most : (b : Bool) → count_by (λ (row : Row). row.conn == n) (rows config h) ≤ cond b 1 0 → count_by (λ (row : Row). row.conn == n) (rows config h) ≤ 1
        at_most true h = h
        at_most false h = omega arith

    step : (b : Bool) → bytes_eq q p ≡ b → rows_of (map (row_after (call.Settle n q) reply.Done) (rows config h)) p ≤ config.limits.per_peer
    step true e =
        omega (
          arith,
          moved,
          one,
          below_limit (others_of (rows config h) n q) config.limits.per_peer room,
          count_sum (λ row. has_peer p (row_after (call.Settle n q) reply.Done row)) (λ (row : Row). not (row.conn == n) && is_peer q row.peer) (λ (row : Row). row.conn == n) (λ row. this (row.conn == n) row e) (rows config h),
        )
    step false e =
        omega (arith, moved, few p, count_le (λ row. has_peer p (row_after (call.Settle n q) reply.Done row)) (has_peer p) (λ row h. other (row.conn == n) e row.peer row refl h) (rows config h))

few_counted : (config : Config) (h : List Entry) (c : Call) (r : Reply) → Counts config h c r → few_of config h → (p : Peer) → rows_of (rows_after c r (rows config h)) p ≤ config.limits.per_peer
few_counted config h (call.Dial None) r k few p = let add = admit_count p (rows config h) (fresh (next_number config h) side.Dialer None) in rw k.answered (omega (arith, add, few p))
few_counted config h (call.Dial (Some q)) r k few p =
    let f = none_holds (may_refuse config (next_number config h) (Shown config h) (call.Dial (Some q))) k.none in
    rw k.answered (dial_few config h q p (next_number config h) few f.1.1.1.0)
few_counted config h call.Accept r k few p = let add = admit_count p (rows config h) (fresh (next_number config h) side.Listener None) in rw k.answered (omega (arith, add, few p))
few_counted config h (call.Settle n q) r k few p =
    let f = none_holds (may_refuse config (next_number config h) (Shown config h) (call.Settle n q)) k.none in
    rw k.answered (settle_few config h n q p few f.1.1.1.1.1.1.0)
few_counted config h (call.Ask n i) r k few p = rw k.answered (omega (arith, few p, kept p (row_after (call.Ask n i) reply.Done) (λ row. by_record (row.conn == n) row _ refl) (rows config h)))
few_counted config h (call.Done n i) r k few p = rw k.answered (omega (arith, few p, kept p (row_after (call.Done n i) reply.Done) (λ row. by_record (row.conn == n) row _ refl) (rows config h)))
few_counted config h (call.Note n a) r k few p = rw k.answered (omega (arith, few p, kept p (row_after (call.Note n a) reply.Done) (λ row. by_record (row.conn == n) row _ refl) (rows config h)))
few_counted config h (call.Gone n) r k few p = rw k.answered (omega (arith, few p, count_filter (has_peer p) (λ (row : Row). not (row.conn == n)) (rows config h)))
few_counted config h (call.HangUp q) r k few p = rw k.answered (omega (arith, few p, kept p (row_after (call.HangUp q) (reply.Count 0)) (λ row. by_record (is_peer q row.peer) row _ refl) (rows config h)))
few_counted config h (call.Block q) r k few p = rw k.answered (omega (arith, few p, kept p (row_after (call.Block q) (reply.Count 0)) (λ row. by_record (is_peer q row.peer) row _ refl) (rows config h)))
few_counted config h (call.Unblock q) r k few p = rw k.answered (omega (arith, few p, kept p (λ row. row) (λ row. refl) (rows config h)))
few_counted config h (call.Allow q) r k few p = rw k.answered (omega (arith, few p, kept p (λ row. row) (λ row. refl) (rows config h)))
few_counted config h (call.Disallow q) r k few p = rw k.answered (omega (arith, few p, kept p (row_after (call.Disallow q) (reply.Count (if config.allow_only then closable (rows config h) q else 0))) (λ row. disallow_keeps (nat_lt 0 (if config.allow_only then closable (rows config h) q else 0)) (is_peer q row.peer) row) (rows config h)))

few_step : (config : Config) (h : List Entry) (e : Entry) → IsLegal config h → IsNext config h e.call e.reply → few_of config h → few_of config (h ++ e ∷ [])
few_step config h e legal next few p =
    subst (λ (rs : List Row). rows_of rs p ≤ config.limits.per_peer) (rows_next config h e.caller e.call e.reply (blank config h legal) next) (by_case (decided config h e.call e.reply next).1)
  where
    by_case : (((w : Refusal) × (e.reply ≡ reply.Refused w)) ⊎ Counts config h e.call e.reply) → rows_of (rows_after e.call e.reply (rows config h)) p ≤ config.limits.per_peer
    by_case (inl w) = rw (w.1, refused_same e.call w.0 (rows config h)) (omega (arith, few p, kept p (λ row. row) (λ row. refl) (rows config h)))
    by_case (inr k) = few_counted config h e.call e.reply k few p

pub few_rows : (config : Config) (h : List Entry) → IsLegal config h → few_of config h
few_rows config h legal = legal_ind_with config (few_of config) (few_step config) (λ p. omega arith) h legal

pub few_closable : (config : Config) (h : List Entry) → IsLegal config h → (p : Peer) → closable (rows config h) p < 256
few_closable config h legal p =
    omega (
      arith,
      few_rows config h legal p,
      config.limits.few_per_peer,
      count_le (λ (row : Row). is_peer p row.peer && not (is_phase row.phase phase.Closing)) (λ (row : Row). is_peer p row.peer) (λ row. both (is_peer p row.peer) (not (is_phase row.phase phase.Closing))) (rows config h),
    )
  where
    both : (a b : Bool) → (a && b) ≡ true → a ≡ true
    both true b h = refl
    both false b h = h

by_role : (b : Bool) (row row' : Row) → row'.role ≡ row.role → (if b then row' else row).role ≡ row.role
by_role true row row' h = h
by_role false row row' h = refl

role_kept : (c : Call) (r : Reply) (row : Row) → (row_after c r row).role ≡ row.role
role_kept (call.Dial o) r row = refl
role_kept call.Accept r row = refl
role_kept (call.Settle n q) (reply.Conn m) row = refl
role_kept (call.Settle n q) reply.Done row = by_role (row.conn == n) row _ refl
role_kept (call.Settle n q) (reply.Count k) row = refl
role_kept (call.Settle n q) (reply.Refused w) row = refl
role_kept (call.Ask n i) (reply.Conn m) row = refl
role_kept (call.Ask n i) reply.Done row = by_role (row.conn == n) row _ refl
role_kept (call.Ask n i) (reply.Count k) row = refl
role_kept (call.Ask n i) (reply.Refused w) row = refl
role_kept (call.Done n i) (reply.Conn m) row = refl
role_kept (call.Done n i) reply.Done row = by_role (row.conn == n) row _ refl
role_kept (call.Done n i) (reply.Count k) row = refl
role_kept (call.Done n i) (reply.Refused w) row = refl
role_kept (call.HangUp q) (reply.Conn m) row = refl
role_kept (call.HangUp q) reply.Done row = refl
role_kept (call.HangUp q) (reply.Count k) row = by_role (is_peer q row.peer) row _ refl
role_kept (call.HangUp q) (reply.Refused w) row = refl
role_kept (call.Block q) (reply.Conn m) row = refl
role_kept (call.Block q) reply.Done row = refl
role_kept (call.Block q) (reply.Count k) row = by_role (is_peer q row.peer) row _ refl
role_kept (call.Block q) (reply.Refused w) row = refl
role_kept (call.Unblock q) r row = refl
role_kept (call.Gone n) r row = refl
role_kept (call.Allow q) r row = refl
role_kept (call.Disallow q) (reply.Conn m) row = refl
role_kept (call.Disallow q) reply.Done row = refl
role_kept (call.Disallow q) (reply.Count k) row = twice (nat_lt 0 k) (is_peer q row.peer)
  where
    twice : (b c : Bool) → (if b then (if c then record row { phase = phase.Closing } else row) else row).role ≡ row.role
    twice true true = refl
    twice true false = refl
    twice false c = refl
role_kept (call.Disallow q) (reply.Refused w) row = refl
role_kept (call.Note n a) (reply.Conn m) row = refl
role_kept (call.Note n a) reply.Done row = by_role (row.conn == n) row _ refl
role_kept (call.Note n a) (reply.Count k) row = refl
role_kept (call.Note n a) (reply.Refused w) row = refl

abbrev on : (ConnSide → Bool) → Row → Bool
on g row = g row.role

abbrev side_of : Call → ConnSide
side_of (call.Dial p) = side.Dialer
side_of c = side.Listener

same_sides : (g : ConnSide → Bool) (c : Call) (r : Reply) (rs : List Row) → count_by (on g) (map (row_after c r) rs) ≤ count_by (on g) rs
same_sides g c r rs = omega (arith, count_map (on g) (row_after c r) rs, count_le (λ row. on g (row_after c r row)) (on g) (λ row h. sym (ap g (role_kept c r row)) ∙ h) rs)

admit_side : (g : ConnSide → Bool) (rs : List Row) (row : Row) → count_by (on g) (with_row rs row) ≤ count_by (on g) rs + cond (g row.role) 1 0
admit_side g rs row = step (nat_lt (length rs) 256)
  where
    step : (b : Bool) → count_by (on g) (if b then rs ++ row ∷ [] else rs) ≤ count_by (on g) rs + cond (g row.role) 1 0
    step true = count_more_one (on g) rs row
    step false = omega arith

grown : (g : ConnSide → Bool) (c : Call) (r : Reply) (rs : List Row) → count_by (on g) (rows_after c r rs) ≤ count_by (on g) rs + cond (admits c r && g (side_of c)) 1 0
grown g (call.Dial o) (reply.Conn m) rs = admit_side g rs (fresh m side.Dialer o)
grown g call.Accept (reply.Conn m) rs = admit_side g rs (fresh m side.Listener None)
grown g (call.Gone n) reply.Done rs = omega (arith, count_filter (on g) (λ (row : Row). not (row.conn == n)) rs)
grown g (call.Dial o) reply.Done rs = omega (arith, same_sides g (call.Dial o) reply.Done rs)
grown g (call.Dial o) (reply.Count k) rs = omega (arith, same_sides g (call.Dial o) (reply.Count k) rs)
grown g (call.Dial o) (reply.Refused w) rs = omega (arith, same_sides g (call.Dial o) (reply.Refused w) rs)
grown g call.Accept reply.Done rs = omega (arith, same_sides g call.Accept reply.Done rs)
grown g call.Accept (reply.Count k) rs = omega (arith, same_sides g call.Accept (reply.Count k) rs)
grown g call.Accept (reply.Refused w) rs = omega (arith, same_sides g call.Accept (reply.Refused w) rs)
grown g (call.Settle n q) (reply.Conn m) rs = omega (arith, same_sides g (call.Settle n q) (reply.Conn m) rs)
grown g (call.Settle n q) reply.Done rs = omega (arith, same_sides g (call.Settle n q) reply.Done rs)
grown g (call.Settle n q) (reply.Count k) rs = omega (arith, same_sides g (call.Settle n q) (reply.Count k) rs)
grown g (call.Settle n q) (reply.Refused w) rs = omega (arith, same_sides g (call.Settle n q) (reply.Refused w) rs)
grown g (call.Ask n i) (reply.Conn m) rs = omega (arith, same_sides g (call.Ask n i) (reply.Conn m) rs)
grown g (call.Ask n i) reply.Done rs = omega (arith, same_sides g (call.Ask n i) reply.Done rs)
grown g (call.Ask n i) (reply.Count k) rs = omega (arith, same_sides g (call.Ask n i) (reply.Count k) rs)
grown g (call.Ask n i) (reply.Refused w) rs = omega (arith, same_sides g (call.Ask n i) (reply.Refused w) rs)
grown g (call.Done n i) (reply.Conn m) rs = omega (arith, same_sides g (call.Done n i) (reply.Conn m) rs)
grown g (call.Done n i) reply.Done rs = omega (arith, same_sides g (call.Done n i) reply.Done rs)
grown g (call.Done n i) (reply.Count k) rs = omega (arith, same_sides g (call.Done n i) (reply.Count k) rs)
grown g (call.Done n i) (reply.Refused w) rs = omega (arith, same_sides g (call.Done n i) (reply.Refused w) rs)
grown g (call.HangUp q) (reply.Conn m) rs = omega (arith, same_sides g (call.HangUp q) (reply.Conn m) rs)
grown g (call.HangUp q) reply.Done rs = omega (arith, same_sides g (call.HangUp q) reply.Done rs)
grown g (call.HangUp q) (reply.Count k) rs = omega (arith, same_sides g (call.HangUp q) (reply.Count k) rs)
grown g (call.HangUp q) (reply.Refused w) rs = omega (arith, same_sides g (call.HangUp q) (reply.Refused w) rs)
grown g (call.Block q) (reply.Conn m) rs = omega (arith, same_sides g (call.Block q) (reply.Conn m) rs)
grown g (call.Block q) reply.Done rs = omega (arith, same_sides g (call.Block q) reply.Done rs)
grown g (call.Block q) (reply.Count k) rs = omega (arith, same_sides g (call.Block q) (reply.Count k) rs)
grown g (call.Block q) (reply.Refused w) rs = omega (arith, same_sides g (call.Block q) (reply.Refused w) rs)
grown g (call.Unblock q) (reply.Conn m) rs = omega (arith, same_sides g (call.Unblock q) (reply.Conn m) rs)
grown g (call.Unblock q) reply.Done rs = omega (arith, same_sides g (call.Unblock q) reply.Done rs)
grown g (call.Unblock q) (reply.Count k) rs = omega (arith, same_sides g (call.Unblock q) (reply.Count k) rs)
grown g (call.Unblock q) (reply.Refused w) rs = omega (arith, same_sides g (call.Unblock q) (reply.Refused w) rs)
grown g (call.Gone n) (reply.Conn m) rs = omega (arith, same_sides g (call.Gone n) (reply.Conn m) rs)
grown g (call.Gone n) (reply.Count k) rs = omega (arith, same_sides g (call.Gone n) (reply.Count k) rs)
grown g (call.Gone n) (reply.Refused w) rs = omega (arith, same_sides g (call.Gone n) (reply.Refused w) rs)
grown g (call.Allow q) (reply.Conn m) rs = omega (arith, same_sides g (call.Allow q) (reply.Conn m) rs)
grown g (call.Allow q) reply.Done rs = omega (arith, same_sides g (call.Allow q) reply.Done rs)
grown g (call.Allow q) (reply.Count k) rs = omega (arith, same_sides g (call.Allow q) (reply.Count k) rs)
grown g (call.Allow q) (reply.Refused w) rs = omega (arith, same_sides g (call.Allow q) (reply.Refused w) rs)
grown g (call.Disallow q) (reply.Conn m) rs = omega (arith, same_sides g (call.Disallow q) (reply.Conn m) rs)
grown g (call.Disallow q) reply.Done rs = omega (arith, same_sides g (call.Disallow q) reply.Done rs)
grown g (call.Disallow q) (reply.Count k) rs = omega (arith, same_sides g (call.Disallow q) (reply.Count k) rs)
grown g (call.Disallow q) (reply.Refused w) rs = omega (arith, same_sides g (call.Disallow q) (reply.Refused w) rs)
grown g (call.Note n a) (reply.Conn m) rs = omega (arith, same_sides g (call.Note n a) (reply.Conn m) rs)
grown g (call.Note n a) reply.Done rs = omega (arith, same_sides g (call.Note n a) reply.Done rs)
grown g (call.Note n a) (reply.Count k) rs = omega (arith, same_sides g (call.Note n a) (reply.Count k) rs)
grown g (call.Note n a) (reply.Refused w) rs = omega (arith, same_sides g (call.Note n a) (reply.Refused w) rs)

-- how many rows pass a test of their side, under a limit that is tested before each admission
within : (config : Config) (g : ConnSide → Bool) (limit : ℕ) → ((h : List Entry) (c : Call) (r : Reply) → Counts config h c r → (admits c r && g (side_of c)) ≡ true → nat_le limit (count_by (on g) (rows config h)) ≡ false) → (h : List Entry) → IsLegal config h → count_by (on g) (rows config h) ≤ limit
within config g limit tested h legal = legal_ind_with config (λ h. count_by (on g) (rows config h) ≤ limit) step (omega arith) h legal
  where
    step : (h : List Entry) (e : Entry) → IsLegal config h → IsNext config h e.call e.reply → count_by (on g) (rows config h) ≤ limit → count_by (on g) (rows config (h ++ e ∷ [])) ≤ limit
    step h e legal next few =
        subst (λ (rs : List Row). count_by (on g) rs ≤ limit) (rows_next config h e.caller e.call e.reply (blank config h legal) next) (by_case (decided config h e.call e.reply next).1)
      where
        add : count_by (on g) (rows_after e.call e.reply (rows config h)) ≤ count_by (on g) (rows config h) + cond (admits e.call e.reply && g (side_of e.call)) 1 0
        add = grown g e.call e.reply (rows config h)

        counted : (b : Bool) → (admits e.call e.reply && g (side_of e.call)) ≡ b → Counts config h e.call e.reply → count_by (on g) (rows_after e.call e.reply (rows config h)) ≤ limit
        counted true is k = omega (arith, rw is at add, below_limit (count_by (on g) (rows config h)) limit (tested h e.call e.reply k is))
        counted false is k = omega (arith, rw is at add)

        by_case : (((w : Refusal) × (e.reply ≡ reply.Refused w)) ⊎ Counts config h e.call e.reply) → count_by (on g) (rows_after e.call e.reply (rows config h)) ≤ limit
        by_case (inl w) = rw w.1 (omega (arith, few, grown g e.call (reply.Refused w.0) (rows config h)))
        by_case (inr k) = counted (admits e.call e.reply && g (side_of e.call)) refl k

count_all : (rs : List Row) → count_by (λ (row : Row). true) rs ≡ length rs
count_all [] = refl
count_all (x ∷ rs) = omega (arith, count_cons (λ (row : Row). true) x rs, count_all rs)

full_tested : (config : Config) (h : List Entry) (c : Call) (r : Reply) → Counts config h c r → (admits c r && true) ≡ true → nat_le config.limits.conns (count_by (on (λ s. true)) (rows config h)) ≡ false
full_tested config h (call.Dial None) r k is = rw (count_all (rows config h)) (none_holds (may_refuse config (next_number config h) (Shown config h) (call.Dial None)) k.none).0
full_tested config h (call.Dial (Some q)) r k is = rw (count_all (rows config h)) (none_holds (may_refuse config (next_number config h) (Shown config h) (call.Dial (Some q))) k.none).1.1.0
full_tested config h call.Accept r k is = rw (count_all (rows config h)) (none_holds (may_refuse config (next_number config h) (Shown config h) call.Accept) k.none).0
full_tested config h (call.Settle n q) r k is = absurd (false≢true (sym (ap (λ r. admits (call.Settle n q) r && true) k.answered) ∙ is))
full_tested config h (call.Ask n i) r k is = absurd (false≢true (sym (ap (λ r. admits (call.Ask n i) r && true) k.answered) ∙ is))
full_tested config h (call.Done n i) r k is = absurd (false≢true (sym (ap (λ r. admits (call.Done n i) r && true) k.answered) ∙ is))
full_tested config h (call.HangUp q) r k is = absurd (false≢true (sym (ap (λ r. admits (call.HangUp q) r && true) k.answered) ∙ is))
full_tested config h (call.Block q) r k is = absurd (false≢true (sym (ap (λ r. admits (call.Block q) r && true) k.answered) ∙ is))
full_tested config h (call.Unblock q) r k is = absurd (false≢true (sym (ap (λ r. admits (call.Unblock q) r && true) k.answered) ∙ is))
full_tested config h (call.Gone n) r k is = absurd (false≢true (sym (ap (λ r. admits (call.Gone n) r && true) k.answered) ∙ is))
full_tested config h (call.Allow q) r k is = absurd (false≢true (sym (ap (λ r. admits (call.Allow q) r && true) k.answered) ∙ is))
full_tested config h (call.Disallow q) r k is = absurd (false≢true (sym (ap (λ r. admits (call.Disallow q) r && true) k.answered) ∙ is))
full_tested config h (call.Note n a) r k is = absurd (false≢true (sym (ap (λ r. admits (call.Note n a) r && true) k.answered) ∙ is))

outbound_tested : (config : Config) (h : List Entry) (c : Call) (r : Reply) → Counts config h c r → (admits c r && is_side (side_of c) side.Dialer) ≡ true → nat_le config.limits.outbound (rows_on (rows config h) side.Dialer) ≡ false
outbound_tested config h (call.Dial None) r k is = (none_holds (may_refuse config (next_number config h) (Shown config h) (call.Dial None)) k.none).1.1.0
outbound_tested config h (call.Dial (Some q)) r k is = (none_holds (may_refuse config (next_number config h) (Shown config h) (call.Dial (Some q))) k.none).1.1.1.1.1.0
outbound_tested config h call.Accept r k is = absurd (false≢true (sym (ap (λ r. admits call.Accept r && false) k.answered) ∙ is))
outbound_tested config h (call.Settle n q) r k is = absurd (false≢true (sym (ap (λ r. admits (call.Settle n q) r && false) k.answered) ∙ is))
outbound_tested config h (call.Ask n i) r k is = absurd (false≢true (sym (ap (λ r. admits (call.Ask n i) r && false) k.answered) ∙ is))
outbound_tested config h (call.Done n i) r k is = absurd (false≢true (sym (ap (λ r. admits (call.Done n i) r && false) k.answered) ∙ is))
outbound_tested config h (call.HangUp q) r k is = absurd (false≢true (sym (ap (λ r. admits (call.HangUp q) r && false) k.answered) ∙ is))
outbound_tested config h (call.Block q) r k is = absurd (false≢true (sym (ap (λ r. admits (call.Block q) r && false) k.answered) ∙ is))
outbound_tested config h (call.Unblock q) r k is = absurd (false≢true (sym (ap (λ r. admits (call.Unblock q) r && false) k.answered) ∙ is))
outbound_tested config h (call.Gone n) r k is = absurd (false≢true (sym (ap (λ r. admits (call.Gone n) r && false) k.answered) ∙ is))
outbound_tested config h (call.Allow q) r k is = absurd (false≢true (sym (ap (λ r. admits (call.Allow q) r && false) k.answered) ∙ is))
outbound_tested config h (call.Disallow q) r k is = absurd (false≢true (sym (ap (λ r. admits (call.Disallow q) r && false) k.answered) ∙ is))
outbound_tested config h (call.Note n a) r k is = absurd (false≢true (sym (ap (λ r. admits (call.Note n a) r && false) k.answered) ∙ is))

inbound_tested : (config : Config) (h : List Entry) (c : Call) (r : Reply) → Counts config h c r → (admits c r && is_side (side_of c) side.Listener) ≡ true → nat_le config.limits.inbound (rows_on (rows config h) side.Listener) ≡ false
inbound_tested config h call.Accept r k is = (none_holds (may_refuse config (next_number config h) (Shown config h) call.Accept) k.none).1.1.0
inbound_tested config h (call.Dial o) r k is = absurd (false≢true (sym (ap (λ r. admits (call.Dial o) r && is_side (side_of (call.Dial o)) side.Listener) k.answered) ∙ is))
inbound_tested config h (call.Settle n q) r k is = absurd (false≢true (sym (ap (λ r. admits (call.Settle n q) r && is_side (side_of (call.Settle n q)) side.Listener) k.answered) ∙ is))
inbound_tested config h (call.Ask n i) r k is = absurd (false≢true (sym (ap (λ r. admits (call.Ask n i) r && is_side (side_of (call.Ask n i)) side.Listener) k.answered) ∙ is))
inbound_tested config h (call.Done n i) r k is = absurd (false≢true (sym (ap (λ r. admits (call.Done n i) r && is_side (side_of (call.Done n i)) side.Listener) k.answered) ∙ is))
inbound_tested config h (call.HangUp q) r k is = absurd (false≢true (sym (ap (λ r. admits (call.HangUp q) r && is_side (side_of (call.HangUp q)) side.Listener) k.answered) ∙ is))
inbound_tested config h (call.Block q) r k is = absurd (false≢true (sym (ap (λ r. admits (call.Block q) r && is_side (side_of (call.Block q)) side.Listener) k.answered) ∙ is))
inbound_tested config h (call.Unblock q) r k is = absurd (false≢true (sym (ap (λ r. admits (call.Unblock q) r && is_side (side_of (call.Unblock q)) side.Listener) k.answered) ∙ is))
inbound_tested config h (call.Gone n) r k is = absurd (false≢true (sym (ap (λ r. admits (call.Gone n) r && is_side (side_of (call.Gone n)) side.Listener) k.answered) ∙ is))
inbound_tested config h (call.Allow q) r k is = absurd (false≢true (sym (ap (λ r. admits (call.Allow q) r && is_side (side_of (call.Allow q)) side.Listener) k.answered) ∙ is))
inbound_tested config h (call.Disallow q) r k is = absurd (false≢true (sym (ap (λ r. admits (call.Disallow q) r && is_side (side_of (call.Disallow q)) side.Listener) k.answered) ∙ is))
inbound_tested config h (call.Note n a) r k is = absurd (false≢true (sym (ap (λ r. admits (call.Note n a) r && is_side (side_of (call.Note n a)) side.Listener) k.answered) ∙ is))

pub few_conns : (config : Config) (h : List Entry) → IsLegal config h → length (rows config h) ≤ config.limits.conns
few_conns config h legal = omega (arith, count_all (rows config h), within config (λ s. true) config.limits.conns (full_tested config) h legal)

pub few_outbound : (config : Config) (h : List Entry) → IsLegal config h → rows_on (rows config h) side.Dialer ≤ config.limits.outbound
few_outbound config h legal = within config (λ s. is_side s side.Dialer) config.limits.outbound (outbound_tested config) h legal

pub few_inbound : (config : Config) (h : List Entry) → IsLegal config h → rows_on (rows config h) side.Listener ≤ config.limits.inbound
few_inbound config h legal = within config (λ s. is_side s side.Listener) config.limits.inbound (inbound_tested config) h legal
