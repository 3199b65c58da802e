-- `added` leaves what the longer history shows.
use Rattle.std.proofs.Common.{◌≡◌, ◌∙◌, ◌⊎◌, inl, inr, ℕ, suc, ◌+◌, ◌<◌, ◌≤◌, ◌==◌, nat_le, nat_lt, Bool, true, false, not, ◌&&◌, ◌||◌, cond, List, [], ◌∷◌, ◌++◌, length, map, Option, Some, None, refl, sym, ap, subst, arith, length-append, add-one}
use Rattle.std.specs.Bool.{if◌then◌else◌}
use Rattle.std.specs.List.{list_any, filter, count_by, range_with_len}
use Rattle.std.proofs.lemmas.Bool.{false≢true, eq-eqb}
use Rattle.std.proofs.lemmas.Bool.Decides.{nat_tests}
use Rattle.std.proofs.lemmas.List.Sums.{count_by-le-length, sum_by-append}
use Rattle.pool_state.specs.declared.call.Call.{Call}
use Rattle.pool_state.specs.declared.call.Call.TheVariants as call
use Rattle.pool_state.specs.declared.call.Reply.{Reply}
use Rattle.pool_state.specs.declared.call.Reply.TheVariants as reply
use Rattle.pool_state.specs.declared.call.Refusal.{Refusal}
use Rattle.pool_state.specs.declared.limits.Config.{Config}
use Rattle.pool_state.specs.declared.row.Row.{Row}
use Rattle.pool_state.specs.declared.row.ConnSide.TheVariants as side
use Rattle.pool_state.specs.declared.row.Phase.TheVariants as phase
use Rattle.pool_state.specs.Parts.{Peer, listing, is_peer, is_phase, has}
use Rattle.pool_state.specs.Table.{may_refuse, closable}
use Rattle.pool_state.specs.History.{Entry, entry, stands, begins, ends, admissions, next_number, front_of, blocked, allowed, blocks, unblocks, allows, disallows, peer_of, role_of, phase_of, agent_of, asked, done, asks, finishes}
use Rattle.pool_state.specs.Shown.{row_of, standing, IsLegal, Shown}
use Rattle.pool_state.specs.Added.{fresh, rows_after, with_row, added, added_to, removed_from}
use Rattle.pool_state.proofs.Questions.{since_more, or_false}
use Rattle.pool_state.proofs.Rows.{next_row, row_next, IsSmall}
use Rattle.std.proofs.lemmas.List.{map-append}
use Rattle.std.proofs.lemmas.List.Elements.{filter-append}
use Rattle.pool_state.proofs.Agree.{Plain, Agrees, more_is, refused_agrees, settle_agrees, ask_agrees, done_agrees, note_agrees, hang_up_agrees, block_agrees, unblock_agrees, allow_agrees, gone_agrees, disallow_agrees_open, disallow_agrees_none, disallow_agrees_idle}
use Rattle.pool_state.proofs.Standing.{rows_mapped, map_range, filter_range, range_more, filter_map_comm, filter_filter, none_passes}
use Rattle.pool_state.proofs.Listed.{AreExclusive, list_next}
use Rattle.pool_state.proofs.Legal.{IsNext, Counts, Room, decided, none_holds}
use Rattle.pool_state.proofs.Blank.{IsBlank, blank, admissions_more}

abbrev pub rows : Config → List Entry → List Row
rows config h = map (row_of config h) (standing config h)

abbrev pub plain : Config → List Entry → ℕ → Plain
plain config h n = record {
  n = n;
  r = role_of h n;
  f = phase_of config.allow_only h n;
  p = peer_of h n;
  a0 = asked h n 0;
  a1 = asked h n 1;
  a2 = asked h n 2;
  d0 = done h n 0;
  d1 = done h n 1;
  d2 = done h n 2;
  g = agent_of h n;
}

-- the rows after the entry are those that the longer history shows
abbrev RowsNext : Config → List Entry → ℕ → Call → Reply → Type 0
RowsNext config h caller c r = rows_after c r (rows config h) ≡ rows config (h ++ entry caller c r ∷ [])

small : (config : Config) (h : List Entry) (n : ℕ) → Room config h → IsSmall (row_of config h n)
small config h n room =
    let ask = λ (i : ℕ) (e : Entry). asks n i e.call e.reply in
    let fin = λ (i : ℕ) (e : Entry). finishes n i e.call e.reply in
    record {
      asked0 = omega (arith, count_by-le-length (ask 0) h, room.below);
      asked1 = omega (arith, count_by-le-length (ask 1) h, room.below);
      asked2 = omega (arith, count_by-le-length (ask 2) h, room.below);
      done0 = omega (arith, count_by-le-length (fin 0) h, room.below);
      done1 = omega (arith, count_by-le-length (fin 1) h, room.below);
      done2 = omega (arith, count_by-le-length (fin 2) h, room.below);
    }

rows_refused : (config : Config) (h : List Entry) (caller : ℕ) (c : Call) (w : Refusal) → RowsNext config h caller c (reply.Refused w)
rows_refused config h caller (call.Dial p) w = rows_mapped config h caller (call.Dial p) (reply.Refused w) refl (λ n. refl) (λ n. refl) (λ n g l s. refused_agrees config.allow_only (call.Dial p) w (plain config h n))
rows_refused config h caller call.Accept w = rows_mapped config h caller call.Accept (reply.Refused w) refl (λ n. refl) (λ n. refl) (λ n g l s. refused_agrees config.allow_only call.Accept w (plain config h n))
rows_refused config h caller (call.Settle m p) w = rows_mapped config h caller (call.Settle m p) (reply.Refused w) refl (λ n. refl) (λ n. refl) (λ n g l s. refused_agrees config.allow_only (call.Settle m p) w (plain config h n))
rows_refused config h caller (call.Ask m i) w = rows_mapped config h caller (call.Ask m i) (reply.Refused w) refl (λ n. refl) (λ n. refl) (λ n g l s. refused_agrees config.allow_only (call.Ask m i) w (plain config h n))
rows_refused config h caller (call.Done m i) w = rows_mapped config h caller (call.Done m i) (reply.Refused w) refl (λ n. refl) (λ n. refl) (λ n g l s. refused_agrees config.allow_only (call.Done m i) w (plain config h n))
rows_refused config h caller (call.HangUp p) w = rows_mapped config h caller (call.HangUp p) (reply.Refused w) refl (λ n. refl) (λ n. refl) (λ n g l s. refused_agrees config.allow_only (call.HangUp p) w (plain config h n))
rows_refused config h caller (call.Block p) w = rows_mapped config h caller (call.Block p) (reply.Refused w) refl (λ n. refl) (λ n. refl) (λ n g l s. refused_agrees config.allow_only (call.Block p) w (plain config h n))
rows_refused config h caller (call.Unblock p) w = rows_mapped config h caller (call.Unblock p) (reply.Refused w) refl (λ n. refl) (λ n. refl) (λ n g l s. refused_agrees config.allow_only (call.Unblock p) w (plain config h n))
rows_refused config h caller (call.Gone m) w = rows_mapped config h caller (call.Gone m) (reply.Refused w) refl (λ n. refl) (λ n. refl) (λ n g l s. refused_agrees config.allow_only (call.Gone m) w (plain config h n))
rows_refused config h caller (call.Allow p) w = rows_mapped config h caller (call.Allow p) (reply.Refused w) refl (λ n. refl) (λ n. refl) (λ n g l s. refused_agrees config.allow_only (call.Allow p) w (plain config h n))
rows_refused config h caller (call.Disallow p) w = rows_mapped config h caller (call.Disallow p) (reply.Refused w) refl (λ n. refl) (λ n. refl) (λ n g l s. refused_agrees config.allow_only (call.Disallow p) w (plain config h n))
rows_refused config h caller (call.Note m a) w = rows_mapped config h caller (call.Note m a) (reply.Refused w) refl (λ n. refl) (λ n. refl) (λ n g l s. refused_agrees config.allow_only (call.Note m a) w (plain config h n))

-- a new connection, by a Dial or an Accept
new_row : (config : Config) (h : List Entry) (caller : ℕ) (c : Call) (row : Row) → IsBlank config h
    → ((n : ℕ) → ends n c (reply.Conn (next_number config h)) ≡ false)
    → ((n : ℕ) → n < next_number config h → next_row config.allow_only c (reply.Conn (next_number config h)) (row_of config h n) ≡ row_of config h n)
    → next_row config.allow_only c (reply.Conn (next_number config h)) (fresh (next_number config h) side.Listener None) ≡ row
    → rows config h ++ row ∷ [] ≡ rows config (h ++ entry caller c (reply.Conn (next_number config h)) ∷ [])
new_row config h caller c row blank no_end others here =
    let n : ℕ = next_number config h in
    let e : Entry = entry caller c (reply.Conn n) in
    let h' : List Entry = h ++ e ∷ [] in
    let k : ℕ = admissions h in
    let one_more : admissions h' ≡ suc k = admissions_more h caller c (reply.Conn n) ∙ add-one k in
    let old : map (row_of config h) (standing config h) ≡ map (row_of config h') (filter (stands h') (range_with_len config.first_conn k)) =
    map_range (row_of config h) (row_of config h') (stands h) config.first_conn k (λ m g l s. sym (row_next config h m caller c (reply.Conn n) ∙ others m l))
    ∙ ap (λ (ns : List ℕ). map (row_of config h') ns) (filter_range (stands h) (stands h') config.first_conn k (λ m l. sym (stands_before m l))) in
    let last : map (row_of config h') (filter (stands h') (n ∷ [])) ≡ row ∷ [] = last_row in
    ap (λ (rs : List Row). rs ++ row ∷ []) old
    ∙ (ap (λ (rs : List Row). map (row_of config h') (filter (stands h') (range_with_len config.first_conn k)) ++ rs) (sym last)
    ∙ (sym (map-append (row_of config h') (filter (stands h') (range_with_len config.first_conn k)) (filter (stands h') (n ∷ [])))
    ∙ ap (λ (ns : List ℕ). map (row_of config h') ns) (sym (filter-append (stands h') (range_with_len config.first_conn k) (n ∷ []))
    ∙ ap (λ (ns : List ℕ). filter (stands h') ns) (sym (range_more config.first_conn k) ∙ ap (λ (j : ℕ). range_with_len config.first_conn j) (sym one_more)))))
  where
    since : (m : ℕ) → stands (h ++ entry caller c (reply.Conn (next_number config h)) ∷ []) m ≡ ((stands h m && not (ends m c (reply.Conn (next_number config h)))) || (m == next_number config h))
    since m = since_more (λ (x : Entry). begins m x.call x.reply) (λ (x : Entry). ends m x.call x.reply) h (entry caller c (reply.Conn (next_number config h)))

    keep : (a b c : Bool) → b ≡ false → c ≡ false → ((a && not b) || c) ≡ a
    keep true false false p q = refl
    keep false b false p q = refl
    keep a true c p q = absurd (false≢true (sym p))
    keep a b true p q = absurd (false≢true (sym q))

    stands_before : (m : ℕ) → m < next_number config h → stands (h ++ entry caller c (reply.Conn (next_number config h)) ∷ []) m ≡ stands h m
    stands_before m l = since m ∙ keep (stands h m) (ends m c (reply.Conn (next_number config h))) (m == next_number config h) (no_end m) (differ m (next_number config h) l)
      where
        differ : (m n : ℕ) → m < n → (m == n) ≡ false
        differ m n l = grind (arith, nat_tests)

    or_true : (a : Bool) → (a || true) ≡ true
    or_true true = refl
    or_true false = refl

    stands_now : stands (h ++ entry caller c (reply.Conn (next_number config h)) ∷ []) (next_number config h) ≡ true
    stands_now = since (next_number config h) ∙ (ap (λ b. (stands h (next_number config h) && not (ends (next_number config h) c (reply.Conn (next_number config h)))) || b) (eq-eqb (next_number config h) (next_number config h) refl) ∙ or_true _)

    last_row : map (row_of config (h ++ entry caller c (reply.Conn (next_number config h)) ∷ [])) (filter (stands (h ++ entry caller c (reply.Conn (next_number config h)) ∷ [])) (next_number config h ∷ [])) ≡ row ∷ []
    last_row =
        ap (λ b. map (row_of config (h ++ entry caller c (reply.Conn (next_number config h)) ∷ [])) (cond b (next_number config h ∷ []) [])) stands_now
        ∙ ap (λ (x : Row). x ∷ []) (row_next config h (next_number config h) caller c (reply.Conn (next_number config h))
        ∙ (ap (λ (x : Row). next_row config.allow_only c (reply.Conn (next_number config h)) x) (blank (next_number config h) (omega arith)) ∙ here))

room_for_row : (n limit : ℕ) → nat_le limit n ≡ false → limit ≤ 256 → nat_lt n 256 ≡ true
room_for_row n limit h l = grind (arith, nat_tests)

rows_gone : (config : Config) (h : List Entry) (caller m : ℕ) → RowsNext config h caller (call.Gone m) reply.Done
rows_gone config h caller m =
    let h' : List Entry = h ++ entry caller (call.Gone m) reply.Done ∷ [] in
    let t : ℕ → Bool = λ n. stands h n && not (n == m) in
    filter_map_comm (λ (row : Row). not (row.conn == m)) (row_of config h) (standing config h)
    ∙ (ap (λ (ns : List ℕ). map (row_of config h) ns) (filter_filter (λ n. not (n == m)) (stands h) (range_with_len config.first_conn (admissions h)))
    ∙ (map_range (row_of config h) (row_of config h') t config.first_conn (admissions h) (λ n g l s. gone_agrees config.allow_only m (plain config h n) ∙ sym (row_next config h n caller (call.Gone m) reply.Done))
    ∙ ap (λ (ns : List ℕ). map (row_of config h') ns)
    (filter_range t (stands h') config.first_conn (admissions h) (λ n l. sym (since_more (λ (x : Entry). begins n x.call x.reply) (λ (x : Entry). ends n x.call x.reply) h (entry caller (call.Gone m) reply.Done) ∙ or_false (stands h n && not (n == m))))
    ∙ ap (λ (k : ℕ). filter (stands h') (range_with_len config.first_conn k)) (sym (admissions_more h caller (call.Gone m) reply.Done)))))

-- what holds where nothing refuses the call
abbrev refusals : Config → List Entry → Call → List (Refusal × Bool)
refusals config h c = may_refuse config (next_number config h) (Shown config h) c

admitted : (rs : List Row) (row : Row) (limit : ℕ) → nat_le limit (length rs) ≡ false → limit ≤ 256 → with_row rs row ≡ rs ++ row ∷ []
admitted rs row limit h l = ap (λ b. if b then rs ++ row ∷ [] else rs) (room_for_row (length rs) limit h l)

dial_others : (allow : Bool) (p : Option Peer) (n : ℕ) (x : Plain) → (x.n == n) ≡ false → next_row allow (call.Dial p) (reply.Conn n) (Rattle.pool_state.proofs.Agree.row x) ≡ Rattle.pool_state.proofs.Agree.row x
dial_others allow p n x h = rw h refl

dial_here : (allow : Bool) (p : Option Peer) (n : ℕ) → next_row allow (call.Dial p) (reply.Conn n) (fresh n side.Listener None) ≡ fresh n side.Dialer p
dial_here allow p n = rw (eq-eqb n n refl) (named p)
  where
    named : (p : Option Peer) → fresh n side.Dialer (Rattle.pool_state.proofs.Questions.later_of p None) ≡ fresh n side.Dialer p
    named None = refl
    named (Some q) = refl

rows_dialed : (config : Config) (h : List Entry) (caller : ℕ) (p : Option Peer) → IsBlank config h → nat_le config.limits.conns (length (rows config h)) ≡ false → RowsNext config h caller (call.Dial p) (reply.Conn (next_number config h))
rows_dialed config h caller p blank room =
    admitted (rows config h) (fresh (next_number config h) side.Dialer p) config.limits.conns room config.limits.few_conns
    ∙ new_row config h caller (call.Dial p) (fresh (next_number config h) side.Dialer p) blank (λ n. refl)
    (λ n l. dial_others config.allow_only p (next_number config h) (plain config h n) (differ n (next_number config h) l))
    (dial_here config.allow_only p (next_number config h))
  where
    differ : (m n : ℕ) → m < n → (m == n) ≡ false
    differ m n l = grind (arith, nat_tests)

rows_accepted : (config : Config) (h : List Entry) (caller : ℕ) → IsBlank config h → nat_le config.limits.conns (length (rows config h)) ≡ false → RowsNext config h caller call.Accept (reply.Conn (next_number config h))
rows_accepted config h caller blank room =
    admitted (rows config h) (fresh (next_number config h) side.Listener None) config.limits.conns room config.limits.few_conns
    ∙ new_row config h caller call.Accept (fresh (next_number config h) side.Listener None) blank (λ n. refl) (λ n l. refl) refl

pub count_cons : {X : Type 0} (f : X → Bool) (x : X) (xs : List X) → count_by f (x ∷ xs) ≡ cond (f x) 1 0 + count_by f xs
count_cons f x xs = sum_by-append (λ y. cond (f y) 1 0) (x ∷ []) xs ∙ ap (λ (n : ℕ). n + count_by f xs) (omega arith)

pub count_zero : {X : Type 0} (f : X → Bool) (xs : List X) → count_by f xs ≡ 0 → list_any f xs ≡ false
count_zero f [] h = refl
count_zero f (x ∷ xs) h = step (f x) (sym (count_cons f x xs) ∙ h) (count_zero f xs)
  where
    step : (b : Bool) → cond b 1 0 + count_by f xs ≡ 0 → (count_by f xs ≡ 0 → list_any f xs ≡ false) → (b || list_any f xs) ≡ false
    step true e rest = absurd (omega arith)
    step false e rest = rest (omega arith)

disallow_agrees : (allow : Bool) (p : Peer) (count k : ℕ) (x : Plain) → k ≡ (if allow then count else 0) → (count ≡ 0 → (is_peer p x.p && not (is_phase x.f phase.Closing)) ≡ false) → Agrees allow (call.Disallow p) (reply.Count k) x
disallow_agrees false p count k x e none = rw e (disallow_agrees_idle p x)
disallow_agrees true p count k x e none = step (nat_lt 0 k) refl
  where
    zero_from : (k : ℕ) → nat_lt 0 k ≡ false → k ≡ 0
    zero_from k h = grind (arith, nat_tests)

    step : (b : Bool) → nat_lt 0 k ≡ b → Agrees true (call.Disallow p) (reply.Count k) x
    step true h = disallow_agrees_open p k x h
    step false h = rw (zero_from k h) (disallow_agrees_none p x (none (sym e ∙ zero_from k h)))

rows_disallowed : (config : Config) (h : List Entry) (caller : ℕ) (p : Peer) (k : ℕ) → k ≡ (if config.allow_only then closable (rows config h) p else 0) → RowsNext config h caller (call.Disallow p) (reply.Count k)
rows_disallowed config h caller p k e =
    let closes_row = λ (row : Row). is_peer p row.peer && not (is_phase row.phase phase.Closing) in
    rows_mapped config h caller (call.Disallow p) (reply.Count k) refl (λ n. refl) (λ n. refl)
    (λ n g l s. disallow_agrees config.allow_only p (closable (rows config h) p) k (plain config h n) e
    (λ z. none_passes closes_row (row_of config h) (stands h) config.first_conn (admissions h) (count_zero closes_row (rows config h) z) n g l s))

rows_answered : (config : Config) (h : List Entry) (caller : ℕ) (c : Call) (r : Reply) → IsBlank config h → Room config h → Counts config h c r → RowsNext config h caller c r
rows_answered config h caller (call.Dial None) r blank room k =
    let f = none_holds (refusals config h (call.Dial None)) k.none in
    rw k.answered (rows_dialed config h caller None blank f.0)
rows_answered config h caller (call.Dial (Some p)) r blank room k =
    let f = none_holds (refusals config h (call.Dial (Some p))) k.none in
    rw k.answered (rows_dialed config h caller (Some p) blank f.1.1.0)
rows_answered config h caller call.Accept r blank room k =
    let f = none_holds (refusals config h call.Accept) k.none in
    rw k.answered (rows_accepted config h caller blank f.0)
rows_answered config h caller (call.Gone m) r blank room k = rw k.answered (rows_gone config h caller m)
rows_answered config h caller (call.Settle m p) r blank room k =
    rw k.answered (rows_mapped config h caller (call.Settle m p) reply.Done refl (λ n. refl) (λ n. refl) (λ n g l s. settle_agrees config.allow_only m p (plain config h n)))
rows_answered config h caller (call.Ask m i) r blank room k =
    let f = none_holds (refusals config h (call.Ask m i)) k.none in
    rw k.answered (rows_mapped config h caller (call.Ask m i) reply.Done refl (λ n. refl) (λ n. refl) (λ n g l s. ask_agrees config.allow_only m i (plain config h n) (small config h n room) (below_three i f.1.1.1.0)))
  where
    below_three : (i : ℕ) → nat_le 3 i ≡ false → i < 3
    below_three i e = grind (arith, nat_tests)
rows_answered config h caller (call.Done m i) r blank room k =
    let f = none_holds (refusals config h (call.Done m i)) k.none in
    rw k.answered (rows_mapped config h caller (call.Done m i) reply.Done refl (λ n. refl) (λ n. refl) (λ n g l s. done_agrees config.allow_only m i (plain config h n) (small config h n room) (below_three i f.1.1.1.0)))
  where
    below_three : (i : ℕ) → nat_le 3 i ≡ false → i < 3
    below_three i e = grind (arith, nat_tests)
rows_answered config h caller (call.Note m a) r blank room k =
    rw k.answered (rows_mapped config h caller (call.Note m a) reply.Done refl (λ n. refl) (λ n. refl) (λ n g l s. note_agrees config.allow_only m a (plain config h n)))
rows_answered config h caller (call.HangUp p) r blank room k =
    rw k.answered (rows_mapped config h caller (call.HangUp p) (reply.Count (closable (rows config h) p)) refl (λ n. refl) (λ n. refl) (λ n g l s. hang_up_agrees config.allow_only p (closable (rows config h) p) (plain config h n)))
rows_answered config h caller (call.Block p) r blank room k =
    rw k.answered (rows_mapped config h caller (call.Block p) (reply.Count (closable (rows config h) p)) refl (λ n. refl) (λ n. refl) (λ n g l s. block_agrees config.allow_only p (closable (rows config h) p) (plain config h n)))
rows_answered config h caller (call.Unblock p) r blank room k =
    rw k.answered (rows_mapped config h caller (call.Unblock p) (reply.Count (if has (blocked h) p then 1 else 0)) refl (λ n. refl) (λ n. refl) (λ n g l s. unblock_agrees config.allow_only p 0 (plain config h n)))
rows_answered config h caller (call.Allow p) r blank room k =
    rw k.answered (rows_mapped config h caller (call.Allow p) (reply.Count (if has (allowed h) p then 0 else 1)) refl (λ n. refl) (λ n. refl) (λ n g l s. allow_agrees config.allow_only p 0 (plain config h n)))
rows_answered config h caller (call.Disallow p) r blank room k = rw k.answered (rows_disallowed config h caller p (if config.allow_only then closable (rows config h) p else 0) refl)

pub rows_next : (config : Config) (h : List Entry) (caller : ℕ) (c : Call) (r : Reply) → IsBlank config h → IsNext config h c r → RowsNext config h caller c r
rows_next config h caller c r blank next = let d = decided config h c r next in by_case d.0 d.1
  where
    by_case : Room config h → (((w : Refusal) × (r ≡ reply.Refused w)) ⊎ Counts config h c r) → RowsNext config h caller c r
    by_case room (inl w) = rw w.1 (rows_refused config h caller c w.0)
    by_case room (inr k) = rows_answered config h caller c r blank room k

-- the lists of peers
pub block_exclusive : AreExclusive blocks unblocks
block_exclusive (call.Block p) r = inl refl
block_exclusive (call.Unblock p) r = inr refl
block_exclusive (call.Dial p) r = inr refl
block_exclusive call.Accept r = inr refl
block_exclusive (call.Settle n p) r = inr refl
block_exclusive (call.Ask n i) r = inr refl
block_exclusive (call.Done n i) r = inr refl
block_exclusive (call.HangUp p) r = inr refl
block_exclusive (call.Gone n) r = inr refl
block_exclusive (call.Allow p) r = inr refl
block_exclusive (call.Disallow p) r = inr refl
block_exclusive (call.Note n a) r = inr refl

pub allow_exclusive : AreExclusive allows disallows
allow_exclusive (call.Allow p) r = inl refl
allow_exclusive (call.Disallow p) r = inr refl
allow_exclusive (call.Block p) r = inr refl
allow_exclusive (call.Unblock p) r = inr refl
allow_exclusive (call.Dial p) r = inr refl
allow_exclusive call.Accept r = inr refl
allow_exclusive (call.Settle n p) r = inr refl
allow_exclusive (call.Ask n i) r = inr refl
allow_exclusive (call.Done n i) r = inr refl
allow_exclusive (call.HangUp p) r = inr refl
allow_exclusive (call.Gone n) r = inr refl
allow_exclusive (call.Note n a) r = inr refl

room_in : (limit n : ℕ) (here : Bool) → here ≡ false → (not here && nat_le limit n) ≡ false → limit ≤ 64 → n < 64
room_in limit n false e h l = grind (arith, nat_tests)
room_in limit n true e h l = absurd (false≢true (sym e))

pub none_some : {p : Peer} → None ≡ Some p → ⊥
none_some h = cc

pub blocks_is : (c : Call) (r : Reply) (p : Peer) → blocks c r ≡ Some p → c ≡ call.Block p
blocks_is (call.Block q) (reply.Count k) p e = cc
blocks_is (call.Block q) (reply.Conn n) p e = absurd (none_some e)
blocks_is (call.Block q) reply.Done p e = absurd (none_some e)
blocks_is (call.Block q) (reply.Refused w) p e = absurd (none_some e)
blocks_is call.Accept r p e = absurd (none_some e)
blocks_is (call.Dial o) r p e = absurd (none_some e)
blocks_is (call.Settle n q) r p e = absurd (none_some e)
blocks_is (call.Ask n i) r p e = absurd (none_some e)
blocks_is (call.Done n i) r p e = absurd (none_some e)
blocks_is (call.HangUp q) r p e = absurd (none_some e)
blocks_is (call.Gone n) r p e = absurd (none_some e)
blocks_is (call.Note n a) r p e = absurd (none_some e)
blocks_is (call.Unblock q) r p e = absurd (none_some e)
blocks_is (call.Allow q) r p e = absurd (none_some e)
blocks_is (call.Disallow q) r p e = absurd (none_some e)

pub allows_is : (c : Call) (r : Reply) (p : Peer) → allows c r ≡ Some p → c ≡ call.Allow p
allows_is (call.Allow q) (reply.Count k) p e = cc
allows_is (call.Allow q) (reply.Conn n) p e = absurd (none_some e)
allows_is (call.Allow q) reply.Done p e = absurd (none_some e)
allows_is (call.Allow q) (reply.Refused w) p e = absurd (none_some e)
allows_is call.Accept r p e = absurd (none_some e)
allows_is (call.Dial o) r p e = absurd (none_some e)
allows_is (call.Settle n q) r p e = absurd (none_some e)
allows_is (call.Ask n i) r p e = absurd (none_some e)
allows_is (call.Done n i) r p e = absurd (none_some e)
allows_is (call.HangUp q) r p e = absurd (none_some e)
allows_is (call.Gone n) r p e = absurd (none_some e)
allows_is (call.Note n a) r p e = absurd (none_some e)
allows_is (call.Unblock q) r p e = absurd (none_some e)
allows_is (call.Block q) r p e = absurd (none_some e)
allows_is (call.Disallow q) r p e = absurd (none_some e)

block_room : (config : Config) (h : List Entry) (r : Reply) (p : Peer) → IsNext config h (call.Block p) r → blocks (call.Block p) r ≡ Some p → has (blocked h) p ≡ false → length (blocked h) < 64
block_room config h r p next e out = by_case (decided config h (call.Block p) r next).1
  where
    by_case : (((w : Refusal) × (r ≡ reply.Refused w)) ⊎ Counts config h (call.Block p) r) → length (blocked h) < 64
    by_case (inl w) = absurd (none_some (sym (ap (blocks (call.Block p)) w.1) ∙ e))
    by_case (inr k) = let f = none_holds (refusals config h (call.Block p)) k.none in room_in config.limits.blocked (length (blocked h)) (has (blocked h) p) out f.1.0 config.limits.few_blocked

allow_room : (config : Config) (h : List Entry) (r : Reply) (p : Peer) → IsNext config h (call.Allow p) r → allows (call.Allow p) r ≡ Some p → has (allowed h) p ≡ false → length (allowed h) < 64
allow_room config h r p next e out = by_case (decided config h (call.Allow p) r next).1
  where
    by_case : (((w : Refusal) × (r ≡ reply.Refused w)) ⊎ Counts config h (call.Allow p) r) → length (allowed h) < 64
    by_case (inl w) = absurd (none_some (sym (ap (allows (call.Allow p)) w.1) ∙ e))
    by_case (inr k) = let f = none_holds (refusals config h (call.Allow p)) k.none in room_in config.limits.allowed (length (allowed h)) (has (allowed h) p) out f.1.0 config.limits.few_allowed

pub blocked_next : (config : Config) (h : List Entry) (caller : ℕ) (c : Call) (r : Reply) → IsNext config h c r → removed_from (unblocks c r) (added_to (blocks c r) (blocked h)) ≡ blocked (h ++ entry caller c r ∷ [])
blocked_next config h caller c r next = list_next blocks unblocks block_exclusive h caller c r (λ p e out. block_room config h r p (subst (λ (d : Call). IsNext config h d r) (blocks_is c r p e) next) (subst (λ (d : Call). blocks d r ≡ Some p) (blocks_is c r p e) e) out)

pub allowed_next : (config : Config) (h : List Entry) (caller : ℕ) (c : Call) (r : Reply) → IsNext config h c r → removed_from (disallows c r) (added_to (allows c r) (allowed h)) ≡ allowed (h ++ entry caller c r ∷ [])
allowed_next config h caller c r next = list_next allows disallows allow_exclusive h caller c r (λ p e out. allow_room config h r p (subst (λ (d : Call). IsNext config h d r) (allows_is c r p e) next) (subst (λ (d : Call). allows d r ≡ Some p) (allows_is c r p e) e) out)

same_listing : {f f' : ℕ} {rs rs' : List Row} {b b' a a' : List Peer} → f ≡ f' → rs ≡ rs' → b ≡ b' → a ≡ a' → listing f rs b a ≡ listing f' rs' b' a'
same_listing hf hr hb ha = cc

-- what `added` leaves is what the longer history shows
pub added_shown : (config : Config) (h : List Entry) (caller : ℕ) (c : Call) (r : Reply) → IsLegal config h → IsNext config h c r → added (Shown config h) c r ≡ Shown config (h ++ entry caller c r ∷ [])
added_shown config h caller c r legal next =
    same_listing
    (more_is (front_of config h) (decided config h c r next).0.below ∙ omega (arith, length-append h (entry caller c r ∷ [])))
    (rows_next config h caller c r (blank config h legal) next)
    (blocked_next config h caller c r next)
    (allowed_next config h caller c r next)
