-- What a legal history keeps of each connection, and of the lists of peers.
use Rattle.std.proofs.Common.{◌≡◌, ◌≢◌, ◌∙◌, ◌⊎◌, inl, inr, ℕ, zero, suc, ◌+◌, ◌<◌, ◌≤◌, ◌==◌, nat_le, Bool, true, false, ◌&&◌, cond, List, [], ◌∷◌, ◌++◌, refl, sym, ap, subst, arith, slice_index}
use Rattle.std.proofs.lemmas.Bool.{eqb-true, eq-eqb}
use Rattle.std.proofs.lemmas.Bool.Decides.{nat_tests}
use Rattle.pool_state.specs.declared.call.Call.{Call}
use Rattle.pool_state.specs.declared.call.Call.TheVariants as call
use Rattle.pool_state.specs.declared.call.Reply.{Reply}
use Rattle.pool_state.specs.declared.call.Reply.TheVariants as reply
use Rattle.pool_state.specs.declared.call.Refusal.{Refusal}
use Rattle.pool_state.specs.declared.limits.Config.{Config}
use Rattle.pool_state.specs.declared.row.Row.{Row}
use Rattle.pool_state.specs.Table.{row_is, open_streams, may_refuse}
use Rattle.pool_state.specs.History.{Entry, stands, admissions, next_number}
use Rattle.pool_state.specs.Shown.{row_of, IsLegal, Shown}
use Rattle.pool_state.proofs.Rows.{made, next_row, row_next}
use Rattle.pool_state.proofs.Agree.{Plain, row}
use Rattle.pool_state.proofs.Standing.{found_in, none_passes}
use Rattle.pool_state.proofs.Legal.{IsNext, Counts, decided, none_holds, legal_ind_with, not_false}
use Rattle.pool_state.proofs.Law.{rows, plain}

-- no more is done than was asked, and not too much is open
pub record IsWithin (limit : ℕ) (x : Row) : Type 0 where
  pub done0 : slice_index x.done 0 ≤ slice_index x.asked 0
  pub done1 : slice_index x.done 1 ≤ slice_index x.asked 1
  pub done2 : slice_index x.done 2 ≤ slice_index x.asked 2
  pub opened : open_streams x ≤ limit

both : (a b : Bool) → (a && b) ≡ true → a ≡ true
both true b h = refl
both false b h = h

-- what a test that fails at the row of n says of it
row_fact : (config : Config) (h : List Entry) (n : ℕ) (test : Row → Bool) → row_is (rows config h) n (λ row. true) ≡ true → row_is (rows config h) n test ≡ false → test (row_of config h n) ≡ false
row_fact config h n test is fails =
    let w = found_in (λ (row : Row). row.conn == n && true) (row_of config h) (stands h) config.first_conn (admissions h) is in
    let same : w.number ≡ n = eqb-true w.number n (both (w.number == n) true w.passes) in
    let stood : stands h n ≡ true = ap (stands h) (sym same) ∙ w.kept in
    let f = none_passes (λ (row : Row). row.conn == n && test row) (row_of config h) (stands h) config.first_conn (admissions h) fails n (omega (arith, w.from)) (omega (arith, w.below)) stood in
    ap (λ b. b && test (row_of config h n)) (sym (eq-eqb n n refl)) ∙ f

above : (limit n : ℕ) → nat_le limit n ≡ false → n < limit
above limit n h = grind (arith, nat_tests)

differs : (m n : ℕ) → (m == n) ≡ false → m ≢ n
differs m n h = grind (arith, nat_tests)

below_three : (i : ℕ) → nat_le 3 i ≡ false → i < 3
below_three i e = grind (arith, nat_tests)

abbrev asked_more : Bool → ℕ → Plain → Row
asked_more b i x = made x.n x.r x.f x.p (cond (b && 0 == i) (x.a0 + 1) x.a0) (cond (b && 1 == i) (x.a1 + 1) x.a1) (cond (b && 2 == i) (x.a2 + 1) x.a2) x.d0 x.d1 x.d2 x.g

ask_within : (limit : ℕ) (b : Bool) (i : ℕ) (x : Plain) → i < 3 → IsWithin limit (row x) → (b ≡ true → open_streams (row x) < limit) → IsWithin limit (asked_more b i x)
ask_within limit false i x l w room = record { done0 = w.done0; done1 = w.done1; done2 = w.done2; opened = w.opened }
ask_within limit true zero x l w room = let r = room refl in record { done0 = omega (arith, w.done0); done1 = w.done1; done2 = w.done2; opened = omega (arith, w.done0, w.done1, w.done2, r) }
ask_within limit true (suc zero) x l w room = let r = room refl in record { done0 = w.done0; done1 = omega (arith, w.done1); done2 = w.done2; opened = omega (arith, w.done0, w.done1, w.done2, r) }
ask_within limit true (suc (suc zero)) x l w room = let r = room refl in record { done0 = w.done0; done1 = w.done1; done2 = omega (arith, w.done2); opened = omega (arith, w.done0, w.done1, w.done2, r) }
ask_within limit true (suc (suc (suc i))) x l w room = absurd (omega arith)

abbrev done_more : Bool → ℕ → Plain → Row
done_more b i x = made x.n x.r x.f x.p x.a0 x.a1 x.a2 (cond (b && 0 == i) (x.d0 + 1) x.d0) (cond (b && 1 == i) (x.d1 + 1) x.d1) (cond (b && 2 == i) (x.d2 + 1) x.d2) x.g

done_within : (limit : ℕ) (b : Bool) (i : ℕ) (x : Plain) → i < 3 → IsWithin limit (row x) → (b ≡ true → slice_index (row x).asked i ≢ slice_index (row x).done i) → IsWithin limit (done_more b i x)
done_within limit false i x l w room = record { done0 = w.done0; done1 = w.done1; done2 = w.done2; opened = w.opened }
done_within limit true zero x l w room = let r : x.a0 ≢ x.d0 = room refl in record { done0 = omega (arith, w.done0); done1 = w.done1; done2 = w.done2; opened = omega (arith, w.done0, w.done1, w.done2, w.opened) }
done_within limit true (suc zero) x l w room = let r : x.a1 ≢ x.d1 = room refl in record { done0 = w.done0; done1 = omega (arith, w.done1); done2 = w.done2; opened = omega (arith, w.done0, w.done1, w.done2, w.opened) }
done_within limit true (suc (suc zero)) x l w room = let r : x.a2 ≢ x.d2 = room refl in record { done0 = w.done0; done1 = w.done1; done2 = omega (arith, w.done2); opened = omega (arith, w.done0, w.done1, w.done2, w.opened) }
done_within limit true (suc (suc (suc i))) x l w room = absurd (omega arith)

refused_within : (limit : ℕ) (allow : Bool) (c : Call) (w : Refusal) (x : Plain) → IsWithin limit (row x) → IsWithin limit (next_row allow c (reply.Refused w) (row x))
refused_within limit allow (call.Dial o) w x f = record { done0 = f.done0; done1 = f.done1; done2 = f.done2; opened = f.opened }
refused_within limit allow call.Accept w x f = record { done0 = f.done0; done1 = f.done1; done2 = f.done2; opened = f.opened }
refused_within limit allow (call.Settle m q) w x f = record { done0 = f.done0; done1 = f.done1; done2 = f.done2; opened = f.opened }
refused_within limit allow (call.Ask m i) w x f = record { done0 = f.done0; done1 = f.done1; done2 = f.done2; opened = f.opened }
refused_within limit allow (call.Done m i) w x f = record { done0 = f.done0; done1 = f.done1; done2 = f.done2; opened = f.opened }
refused_within limit allow (call.HangUp q) w x f = record { done0 = f.done0; done1 = f.done1; done2 = f.done2; opened = f.opened }
refused_within limit allow (call.Block q) w x f = record { done0 = f.done0; done1 = f.done1; done2 = f.done2; opened = f.opened }
refused_within limit allow (call.Unblock q) w x f = record { done0 = f.done0; done1 = f.done1; done2 = f.done2; opened = f.opened }
refused_within limit allow (call.Gone m) w x f = record { done0 = f.done0; done1 = f.done1; done2 = f.done2; opened = f.opened }
refused_within limit allow (call.Allow q) w x f = record { done0 = f.done0; done1 = f.done1; done2 = f.done2; opened = f.opened }
refused_within limit allow (call.Disallow q) w x f = record { done0 = f.done0; done1 = f.done1; done2 = f.done2; opened = f.opened }
refused_within limit allow (call.Note m a) w x f = record { done0 = f.done0; done1 = f.done1; done2 = f.done2; opened = f.opened }

counted_within : (config : Config) (h : List Entry) (c : Call) (r : Reply) → Counts config h c r → (n : ℕ) → IsWithin config.limits.streams (row_of config h n) → IsWithin config.limits.streams (next_row config.allow_only c r (row_of config h n))
counted_within config h (call.Ask m i) r k n f =
    let g = none_holds (may_refuse config (next_number config h) (Shown config h) (call.Ask m i)) k.none in
    rw k.answered (ask_within config.limits.streams (n == m) i (plain config h n) (below_three i g.1.1.1.0) f
    (λ e. ap_open (eqb-true n m e) (above config.limits.streams (open_streams (row_of config h m)) (row_fact config h m (λ row. nat_le config.limits.streams (open_streams row)) (not_false _ g.0) g.1.1.1.1.0))))
  where
    ap_open : n ≡ m → open_streams (row_of config h m) < config.limits.streams → open_streams (row_of config h n) < config.limits.streams
    ap_open e l = subst (λ (k : ℕ). open_streams (row_of config h k) < config.limits.streams) (sym e) l
counted_within config h (call.Done m i) r k n f =
    let g = none_holds (may_refuse config (next_number config h) (Shown config h) (call.Done m i)) k.none in
    rw k.answered (done_within config.limits.streams (n == m) i (plain config h n) (below_three i g.1.1.1.0) f
    (λ e. ap_differs (eqb-true n m e) (differs _ _ (row_fact config h m (λ row. slice_index row.asked i == slice_index row.done i) (not_false _ g.0) g.1.1.1.1.0))))
  where
    ap_differs : n ≡ m → slice_index (row_of config h m).asked i ≢ slice_index (row_of config h m).done i → slice_index (row_of config h n).asked i ≢ slice_index (row_of config h n).done i
    ap_differs e l = subst (λ (k : ℕ). slice_index (row_of config h k).asked i ≢ slice_index (row_of config h k).done i) (sym e) l
counted_within config h (call.Dial o) r k n f = record { done0 = f.done0; done1 = f.done1; done2 = f.done2; opened = f.opened }
counted_within config h call.Accept r k n f = record { done0 = f.done0; done1 = f.done1; done2 = f.done2; opened = f.opened }
counted_within config h (call.Settle m q) r k n f = record { done0 = f.done0; done1 = f.done1; done2 = f.done2; opened = f.opened }
counted_within config h (call.HangUp q) r k n f = record { done0 = f.done0; done1 = f.done1; done2 = f.done2; opened = f.opened }
counted_within config h (call.Block q) r k n f = record { done0 = f.done0; done1 = f.done1; done2 = f.done2; opened = f.opened }
counted_within config h (call.Unblock q) r k n f = record { done0 = f.done0; done1 = f.done1; done2 = f.done2; opened = f.opened }
counted_within config h (call.Gone m) r k n f = record { done0 = f.done0; done1 = f.done1; done2 = f.done2; opened = f.opened }
counted_within config h (call.Allow q) r k n f = record { done0 = f.done0; done1 = f.done1; done2 = f.done2; opened = f.opened }
counted_within config h (call.Disallow q) r k n f = record { done0 = f.done0; done1 = f.done1; done2 = f.done2; opened = f.opened }
counted_within config h (call.Note m a) r k n f = record { done0 = f.done0; done1 = f.done1; done2 = f.done2; opened = f.opened }

abbrev pub AreWithin : Config → List Entry → Type 0
AreWithin config h = (n : ℕ) → IsWithin config.limits.streams (row_of config h n)

within_step : (config : Config) (h : List Entry) (e : Entry) → IsLegal config h → IsNext config h e.call e.reply → AreWithin config h → AreWithin config (h ++ e ∷ [])
within_step config h e legal next f n =
    subst (λ (x : Row). IsWithin config.limits.streams x) (sym (row_next config h n e.caller e.call e.reply)) (by_case (decided config h e.call e.reply next).1)
  where
    by_case : (((w : Refusal) × (e.reply ≡ reply.Refused w)) ⊎ Counts config h e.call e.reply) → IsWithin config.limits.streams (next_row config.allow_only e.call e.reply (row_of config h n))
    by_case (inl w) = subst (λ (r : Reply). IsWithin config.limits.streams (next_row config.allow_only e.call r (row_of config h n))) (sym w.1) (refused_within config.limits.streams config.allow_only e.call w.0 (plain config h n) (f n))
    by_case (inr k) = counted_within config h e.call e.reply k n (f n)

pub are_within : (config : Config) (h : List Entry) → IsLegal config h → AreWithin config h
are_within config h legal = legal_ind_with config (AreWithin config) (within_step config) (λ n. record { done0 = omega arith; done1 = omega arith; done2 = omega arith; opened = omega arith }) h legal
