-- A number that was not yet given has no history.
use Rattle.std.proofs.Common.{◌≡◌, ◌∙◌, ◌⊎◌, inl, inr, ℕ, ◌+◌, ◌<◌, ◌≤◌, ◌==◌, Bool, true, false, cond, List, [], ◌∷◌, ◌++◌, Option, None, refl, ap, arith}
use Rattle.std.proofs.lemmas.Bool.Decides.{nat_tests}
use Rattle.pool_state.specs.declared.call.Call.{Call}
use Rattle.pool_state.specs.declared.call.Call.TheVariants as call
use Rattle.pool_state.specs.declared.call.Reply.{Reply}
use Rattle.pool_state.specs.declared.call.Reply.TheVariants as reply
use Rattle.pool_state.specs.declared.call.Refusal.{Refusal}
use Rattle.pool_state.specs.declared.limits.Config.{Config}
use Rattle.pool_state.specs.declared.row.Row.{Row}
use Rattle.pool_state.specs.declared.row.ConnSide.TheVariants as side
use Rattle.pool_state.specs.Table.{may_refuse}
use Rattle.pool_state.specs.History.{Entry, entry, admits, next_number, admissions}
use Rattle.pool_state.specs.Shown.{row_of, IsLegal, Shown}
use Rattle.pool_state.specs.Added.{fresh}
use Rattle.pool_state.proofs.Rows.{next_row, row_next, count_more}
use Rattle.pool_state.proofs.Legal.{IsNext, Counts, decided, none_holds, legal_ind, row_below, not_false}

abbrev pub IsBlank : Config → List Entry → Type 0
IsBlank config h = (n : ℕ) → next_number config h ≤ n → row_of config h n ≡ fresh n side.Listener None

pub admissions_more : (h : List Entry) (caller : ℕ) (c : Call) (r : Reply) → admissions (h ++ entry caller c r ∷ []) ≡ cond (admits c r) (admissions h + 1) (admissions h)
admissions_more h caller c r = count_more (λ (x : Entry). admits x.call x.reply) h (entry caller c r)

grows : (config : Config) (h : List Entry) (caller : ℕ) (c : Call) (r : Reply) → next_number config h ≤ next_number config (h ++ entry caller c r ∷ [])
grows config h caller c r = rw (admissions_more h caller c r) (by_test (admits c r) (admissions h))
  where
    by_test : (b : Bool) (k : ℕ) → config.first_conn + k ≤ config.first_conn + cond b (k + 1) k
    by_test true k = omega arith
    by_test false k = omega arith

-- the entry is not of this number
pub apart : (n m : ℕ) → m < n → (n == m) ≡ false
apart n m h = grind (arith, nat_tests)

refused_blank : (allow : Bool) (c : Call) (w : Refusal) (n : ℕ) → next_row allow c (reply.Refused w) (fresh n side.Listener None) ≡ fresh n side.Listener None
refused_blank allow (call.Dial p) w n = refl
refused_blank allow call.Accept w n = refl
refused_blank allow (call.Settle m p) w n = refl
refused_blank allow (call.Ask m i) w n = refl
refused_blank allow (call.Done m i) w n = refl
refused_blank allow (call.HangUp p) w n = refl
refused_blank allow (call.Block p) w n = refl
refused_blank allow (call.Unblock p) w n = refl
refused_blank allow (call.Gone m) w n = refl
refused_blank allow (call.Allow p) w n = refl
refused_blank allow (call.Disallow p) w n = refl
refused_blank allow (call.Note m a) w n = refl

dial_blank : (allow : Bool) (p : Option (List ℕ)) (n m : ℕ) → (n == m) ≡ false → next_row allow (call.Dial p) (reply.Conn m) (fresh n side.Listener None) ≡ fresh n side.Listener None
dial_blank allow p n m h = rw h refl

disallow_blank : (allow : Bool) (p : List ℕ) (k n : ℕ) → next_row allow (call.Disallow p) (reply.Count k) (fresh n side.Listener None) ≡ fresh n side.Listener None
disallow_blank true p k n = refl
disallow_blank false p k n = refl

counted_blank : (config : Config) (h : List Entry) (caller : ℕ) (c : Call) (r : Reply) (n : ℕ) → Counts config h c r → next_number config (h ++ entry caller c r ∷ []) ≤ n
    → next_row config.allow_only c r (fresh n side.Listener None) ≡ fresh n side.Listener None
counted_blank config h caller (call.Dial p) r n k l = rw k.answered (dial_blank config.allow_only p n (next_number config h) (apart n (next_number config h) (below r k.answered l)))
  where
    below : (r : Reply) → r ≡ reply.Conn (next_number config h) → next_number config (h ++ entry caller (call.Dial p) r ∷ []) ≤ n → next_number config h < n
    below r e l = let q = rw e at l in omega (arith, admissions_more h caller (call.Dial p) (reply.Conn (next_number config h)), q)
counted_blank config h caller call.Accept r n k l = refl
counted_blank config h caller (call.Settle m p) r n k l =
    let has = row_below config h m (λ row. true) (not_false _ (none_holds (may_refuse config (next_number config h) (Shown config h) (call.Settle m p)) k.none).0) in
    rw (k.answered, apart n m (omega (arith, grows config h caller (call.Settle m p) r))) refl
counted_blank config h caller (call.Ask m i) r n k l =
    let has = row_below config h m (λ row. true) (not_false _ (none_holds (may_refuse config (next_number config h) (Shown config h) (call.Ask m i)) k.none).0) in
    rw (k.answered, apart n m (omega (arith, grows config h caller (call.Ask m i) r))) refl
counted_blank config h caller (call.Done m i) r n k l =
    let has = row_below config h m (λ row. true) (not_false _ (none_holds (may_refuse config (next_number config h) (Shown config h) (call.Done m i)) k.none).0) in
    rw (k.answered, apart n m (omega (arith, grows config h caller (call.Done m i) r))) refl
counted_blank config h caller (call.Note m a) r n k l =
    let has = row_below config h m (λ row. true) (not_false _ (none_holds (may_refuse config (next_number config h) (Shown config h) (call.Note m a)) k.none).0) in
    rw (k.answered, apart n m (omega (arith, grows config h caller (call.Note m a) r))) refl
counted_blank config h caller (call.Gone m) r n k l = refl
counted_blank config h caller (call.HangUp p) r n k l = rw k.answered refl
counted_blank config h caller (call.Block p) r n k l = rw k.answered refl
counted_blank config h caller (call.Unblock p) r n k l = refl
counted_blank config h caller (call.Allow p) r n k l = refl
counted_blank config h caller (call.Disallow p) r n k l = rw k.answered (disallow_blank config.allow_only p 0 n)

blank_step : (config : Config) (h : List Entry) (e : Entry) → IsNext config h e.call e.reply → IsBlank config h → IsBlank config (h ++ e ∷ [])
blank_step config h e next blank n l =
    row_next config h n e.caller e.call e.reply
    ∙ (ap (λ (row : Row). next_row config.allow_only e.call e.reply row) (blank n (omega (arith, grows config h e.caller e.call e.reply)))
    ∙ by_case (decided config h e.call e.reply next).1)
  where
    by_case : (((w : Refusal) × (e.reply ≡ reply.Refused w)) ⊎ Counts config h e.call e.reply) → next_row config.allow_only e.call e.reply (fresh n side.Listener None) ≡ fresh n side.Listener None
    by_case (inl w) = rw w.1 (refused_blank config.allow_only e.call w.0 n)
    by_case (inr k) = counted_blank config h e.caller e.call e.reply n k l

pub blank : (config : Config) (h : List Entry) → IsLegal config h → IsBlank config h
blank config h l = legal_ind config (IsBlank config) (blank_step config) (λ n l. refl) h l
