-- What a legal entry is, and what holds of every legal history.
use Rattle.std.proofs.Common.{◌≡◌, ◌≢◌, ◌⊎◌, inl, inr, ℕ, ◌-◌, ◌^◌, ◌<◌, ◌==◌, nat_le, Bool, true, false, not, ◌&&◌, List, [], ◌∷◌, ◌++◌, map, Option, Some, None, refl, sym, ap, append_assoc, arith}
use Rattle.std.specs.Bool.{if◌then◌else◌}
use Rattle.std.proofs.lemmas.Bool.{eqb-true}
use Rattle.std.proofs.lemmas.Bool.Decides.{nat_tests}
use Rattle.pool_state.specs.declared.call.Call.{Call}
use Rattle.pool_state.specs.declared.call.Call.TheVariants as call
use Rattle.pool_state.specs.declared.call.Reply.{Reply}
use Rattle.pool_state.specs.declared.call.Reply.TheVariants as reply
use Rattle.pool_state.specs.declared.call.Refusal.{Refusal}
use Rattle.pool_state.specs.declared.call.Refusal.TheVariants.{Spent}
use Rattle.pool_state.specs.declared.limits.Config.{Config}
use Rattle.pool_state.specs.declared.row.Row.{Row}
use Rattle.pool_state.specs.Table.{row_is, first_that_holds, refused_or, may_refuse, answer}
use Rattle.pool_state.specs.History.{Entry, stands, next_number, front_of, admissions}
use Rattle.pool_state.specs.Shown.{row_of, standing, Shown, reply_after, IsLegalAfter, IsLegal}
use Rattle.pool_state.proofs.Standing.{found_in}

pub record IsNext (config : Config) (h : List Entry) (c : Call) (r : Reply) : Type 0 where
  pub reply_is : r ≡ reply_after config h c
  pub not_spent : r ≢ reply.Refused Spent

-- what holds of the empty history and after each legal entry holds of a legal history
legal_from : (config : Config) (P : List Entry → Type 0) → ((h : List Entry) (e : Entry) → IsNext config h e.call e.reply → P h → P (h ++ e ∷ [])) → (before later : List Entry) → P before → IsLegalAfter config before later → P (before ++ later)
legal_from config P step before [] p l = rw (append_nil before) p
  where
    append_nil : (xs : List Entry) → xs ++ [] ≡ xs
    append_nil [] = refl
    append_nil (x ∷ xs) = ap (λ ys. x ∷ ys) (append_nil xs)
legal_from config P step before (e ∷ later) p l =
    rw (sym (append_assoc before (e ∷ []) later)) (legal_from config P step (before ++ e ∷ []) later (step before e (record { reply_is = l.0.0; not_spent = l.0.1 }) p) l.1)

pub legal_ind : (config : Config) (P : List Entry → Type 0) → ((h : List Entry) (e : Entry) → IsNext config h e.call e.reply → P h → P (h ++ e ∷ [])) → P [] → (h : List Entry) → IsLegal config h → P h
legal_ind config P step nil h l = legal_from config P step [] h nil l

-- a legal history with one more legal entry
legal_more_from : (config : Config) (before later : List Entry) (e : Entry) → IsLegalAfter config before later → IsNext config (before ++ later) e.call e.reply → IsLegalAfter config before (later ++ e ∷ [])
legal_more_from config before [] e l n = ((rw (append_nil before) at n.reply_is, n.not_spent), tt)
  where
    append_nil : (xs : List Entry) → xs ++ [] ≡ xs
    append_nil [] = refl
    append_nil (x ∷ xs) = ap (λ ys. x ∷ ys) (append_nil xs)
legal_more_from config before (x ∷ later) e l n = (l.0, legal_more_from config (before ++ x ∷ []) later e l.1 (rw (append_assoc before (x ∷ []) later) n))

pub legal_more : (config : Config) (h : List Entry) (e : Entry) → IsLegal config h → IsNext config h e.call e.reply → IsLegal config (h ++ e ∷ [])
legal_more config h e l n = legal_more_from config [] h e l n

-- each of the refusals does not hold
abbrev pub NoneHolds : List (Refusal × Bool) → Type 0
NoneHolds [] = Unit {0}
NoneHolds (x ∷ xs) = (x.1 ≡ false) × NoneHolds xs

pub none_holds : (xs : List (Refusal × Bool)) → first_that_holds xs ≡ None → NoneHolds xs
none_holds [] h = tt
none_holds (x ∷ xs) h = let s = step x.1 refl h in (s.0, none_holds xs s.1)
  where
    step : (b : Bool) → x.1 ≡ b → (if b then Some x.0 else first_that_holds xs) ≡ None → (x.1 ≡ false) × (first_that_holds xs ≡ None)
    step true e h = absurd (some_none h)
      where
        some_none : {q : Refusal} → Some q ≡ None → ⊥
        some_none h = cc
    step false e h = (e, h)

-- an entry that counts: nothing refuses it
pub record Counts (config : Config) (h : List Entry) (c : Call) (r : Reply) : Type 0 where
  pub none : first_that_holds (may_refuse config (next_number config h) (Shown config h) c) ≡ None
  pub answered : r ≡ answer config (next_number config h) (Shown config h) c

pub record Room (config : Config) (h : List Entry) : Type 0 where
  pub below : front_of config h < 2 ^ 64 - 1

decide : (b : Bool) (o : Option Refusal) (a r : Reply) → r ≡ (if b then reply.Refused Spent else refused_or o a) → r ≢ reply.Refused Spent → (b ≡ false) × (((w : Refusal) × (r ≡ reply.Refused w)) ⊎ ((o ≡ None) × (r ≡ a)))
decide true o a r e n = absurd (n e)
decide false None a r e n = (refl, inr (refl, e))
decide false (Some w) a r e n = (refl, inl (w, e))

below_from : (n : ℕ) → nat_le (2 ^ 64 - 1) n ≡ false → n < 2 ^ 64 - 1
below_from n h = grind (arith, nat_tests)

pub decided : (config : Config) (h : List Entry) (c : Call) (r : Reply) → IsNext config h c r → Room config h × (((w : Refusal) × (r ≡ reply.Refused w)) ⊎ Counts config h c r)
decided config h c r n =
    let d = decide (nat_le (2 ^ 64 - 1) (front_of config h)) (first_that_holds (may_refuse config (next_number config h) (Shown config h) c)) (answer config (next_number config h) (Shown config h) c) r n.reply_is n.not_spent in
    (record { below = below_from (front_of config h) d.0 }, by_case d.1)
  where
    by_case : (((w : Refusal) × (r ≡ reply.Refused w)) ⊎ ((first_that_holds (may_refuse config (next_number config h) (Shown config h) c) ≡ None) × (r ≡ answer config (next_number config h) (Shown config h) c))) → ((w : Refusal) × (r ≡ reply.Refused w)) ⊎ Counts config h c r
    by_case (inl w) = inl w
    by_case (inr w) = inr (record { none = w.0; answered = w.1 })

both : (a b : Bool) → (a && b) ≡ true → a ≡ true
both true b h = refl
both false b h = h

-- a number that has a row was given before
pub row_below : (config : Config) (h : List Entry) (n : ℕ) (test : Row → Bool) → row_is (map (row_of config h) (standing config h)) n test ≡ true → n < next_number config h
row_below config h n test is =
    let w = found_in (λ (row : Row). row.conn == n && test row) (row_of config h) (stands h) config.first_conn (admissions h) is in
    let same : w.number ≡ n = eqb-true w.number n (both (w.number == n) (test (row_of config h w.number)) w.passes) in
    omega (arith, w.below, same)

pub not_false : (b : Bool) → not b ≡ false → b ≡ true
not_false true h = refl
not_false false h = sym h

pub number_fits : (n : ℕ) → nat_le (2 ^ 32) n ≡ false → n < 2 ^ 32
number_fits n h = grind (arith, nat_tests)

-- the same, where the step may use that the history so far is legal
pub legal_ind_with : (config : Config) (P : List Entry → Type 0) → ((h : List Entry) (e : Entry) → IsLegal config h → IsNext config h e.call e.reply → P h → P (h ++ e ∷ [])) → P [] → (h : List Entry) → IsLegal config h → P h
legal_ind_with config P step nil h l =
    (legal_ind config (λ h. IsLegal config h × P h) (λ h e next both. (legal_more config h e both.0 next, step h e both.0 next both.1)) (tt, nil) h l).1

-- a legal history without its last entry, which is legal after it
legal_less_from : (config : Config) (before later : List Entry) (e : Entry) → IsLegalAfter config before (later ++ e ∷ []) → IsLegalAfter config before later × IsNext config (before ++ later) e.call e.reply
legal_less_from config before [] e l = (tt, record { reply_is = rw (append_nil before) l.0.0; not_spent = l.0.1 })
  where
    append_nil : (xs : List Entry) → xs ++ [] ≡ xs
    append_nil [] = refl
    append_nil (x ∷ xs) = ap (λ ys. x ∷ ys) (append_nil xs)
legal_less_from config before (x ∷ later) e l =
    let r = legal_less_from config (before ++ x ∷ []) later e l.1 in
    ((l.0, r.0), rw (append_assoc before (x ∷ []) later) at r.1)

pub legal_less : (config : Config) (h : List Entry) (e : Entry) → IsLegal config (h ++ e ∷ []) → IsLegal config h × IsNext config h e.call e.reply
legal_less config h e l = legal_less_from config [] h e l

-- a beginning of what is legal after `before`
pub legal_beginning : (config : Config) (before beginning later : List Entry) → IsLegalAfter config before (beginning ++ later) → IsLegalAfter config before beginning
legal_beginning config before [] later l = tt
legal_beginning config before (e ∷ beginning) later l = (l.0, legal_beginning config (before ++ e ∷ []) beginning later l.1)

-- a call that is answered a number is answered the next one
pub admitted_next : (config : Config) (h : List Entry) (c : Call) (n : ℕ) → reply_after config h c ≡ reply.Conn n → n ≡ next_number config h
admitted_next config h c n is = by_test (nat_le (2 ^ 64 - 1) (front_of config h)) (first_that_holds (may_refuse config (next_number config h) (Shown config h) c)) c is
  where
    by_test : (b : Bool) (o : Option Refusal) (c : Call) → (if b then reply.Refused Spent else refused_or o (answer config (next_number config h) (Shown config h) c)) ≡ reply.Conn n → n ≡ next_number config h
    by_test true o c e = absurd (cc e)
    by_test false (Some w) c e = absurd (cc e)
    by_test false None (call.Dial p) e = cc e
    by_test false None call.Accept e = cc e
    by_test false None (call.Settle m p) e = absurd (cc e)
    by_test false None (call.Ask m i) e = absurd (cc e)
    by_test false None (call.Done m i) e = absurd (cc e)
    by_test false None (call.HangUp p) e = absurd (cc e)
    by_test false None (call.Block p) e = absurd (cc e)
    by_test false None (call.Unblock p) e = absurd (cc e)
    by_test false None (call.Gone m) e = absurd (cc e)
    by_test false None (call.Allow p) e = absurd (cc e)
    by_test false None (call.Disallow p) e = absurd (cc e)
    by_test false None (call.Note m a) e = absurd (cc e)
