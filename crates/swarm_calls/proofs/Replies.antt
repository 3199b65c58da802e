-- A pool answers Spent at the last front alone, and never OutOfMemory.
use Rattle.std.proofs.Common.{◌≡◌, ◌≢◌, ◌<◌, ◌≤◌, ◌^◌, ◌-◌, ℕ, Bool, true, false, ◌&&◌, nat_le, if◌then◌else◌, List, [], ◌∷◌, Option, Some, None, refl, arith, subst, ◌⊎◌, inl, inr, ⊎_elim}
use Rattle.std.proofs.lemmas.Bool.Decides.{nat_tests}
use Rattle.pool_state.specs.declared.call.Call.{Call}
use Rattle.pool_state.specs.declared.call.Call.TheVariants as call
use Rattle.pool_state.specs.declared.call.Reply.{Reply}
use Rattle.pool_state.specs.declared.call.Reply.TheVariants.{Refused}
use Rattle.pool_state.specs.declared.call.Refusal.{Refusal}
use Rattle.pool_state.specs.declared.call.Refusal.TheVariants.{Spent, OutOfMemory}
use Rattle.pool_state.specs.declared.limits.Config.{Config}
use Rattle.pool_state.specs.declared.listing.Listing.{Listing}
use Rattle.pool_state.specs.Table.{may_refuse, answer, first_that_holds, refused_or, number_of}
use Rattle.pool_state.specs.History.{Entry, front_of, next_number}
use Rattle.pool_state.specs.Shown.{Shown, reply_after}

-- no refusal of the list is Spent or OutOfMemory
abbrev all_higher : List (Refusal × Bool) → Bool
all_higher [] = true
all_higher (r ∷ rs) = nat_le 3 (number_of r.0) && all_higher rs

table_higher : (config : Config) (next : ℕ) (l : Listing) (c : Call) → all_higher (may_refuse config next l c) ≡ true
table_higher config next l (call.Dial None) = refl
table_higher config next l (call.Dial (Some p)) = refl
table_higher config next l call.Accept = refl
table_higher config next l (call.Settle n p) = refl
table_higher config next l (call.Ask n i) = refl
table_higher config next l (call.Done n i) = refl
table_higher config next l (call.HangUp p) = refl
table_higher config next l (call.Block p) = refl
table_higher config next l (call.Unblock p) = refl
table_higher config next l (call.Gone n) = refl
table_higher config next l (call.Allow p) = refl
table_higher config next l (call.Disallow p) = refl
table_higher config next l (call.Note n agent) = refl

never_refused : (config : Config) (next : ℕ) (l : Listing) (c : Call) (x : Refusal) → answer config next l c ≢ Refused x
never_refused config next l (call.Dial p) x is = cc is
never_refused config next l call.Accept x is = cc is
never_refused config next l (call.Settle n p) x is = cc is
never_refused config next l (call.Ask n i) x is = cc is
never_refused config next l (call.Done n i) x is = cc is
never_refused config next l (call.HangUp p) x is = cc is
never_refused config next l (call.Block p) x is = cc is
never_refused config next l (call.Unblock p) x is = cc is
never_refused config next l (call.Gone n) x is = cc is
never_refused config next l (call.Allow p) x is = cc is
never_refused config next l (call.Disallow p) x is = cc is
never_refused config next l (call.Note n agent) x is = cc is

both : (a b : Bool) → (a && b) ≡ true → (a ≡ true) × (b ≡ true)
both true true is = (refl, refl)
both true false is = absurd (cc is)
both false b is = absurd (cc is)

first_higher : (rs : List (Refusal × Bool)) → all_higher rs ≡ true → (x : Refusal) → first_that_holds rs ≡ Some x → nat_le 3 (number_of x) ≡ true
first_higher [] all x is = absurd (cc is)
first_higher ((r, true) ∷ rs) all x is =
    let same : r ≡ x = cc is in
    subst (λ (y : Refusal). nat_le 3 (number_of y) ≡ true) same (both (nat_le 3 (number_of r)) (all_higher rs) all).0
first_higher ((r, false) ∷ rs) all x is = first_higher rs (both (nat_le 3 (number_of r)) (all_higher rs) all).1 x is

refused_higher : (o : Option Refusal) (a : Reply) (x : Refusal) → ((y : Refusal) → o ≡ Some y → nat_le 3 (number_of y) ≡ true) → ((y : Refusal) → a ≢ Refused y) → refused_or o a ≡ Refused x → nat_le 3 (number_of x) ≡ true
refused_higher None a x higher never is = absurd (never x is)
refused_higher (Some y) a x higher never is =
    let same : y ≡ x = cc is in
    subst (λ (z : Refusal). nat_le 3 (number_of z) ≡ true) same (higher y refl)

below_higher : (config : Config) (next : ℕ) (l : Listing) (c : Call) (x : Refusal) → refused_or (first_that_holds (may_refuse config next l c)) (answer config next l c) ≡ Refused x → nat_le 3 (number_of x) ≡ true
below_higher config next l c x is = refused_higher (first_that_holds (may_refuse config next l c)) (answer config next l c) x (first_higher (may_refuse config next l c) (table_higher config next l c)) (never_refused config next l c) is

-- what is answered, by whether the front is the last
by_front : (r : Reply) (b : Bool) (x : Refusal) → (if b then Refused Spent else r) ≡ Refused x → ((y : Refusal) → r ≡ Refused y → nat_le 3 (number_of y) ≡ true) → ((b ≡ true) × (x ≡ Spent)) ⊎ ((b ≡ false) × (nat_le 3 (number_of x) ≡ true))
by_front r true x is higher = inl (refl, cc is)
by_front r false x is higher = inr (refl, higher x is)

module _ (config : Config) (h : List Entry) (c : Call) where
  cases : (x : Refusal) → reply_after config h c ≡ Refused x → ((nat_le (2 ^ 64 - 1) (front_of config h) ≡ true) × (x ≡ Spent)) ⊎ ((nat_le (2 ^ 64 - 1) (front_of config h) ≡ false) × (nat_le 3 (number_of x) ≡ true))
  cases x is = by_front (refused_or (first_that_holds (may_refuse config (next_number config h) (Shown config h) c)) (answer config (next_number config h) (Shown config h) c)) (nat_le (2 ^ 64 - 1) (front_of config h)) x is (below_higher config (next_number config h) (Shown config h) c)

  pub spent_at_last : reply_after config h c ≡ Refused Spent → 18446744073709551615 ≤ front_of config h
  spent_at_last is = ⊎_elim (λ (t : (nat_le (2 ^ 64 - 1) (front_of config h) ≡ true) × (Spent ≡ Spent)). grind (arith, nat_tests)) (λ (t : (nat_le (2 ^ 64 - 1) (front_of config h) ≡ false) × (nat_le 3 (number_of Spent) ≡ true)). absurd (cc (t.1))) (cases Spent is)

  pub never_out_of_memory : reply_after config h c ≢ Refused OutOfMemory
  never_out_of_memory is = ⊎_elim (λ (t : (nat_le (2 ^ 64 - 1) (front_of config h) ≡ true) × (OutOfMemory ≡ Spent)). cc (t.1)) (λ (t : (nat_le (2 ^ 64 - 1) (front_of config h) ≡ false) × (nat_le 3 (number_of OutOfMemory) ≡ true)). cc (t.1)) (cases OutOfMemory is)

  below : (b : Bool) → nat_le (2 ^ 64 - 1) (front_of config h) ≡ b → reply_after config h c ≢ Refused Spent → front_of config h < 18446744073709551615
  below true is unspent = absurd (unspent (rw is refl))
  below false is unspent = grind (arith, nat_tests)

  -- a call that is not Spent leaves room for its number
  pub unspent_below : reply_after config h c ≢ Refused Spent → front_of config h < 18446744073709551615
  unspent_below unspent = below (nat_le (2 ^ 64 - 1) (front_of config h)) refl unspent
