-- What a pool answers is what its history says.
use Rattle.std.proofs.Common.{◌⊎◌, inl, inr, cond, ◌+◌, [], ◌∷◌, ◌++◌, ◌≡◌, ◌≢◌, ◌∙◌, ◌<◌, ◌^◌, ◌-◌, nat_le, Bool, false, refl, ap, sym, subst, List, ℕ, Option, None, arith}
use Rattle.std.specs.Bool.{if◌then◌else◌}
use Rattle.std.proofs.lemmas.Bool.Decides.{nat_tests}
use Rattle.pool_state.specs.declared.call.Call.{Call}
use Rattle.pool_state.specs.declared.call.Call.TheVariants as call
use Rattle.pool_state.specs.declared.call.Reply.{Reply}
use Rattle.pool_state.specs.declared.call.Reply.TheVariants as reply
use Rattle.pool_state.specs.declared.call.Refusal.{Refusal}
use Rattle.pool_state.specs.declared.call.Refusal.TheVariants.{Spent}
use Rattle.pool_state.specs.declared.pool.Pool.{Pool}
use Rattle.pool_state.specs.declared.limits.Config.{Config}
use Rattle.pool_state.specs.declared.listing.Listing.{Listing}
use Rattle.pool_state.specs.Table.{closable, reply_to, refused_or, answer, first_that_holds, may_refuse}
use Rattle.pool_state.specs.At.{Stands, number_after}
use Rattle.pool_state.specs.Added.{added}
use Rattle.pool_state.specs.History.{Entry, entry, admits, admissions, next_number}
use Rattle.pool_state.specs.Shown.{Shown, reply_after}
use Rattle.pool_state.proofs.Law.{added_shown}
use Rattle.pool_state.proofs.Legal.{IsNext, Counts, decided, legal_more}
use Rattle.pool_state.proofs.Blank.{admissions_more}
use Rattle.pool_state.proofs.Bounds.{few_closable}

pub few_at : (config : Config) (h : List Entry) (pool : Pool) → Stands config h pool → (p : List ℕ) → closable pool.listing.conns.items p < 256
few_at config h pool at p = subst (λ (l : Listing). closable l.conns.items p < 256) (sym at.listing_is) (few_closable config h at.legal p)

pub low : (n : ℕ) → n < 2 ^ 64 - 1 → nat_le (2 ^ 64 - 1) n ≡ false
low n h = grind (arith, nat_tests)

reply_is : (config : Config) (h : List Entry) (pool : Pool) → Stands config h pool → (c : Call) → reply_to pool.config pool.next pool.listing c ≡ reply_after config h c
reply_is config h pool at c = rw (at.config_is, at.listing_is, at.next_is) refl

pub replied : (config : Config) (h : List Entry) (pool : Pool) → Stands config h pool → (c : Call) (r : Reply) → nat_le (2 ^ 64 - 1) pool.listing.front ≡ false → first_that_holds (may_refuse pool.config pool.next pool.listing c) ≡ None → r ≡ answer pool.config pool.next pool.listing c → r ≡ reply_after config h c
replied config h pool at c r low none e =
    e ∙ (ap (λ (o : Option Refusal). refused_or o (answer pool.config pool.next pool.listing c)) (sym none)
    ∙ (ap (λ (b : Bool). if b then reply.Refused Spent else refused_or (first_that_holds (may_refuse pool.config pool.next pool.listing c)) (answer pool.config pool.next pool.listing c)) (sym low)
    ∙ reply_is config h pool at c))

-- a connection's number is the next one
numbered : (config : Config) (h : List Entry) (c : Call) (r : Reply) → IsNext config h c r → number_after (next_number config h) r ≡ config.first_conn + cond (admits c r) (admissions h + 1) (admissions h)
numbered config h c r next = by_case (decided config h c r next).1
  where
    counted : (c : Call) → r ≡ answer config (next_number config h) (Shown config h) c → number_after (next_number config h) r ≡ config.first_conn + cond (admits c r) (admissions h + 1) (admissions h)
    counted (call.Dial p) e = rw e (omega arith)
    counted call.Accept e = rw e (omega arith)
    counted (call.Settle n p) e = rw e refl
    counted (call.Ask n i) e = rw e refl
    counted (call.Done n i) e = rw e refl
    counted (call.HangUp p) e = rw e refl
    counted (call.Block p) e = rw e refl
    counted (call.Unblock p) e = rw e refl
    counted (call.Gone n) e = rw e refl
    counted (call.Allow p) e = rw e refl
    counted (call.Disallow p) e = rw e refl
    counted (call.Note n a) e = rw e refl

    by_case : (((w : Refusal) × (r ≡ reply.Refused w)) ⊎ Counts config h c r) → number_after (next_number config h) r ≡ config.first_conn + cond (admits c r) (admissions h + 1) (admissions h)
    by_case (inl w) = rw w.1 refl
    by_case (inr k) = counted c k.answered

-- a pool that made the call is at the longer history
pub moved : (config : Config) (h : List Entry) (caller : ℕ) (old new : Pool) (c : Call) (r : Reply) → Stands config h old → r ≡ reply_after config h c → r ≢ reply.Refused Spent
    → new.config ≡ old.config → new.listing ≡ added old.listing c r → new.next ≡ number_after old.next r → Stands config (h ++ entry caller c r ∷ []) new
moved config h caller old new c r at is not_spent same_config same_listing same_next =
    let next : IsNext config h c r = record { reply_is = is; not_spent = not_spent } in
    record {
      legal = legal_more config h (entry caller c r) at.legal next;
      config_is = same_config ∙ at.config_is;
      listing_is = same_listing ∙ (ap (λ (l : Listing). added l c r) at.listing_is ∙ added_shown config h caller c r at.legal next);
      next_is = same_next ∙ (ap (λ (n : ℕ). number_after n r) at.next_is ∙ (numbered config h c r next ∙ ap (λ (k : ℕ). config.first_conn + k) (sym (admissions_more h caller c r))));
    }
