-- What `added` does to a row is what one more entry does.
use Rattle.std.proofs.Common.{◌≡◌, ℕ, zero, suc, ◌+◌, ◌-◌, ◌^◌, ◌<◌, ◌==◌, nat_lt, Bool, true, false, not, ◌&&◌, cond, [], ◌∷◌, Option, Some, None, refl, sym, ap, arith}
use Rattle.std.specs.Bool.{if◌then◌else◌}
use Rattle.pool_state.specs.declared.call.Call.{Call}
use Rattle.pool_state.specs.declared.call.Call.TheVariants as call
use Rattle.pool_state.specs.declared.call.Reply.{Reply}
use Rattle.pool_state.specs.declared.call.Reply.TheVariants as reply
use Rattle.pool_state.specs.declared.call.Refusal.{Refusal}
use Rattle.pool_state.specs.declared.row.Row.{Row}
use Rattle.pool_state.specs.declared.row.Agent.{Agent}
use Rattle.pool_state.specs.declared.row.Phase.{Phase}
use Rattle.pool_state.specs.declared.row.Phase.TheVariants as phase
use Rattle.pool_state.specs.declared.row.ConnSide.{ConnSide}
use Rattle.pool_state.specs.Parts.{Peer, is_peer, is_phase}
use Rattle.pool_state.specs.Added.{more, more_at, settled, row_after}
use Rattle.pool_state.proofs.Rows.{made, next_row, next_phase, IsSmall}

-- a row of three counts each
pub record Plain : Type 0 where
  pub n : ℕ
  pub r : ConnSide
  pub f : Phase
  pub p : Option Peer
  pub a0 : ℕ
  pub a1 : ℕ
  pub a2 : ℕ
  pub d0 : ℕ
  pub d1 : ℕ
  pub d2 : ℕ
  pub g : Option Agent

abbrev pub row : Plain → Row
row x = made x.n x.r x.f x.p x.a0 x.a1 x.a2 x.d0 x.d1 x.d2 x.g

abbrev pub Agrees : Bool → Call → Reply → Plain → Type 0
Agrees allow c r x = row_after c r (row x) ≡ next_row allow c r (row x)

pub refused_agrees : (allow : Bool) (c : Call) (w : Refusal) (x : Plain) → Agrees allow c (reply.Refused w) x
refused_agrees allow (call.Dial p) w x = refl
refused_agrees allow call.Accept w x = refl
refused_agrees allow (call.Settle n p) w x = refl
refused_agrees allow (call.Ask n i) w x = refl
refused_agrees allow (call.Done n i) w x = refl
refused_agrees allow (call.HangUp p) w x = refl
refused_agrees allow (call.Block p) w x = refl
refused_agrees allow (call.Unblock p) w x = refl
refused_agrees allow (call.Gone n) w x = refl
refused_agrees allow (call.Allow p) w x = refl
refused_agrees allow (call.Disallow p) w x = refl
refused_agrees allow (call.Note n a) w x = refl

pub unblock_agrees : (allow : Bool) (p : Peer) (k : ℕ) (x : Plain) → Agrees allow (call.Unblock p) (reply.Count k) x
unblock_agrees allow p k x = refl

pub allow_agrees : (allow : Bool) (p : Peer) (k : ℕ) (x : Plain) → Agrees allow (call.Allow p) (reply.Count k) x
allow_agrees allow p k x = refl

pub gone_agrees : (allow : Bool) (n : ℕ) (x : Plain) → Agrees allow (call.Gone n) reply.Done x
gone_agrees allow n x = refl

settle_cases : (b : Bool) (p : Peer) (x : Plain) → (if b then record (row x) { phase = settled x.f; peer = Some p } else row x) ≡ made x.n x.r (next_phase false b x.f) (Rattle.pool_state.proofs.Questions.later_of (if b then Some p else None) x.p) x.a0 x.a1 x.a2 x.d0 x.d1 x.d2 x.g
settle_cases true p x = refl
settle_cases false p x = refl

pub settle_agrees : (allow : Bool) (n : ℕ) (p : Peer) (x : Plain) → Agrees allow (call.Settle n p) reply.Done x
settle_agrees allow n p x = settle_cases (x.n == n) p x

note_cases : (b : Bool) (a : Agent) (x : Plain) → (if b then record (row x) { agent = Some a } else row x) ≡ made x.n x.r x.f x.p x.a0 x.a1 x.a2 x.d0 x.d1 x.d2 (Rattle.pool_state.proofs.Questions.later_of (if b then Some a else None) x.g)
note_cases true a x = refl
note_cases false a x = refl

pub note_agrees : (allow : Bool) (n : ℕ) (a : Agent) (x : Plain) → Agrees allow (call.Note n a) reply.Done x
note_agrees allow n a x = note_cases (x.n == n) a x

close_cases : (b : Bool) (x : Plain) → (if b then record (row x) { phase = phase.Closing } else row x) ≡ made x.n x.r (next_phase b false x.f) x.p x.a0 x.a1 x.a2 x.d0 x.d1 x.d2 x.g
close_cases true x = refl
close_cases false x = refl

pub hang_up_agrees : (allow : Bool) (p : Peer) (k : ℕ) (x : Plain) → Agrees allow (call.HangUp p) (reply.Count k) x
hang_up_agrees allow p k x = close_cases (is_peer p x.p) x

pub block_agrees : (allow : Bool) (p : Peer) (k : ℕ) (x : Plain) → Agrees allow (call.Block p) (reply.Count k) x
block_agrees allow p k x = close_cases (is_peer p x.p) x

pub more_is : (n : ℕ) → n < 2 ^ 64 - 1 → more n ≡ n + 1
more_is n h = search (Rattle.std.proofs.Common.rules)

ask_cases : (b : Bool) (i : ℕ) (x : Plain) → IsSmall (row x) → i < 3
    → (if b then record (row x) { asked = more_at (x.a0 ∷ x.a1 ∷ x.a2 ∷ []) i } else row x)
    ≡ made x.n x.r x.f x.p (cond (b && 0 == i) (x.a0 + 1) x.a0) (cond (b && 1 == i) (x.a1 + 1) x.a1) (cond (b && 2 == i) (x.a2 + 1) x.a2) x.d0 x.d1 x.d2 x.g
ask_cases false i x small few = refl
ask_cases true zero x small few = ap (λ (k : ℕ). made x.n x.r x.f x.p k x.a1 x.a2 x.d0 x.d1 x.d2 x.g) (more_is x.a0 small.asked0)
ask_cases true (suc zero) x small few = ap (λ (k : ℕ). made x.n x.r x.f x.p x.a0 k x.a2 x.d0 x.d1 x.d2 x.g) (more_is x.a1 small.asked1)
ask_cases true (suc (suc zero)) x small few = ap (λ (k : ℕ). made x.n x.r x.f x.p x.a0 x.a1 k x.d0 x.d1 x.d2 x.g) (more_is x.a2 small.asked2)
ask_cases true (suc (suc (suc i))) x small few = absurd (omega arith)

pub ask_agrees : (allow : Bool) (n i : ℕ) (x : Plain) → IsSmall (row x) → i < 3 → Agrees allow (call.Ask n i) reply.Done x
ask_agrees allow n i x small few = ask_cases (x.n == n) i x small few

done_cases : (b : Bool) (i : ℕ) (x : Plain) → IsSmall (row x) → i < 3
    → (if b then record (row x) { done = more_at (x.d0 ∷ x.d1 ∷ x.d2 ∷ []) i } else row x)
    ≡ made x.n x.r x.f x.p x.a0 x.a1 x.a2 (cond (b && 0 == i) (x.d0 + 1) x.d0) (cond (b && 1 == i) (x.d1 + 1) x.d1) (cond (b && 2 == i) (x.d2 + 1) x.d2) x.g
done_cases false i x small few = refl
done_cases true zero x small few = ap (λ (k : ℕ). made x.n x.r x.f x.p x.a0 x.a1 x.a2 k x.d1 x.d2 x.g) (more_is x.d0 small.done0)
done_cases true (suc zero) x small few = ap (λ (k : ℕ). made x.n x.r x.f x.p x.a0 x.a1 x.a2 x.d0 k x.d2 x.g) (more_is x.d1 small.done1)
done_cases true (suc (suc zero)) x small few = ap (λ (k : ℕ). made x.n x.r x.f x.p x.a0 x.a1 x.a2 x.d0 x.d1 k x.g) (more_is x.d2 small.done2)
done_cases true (suc (suc (suc i))) x small few = absurd (omega arith)

pub done_agrees : (allow : Bool) (n i : ℕ) (x : Plain) → IsSmall (row x) → i < 3 → Agrees allow (call.Done n i) reply.Done x
done_agrees allow n i x small few = done_cases (x.n == n) i x small few

-- a Disallow that closes, and one that finds nothing to close
pub disallow_agrees_open : (p : Peer) (k : ℕ) (x : Plain) → nat_lt 0 k ≡ true → Agrees true (call.Disallow p) (reply.Count k) x
disallow_agrees_open p k x h = rw h (close_cases (is_peer p x.p) x)

disallow_none : (b : Bool) (f : Phase) → (b && not (is_phase f phase.Closing)) ≡ false → f ≡ next_phase b false f
disallow_none true phase.Closing h = refl
disallow_none true phase.Pending h = absurd (Rattle.std.proofs.lemmas.Bool.false≢true (sym h))
disallow_none true phase.Live h = absurd (Rattle.std.proofs.lemmas.Bool.false≢true (sym h))
disallow_none false f h = refl

pub disallow_agrees_none : (p : Peer) (x : Plain) → (is_peer p x.p && not (is_phase x.f phase.Closing)) ≡ false → Agrees true (call.Disallow p) (reply.Count 0) x
disallow_agrees_none p x h = ap (λ (f : Phase). made x.n x.r f x.p x.a0 x.a1 x.a2 x.d0 x.d1 x.d2 x.g) (disallow_none (is_peer p x.p) x.f h)

pub disallow_agrees_idle : (p : Peer) (x : Plain) → Agrees false (call.Disallow p) (reply.Count 0) x
disallow_agrees_idle p x = refl
