-- How long the lists of peers get.
use Rattle.std.proofs.Common.{◌≡◌, ◌∙◌, ◌⊎◌, inl, inr, ℕ, ◌+◌, ◌≤◌, nat_le, nat_lt, Bool, true, false, not, ◌&&◌, cond, List, [], ◌∷◌, ◌++◌, length, Option, Some, None, refl, sym, ap, subst, arith, length-append}
use Rattle.std.specs.Bool.{if◌then◌else◌}
use Rattle.std.specs.List.{filter}
use Rattle.std.proofs.lemmas.Bool.Decides.{nat_tests}
use Rattle.pool_state.specs.declared.call.Call.{Call}
use Rattle.pool_state.specs.declared.call.Call.TheVariants as call
use Rattle.pool_state.specs.declared.call.Reply.{Reply}
use Rattle.pool_state.specs.declared.call.Reply.TheVariants as reply
use Rattle.pool_state.specs.declared.call.Refusal.{Refusal}
use Rattle.pool_state.specs.declared.limits.Config.{Config}
use Rattle.pool_state.specs.Parts.{Peer, has}
use Rattle.pool_state.specs.Table.{may_refuse}
use Rattle.pool_state.specs.History.{Entry, next_number, blocks, unblocks, allows, disallows, blocked, allowed}
use Rattle.pool_state.specs.Shown.{IsLegal, Shown}
use Rattle.pool_state.specs.Added.{with_peer, added_to, removed_from}
use Rattle.pool_state.proofs.Legal.{IsNext, Counts, decided, none_holds, legal_ind_with}
use Rattle.pool_state.proofs.Law.{blocked_next, allowed_next, blocks_is, allows_is, none_some}

fewer : (t : Peer → Bool) (l : List Peer) → length (filter t l) ≤ length l
fewer t [] = omega arith
fewer t (x ∷ l) = step (t x) (fewer t l)
  where
    step : (b : Bool) → length (filter t l) ≤ length l → length (cond b (x ∷ filter t l) (filter t l)) ≤ length (x ∷ l)
    step true h = omega arith
    step false h = omega arith

removed_few : (o : Option Peer) (l : List Peer) (limit : ℕ) → length l ≤ limit → length (removed_from o l) ≤ limit
removed_few None l limit h = h
removed_few (Some q) l limit h = omega (arith, fewer (λ p. not (Rattle.std.specs.Str.bytes_eq q p)) l)

with_few : (l : List Peer) (p : Peer) (limit : ℕ) (here : Bool) → has l p ≡ here → (not here && nat_le limit (length l)) ≡ false → length l ≤ limit → length (with_peer l p) ≤ limit
with_few l p limit true e h few = rw e few
with_few l p limit false e h few = rw e (by_room (nat_lt (length l) 64))
  where
    below : (limit n : ℕ) → nat_le limit n ≡ false → n + 1 ≤ limit
    below limit n h = grind (arith, nat_tests)

    by_room : (b : Bool) → length (if b then l ++ p ∷ [] else l) ≤ limit
    by_room true = omega (arith, length-append l (p ∷ []), below limit (length l) h)
    by_room false = few

block_few : (config : Config) (h : List Entry) (r : Reply) (p : Peer) → IsNext config h (call.Block p) r → blocks (call.Block p) r ≡ Some p → length (blocked h) ≤ config.limits.blocked → length (with_peer (blocked h) p) ≤ config.limits.blocked
block_few config h r p next e few = by_case (decided config h (call.Block p) r next).1
  where
    by_case : (((w : Refusal) × (r ≡ reply.Refused w)) ⊎ Counts config h (call.Block p) r) → length (with_peer (blocked h) p) ≤ config.limits.blocked
    by_case (inl w) = absurd (none_some (sym (ap (blocks (call.Block p)) w.1) ∙ e))
    by_case (inr k) = let f = none_holds (may_refuse config (next_number config h) (Shown config h) (call.Block p)) k.none in with_few (blocked h) p config.limits.blocked (has (blocked h) p) refl f.1.0 few

allow_few : (config : Config) (h : List Entry) (r : Reply) (p : Peer) → IsNext config h (call.Allow p) r → allows (call.Allow p) r ≡ Some p → length (allowed h) ≤ config.limits.allowed → length (with_peer (allowed h) p) ≤ config.limits.allowed
allow_few config h r p next e few = by_case (decided config h (call.Allow p) r next).1
  where
    by_case : (((w : Refusal) × (r ≡ reply.Refused w)) ⊎ Counts config h (call.Allow p) r) → length (with_peer (allowed h) p) ≤ config.limits.allowed
    by_case (inl w) = absurd (none_some (sym (ap (allows (call.Allow p)) w.1) ∙ e))
    by_case (inr k) = let f = none_holds (may_refuse config (next_number config h) (Shown config h) (call.Allow p)) k.none in with_few (allowed h) p config.limits.allowed (has (allowed h) p) refl f.1.0 few

pub few_blocked : (config : Config) (h : List Entry) → IsLegal config h → length (blocked h) ≤ config.limits.blocked
few_blocked config h legal = legal_ind_with config (λ h. length (blocked h) ≤ config.limits.blocked) step (omega arith) h legal
  where
    step : (h : List Entry) (e : Entry) → IsLegal config h → IsNext config h e.call e.reply → length (blocked h) ≤ config.limits.blocked → length (blocked (h ++ e ∷ [])) ≤ config.limits.blocked
    step h e l next few =
        subst (λ (ps : List Peer). length ps ≤ config.limits.blocked) (blocked_next config h e.caller e.call e.reply next)
        (removed_few (unblocks e.call e.reply) _ config.limits.blocked (by_add (blocks e.call e.reply) refl))
      where
        by_add : (o : Option Peer) → blocks e.call e.reply ≡ o → length (added_to o (blocked h)) ≤ config.limits.blocked
        by_add None i = few
        by_add (Some p) i = let s = blocks_is e.call e.reply p i in block_few config h e.reply p (subst (λ (d : Call). IsNext config h d e.reply) s next) (subst (λ (d : Call). blocks d e.reply ≡ Some p) s i) few

pub few_allowed : (config : Config) (h : List Entry) → IsLegal config h → length (allowed h) ≤ config.limits.allowed
few_allowed config h legal = legal_ind_with config (λ h. length (allowed h) ≤ config.limits.allowed) step (omega arith) h legal
  where
    step : (h : List Entry) (e : Entry) → IsLegal config h → IsNext config h e.call e.reply → length (allowed h) ≤ config.limits.allowed → length (allowed (h ++ e ∷ [])) ≤ config.limits.allowed
    step h e l next few =
        subst (λ (ps : List Peer). length ps ≤ config.limits.allowed) (allowed_next config h e.caller e.call e.reply next)
        (removed_few (disallows e.call e.reply) _ config.limits.allowed (by_add (allows e.call e.reply) refl))
      where
        by_add : (o : Option Peer) → allows e.call e.reply ≡ o → length (added_to o (allowed h)) ≤ config.limits.allowed
        by_add None i = few
        by_add (Some p) i = let s = allows_is e.call e.reply p i in allow_few config h e.reply p (subst (λ (d : Call). IsNext config h d e.reply) s next) (subst (λ (d : Call). allows d e.reply ≡ Some p) s i) few
