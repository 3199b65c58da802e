-- What a pass and the lock know of one history.
use Rattle.std.proofs.Common.{◌≡◌, ◌≢◌, inl, inr, ⊎_elim, ℕ, zero, suc, ◌+◌, ◌-◌, ◌≤◌, ◌<◌, ◌^◌, List, [], ◌∷◌, ◌++◌, length, slice_index, slice_set, refl, ap, sym, ◌∙◌, arith, subst, append_assoc, All}
use Rattle.std.proofs.lemmas.List.{append-nil}
use mathlib.Core.List.{IsPrefix}
use Rattle.logbook.specs.Pages.{Book}
use Rattle.pool_state.specs.declared.call.Call.{Call}
use Rattle.pool_state.specs.declared.call.Reply.{Reply}
use Rattle.pool_state.specs.declared.call.Reply.TheVariants.{Refused}
use Rattle.pool_state.specs.declared.call.Refusal.TheVariants.{Spent, OutOfMemory}
use Rattle.pool_state.specs.declared.limits.Config.{Config}
use Rattle.pool_state.specs.declared.pool.Pool.{Pool}
use Rattle.pool_state.specs.At.{Stands}
use Rattle.pool_state.specs.History.{Entry, entry, front_of}
use Rattle.pool_state.specs.Shown.{IsLegal, reply_after}
use Rattle.swarm_calls.specs.declared.ledgers.Tally.{Tally}
use Rattle.swarm_calls.specs.declared.ledgers.Tally.TheVariants.{First, Second, Third, Fourth, Fifth, Sixth, Seventh, Eighth}
use Rattle.swarm_calls.specs.declared.snapshot.Snapshot.{Snapshot}
use Rattle.swarm_calls.specs.Ledgers.{caller_of}
use Rattle.swarm_calls.specs.History.{mine, IsOf, Counts}
use Rattle.swarm_calls.specs.Snapshots.{IsShown}
use Rattle.swarm_calls.specs.Locked.{IsLocked}
use Rattle.swarm_calls.specs.Calls.{Past, past, Later, SameCalls, IsTurnedAway, IsCalled}
use Rattle.swarm_calls.proofs.Legal.{legal_snoc, mine_same, mine_snoc, counts_snoc, counts_nil, of_snoc}
use Rattle.swarm_calls.proofs.Prefixes.{prefix_trans}
use Rattle.swarm_calls.proofs.Replies.{spent_at_last, never_out_of_memory, unspent_below}

pub caller_within : {L A B C D E F G H : Type 0} (t : Tally L A B C D E F G H) → (1 ≤ caller_of t) × (caller_of t ≤ 8)
caller_within (First w) = (omega arith, omega arith)
caller_within (Second w) = (omega arith, omega arith)
caller_within (Third w) = (omega arith, omega arith)
caller_within (Fourth w) = (omega arith, omega arith)
caller_within (Fifth w) = (omega arith, omega arith)
caller_within (Sixth w) = (omega arith, omega arith)
caller_within (Seventh w) = (omega arith, omega arith)
caller_within (Eighth w) = (omega arith, omega arith)

-- the caller's share has as many entries as the published history has of it, and as the pass has seen
pub calls_same : (caller amount : ℕ) (books : List ℕ) (history seen : List Entry) → Counts books history → (1 ≤ caller) × (caller ≤ 8) → slice_index books (caller - 1) ≡ amount → amount ≡ length (mine caller seen) → IsPrefix seen history
    → mine caller history ≡ mine caller seen
calls_same caller amount books history seen counts within book share begins = mine_same caller seen history begins (sym (counts.each caller within.0 within.1) ∙ (book ∙ share))

-- what lies under the lock, with the entry
pub locked_snoc : (book : Book) (config : Config) (callers : ℕ) (word : Book) (pool pool' : Pool) (books : List ℕ) (published published' : Snapshot) (e : Entry) → (1 ≤ e.caller) × (e.caller ≤ 8)
    → IsLocked book config callers word pool books published → IsShown book config callers published' → published'.beginning.log ≡ published.beginning.log ++ e ∷ [] → Stands config (published.beginning.log ++ e ∷ []) pool'
    → IsLocked book config callers word pool' (slice_set books (e.caller - 1) (slice_index books (e.caller - 1) + 1)) published'
locked_snoc book config callers word pool pool' books published published' e within at shown longer pool_at = record {
  word_is = at.word_is;
  shown = shown;
  pool_is = subst (λ (h : List Entry). Stands config h pool') (sym longer) pool_at;
  books_are = subst (λ (h : List Entry). Counts (slice_set books (e.caller - 1) (slice_index books (e.caller - 1) + 1)) h) (sym longer) (counts_snoc books published.beginning.log e within.0 within.1 at.books_are);
}

-- at the start all is at the empty history
pub locked_nil : (book : Book) (config : Config) (callers : ℕ) (word : Book) (pool : Pool) (published : Snapshot) → word ≡ book → Stands config [] pool → IsShown book config callers published → published.beginning.log ≡ []
    → IsLocked book config callers word pool (0 ∷ 0 ∷ 0 ∷ 0 ∷ 0 ∷ 0 ∷ 0 ∷ 0 ∷ []) published
locked_nil book config callers word pool published word_is at shown none = record {
  word_is = word_is;
  shown = shown;
  pool_is = subst (λ (h : List Entry). Stands config h pool) (sym none) at;
  books_are = subst (λ (h : List Entry). Counts (0 ∷ 0 ∷ 0 ∷ 0 ∷ 0 ∷ 0 ∷ 0 ∷ 0 ∷ []) h) (sym none) counts_nil;
}

-- a call of a pass that has seen all that is published, h
module _ (config : Config) (callers : ℕ) (call : Call) (old between : Past) (h : List Entry) (later : Later config callers old between) (own : SameCalls old between) (seen : between ≡ past old.number h) (front : front_of config between.seen < 2 ^ 64) where
  h_seen : between.seen ≡ h
  h_seen = ap (λ (p : Past). p.seen) seen

  front_h : front_of config h < 18446744073709551616
  front_h = subst (λ (l : List Entry). front_of config l < 18446744073709551616) h_seen front

  -- the pool answers Spent
  pub called_spent : (reply : Reply) → reply ≡ Refused Spent → reply ≡ reply_after config h call → IsCalled config callers call old reply between
  called_spent reply is reply_is =
      let last : 18446744073709551615 ≤ front_of config h = spent_at_last config h call (sym reply_is ∙ is) in
      let there : front_of config h ≡ 18446744073709551615 = omega (arith, last, front_h) in
      record {
        later = later;
        made = λ counts. absurd (counts (inl is));
        unmade = λ away. own;
        spent = λ away. ((λ same. ap (front_of config) h_seen ∙ there), λ same. is);
      }

  -- memory is refused
  pub called_refused : (reply : Reply) (new : Past) → new ≡ between → reply ≡ reply_after config h call → reply ≢ Refused Spent → IsCalled config callers call old (Refused OutOfMemory) new
  called_refused reply new same reply_is unspent =
      let P : Reply → Type 0 = λ r. r ≢ Refused Spent in
      let small : front_of config h < 18446744073709551615 = unspent_below config h call (subst P reply_is unspent) in
      let front_is : front_of config new.seen ≡ front_of config h = ap (λ (p : Past). front_of config p.seen) same ∙ ap (front_of config) h_seen in
      record {
        later = subst (Later config callers old) (sym same) later;
        made = λ counts. absurd (counts (inr refl));
        unmade = λ away. subst (SameCalls old) (sym same) own;
        spent = λ away. ((λ is. absurd (cc is)), λ last. absurd (omega (arith, small, front_is, last)));
      }

  -- the call is published and seen
  pub called_made : (reply : Reply) (new : Past) → (1 ≤ old.number) × (old.number ≤ callers) → new ≡ past between.number (h ++ entry between.number call reply ∷ []) → reply ≡ reply_after config h call → reply ≢ Refused Spent → IsCalled config callers call old reply new
  called_made reply new within made reply_is unspent =
      let number_is : new.number ≡ old.number = ap (λ (p : Past). p.number) made ∙ later.number in
      let all_seen : new.seen ≡ h ++ entry old.number call reply ∷ [] = ap (λ (p : Past). p.seen) made ∙ ap (λ (n : ℕ). h ++ entry n call reply ∷ []) later.number in
      let legal : IsLegal config h = subst (IsLegal config) h_seen later.legal in
      let away_not : ¬ IsTurnedAway reply = λ away. ⊎_elim (λ (is : reply ≡ Refused Spent). unspent is) (λ (is : reply ≡ Refused OutOfMemory). never_out_of_memory config h call (sym reply_is ∙ is)) away in
      record {
        later = record {
          number = number_is;
          legal = subst (IsLegal config) (sym all_seen) (legal_snoc config h (entry old.number call reply) legal reply_is unspent);
          callers_are = subst (IsOf callers) (sym all_seen) (of_snoc callers h (entry old.number call reply) within (subst (IsOf callers) h_seen later.callers_are));
          begins = prefix_trans old.seen between.seen new.seen later.begins (entry old.number call reply ∷ [], ap (λ (l : List Entry). l ++ entry old.number call reply ∷ []) h_seen ∙ sym all_seen);
        };
        made = λ counts. record {
          before = h;
          last = all_seen;
          own = ap (mine old.number) all_seen ∙ (mine_snoc h (entry old.number call reply) ∙ ap (λ (l : List Entry). l ++ entry old.number call reply ∷ []) (ap (mine old.number) (sym h_seen) ∙ own));
        };
        unmade = λ away. absurd (away_not away);
        spent = λ away. absurd (away_not away);
      }

pub all_one : {X : Type 0} (P : X → Type 0) (x : X) → P x → All P (x ∷ [])
all_one P x holds zero d low = holds
all_one P x holds (suc k) d low = absurd (omega arith)

pub rest_moves : {X : Type 0} (done rest rest' all : List X) (x : X) → rest ≡ x ∷ rest' → done ++ rest ≡ all → (done ++ x ∷ []) ++ rest' ≡ all
rest_moves done rest rest' all x step is = append_assoc done (x ∷ []) rest' ∙ (ap (λ l. done ++ l) (sym step) ∙ is)

pub none_left : {X : Type 0} (done rest all : List X) → length rest ≡ 0 → done ++ rest ≡ all → done ≡ all
none_left done [] all none is = sym (append-nil done) ∙ is
none_left done (x ∷ rest) all none is = absurd (omega arith)
