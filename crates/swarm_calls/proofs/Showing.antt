-- What is shown, and what lies under the lock, after one entry more.
use Rattle.std.proofs.Common.{◌≡◌, ◌≢◌, ◌<◌, ◌≤◌, ◌^◌, ℕ, ◌+◌, ◌-◌, nat_lt, Bool, true, false, List, [], ◌∷◌, ◌++◌, length, slice_index, Option, Some, None, fold, refl, ap, sym, subst, ◌∙◌, arith, length-append}
use Rattle.std.proofs.lemmas.Bool.Decides.{nat_tests}
use Rattle.std.proofs.lemmas.List.Elements.{All-pop}
use mathlib.Core.List.{IsPrefix}
use Rattle.logbook.specs.Pages.{Book}
use Rattle.pool_state.specs.declared.call.Call.{Call}
use Rattle.pool_state.specs.declared.call.Reply.{Reply}
use Rattle.pool_state.specs.declared.call.Reply.TheVariants.{Refused}
use Rattle.pool_state.specs.declared.call.Refusal.TheVariants.{Spent}
use Rattle.pool_state.specs.declared.limits.Config.{Config}
use Rattle.pool_state.specs.declared.listing.Listing.{Listing}
use Rattle.pool_state.specs.History.{Entry, entry}
use Rattle.pool_state.specs.Shown.{Shown, IsLegal, reply_after}
use Rattle.pool_state.specs.Added.{added, more}
use Rattle.swarm_calls.specs.declared.snapshot.Snapshot.{Snapshot}
use Rattle.swarm_calls.specs.declared.addition.Addition.{Addition}
use Rattle.swarm_calls.specs.Steps.{Beginning, beginning}
use Rattle.swarm_calls.specs.Snapshots.{EndsWith, IsShown, absorbed, followed}
use Rattle.swarm_calls.proofs.Legal.{legal_snoc, counts_snoc, mine_le, of_snoc}
use Rattle.swarm_calls.proofs.Prefixes.{prefix_shorter, prefix_whole}
use Rattle.swarm_calls.proofs.Replies.{unspent_below}

more_at_small : (n : ℕ) (b : Bool) → nat_lt n (2 ^ 64 - 1) ≡ b → n < 18446744073709551615 → more n ≡ n + 1
more_at_small n true is small = rw is refl
more_at_small n false is small = absurd (grind (arith, nat_tests))

-- one more, where there is room
pub more_is : (n : ℕ) → n < 18446744073709551615 → more n ≡ n + 1
more_is n small = more_at_small n (nat_lt n (2 ^ 64 - 1)) refl small

pub short : (config : Config) (h : List Entry) (e : Entry) → e.reply ≡ reply_after config h e.call → e.reply ≢ Refused Spent → length h < 18446744073709551615
short config h e reply unspent =
    let P : Reply → Type 0 = λ r. r ≢ Refused Spent in
    omega (arith, unspent_below config h e.call (subst P reply unspent))

-- what follows the entry shows the history with it
pub shown_snoc : ((config : Config) (history : List Entry) (caller : ℕ) (call : Call) (reply : Reply) → IsLegal config (history ++ entry caller call reply ∷ []) → added (Shown config history) call reply ≡ Shown config (history ++ entry caller call reply ∷ []))
    → (book : Book) (config : Config) (callers : ℕ) (s : Snapshot) (after : Beginning) (e : Entry) → IsShown book config callers s → after ≡ beginning book (s.beginning.log ++ e ∷ []) → (1 ≤ e.caller) × (e.caller ≤ 8)
    → e.caller ≤ callers → e.reply ≡ reply_after config s.beginning.log e.call → e.reply ≢ Refused Spent
    → IsShown book config callers (followed s after e)
shown_snoc law book config callers s after e shown after_is within below reply unspent =
    let h = s.beginning.log in
    let small = short config h e reply unspent in
    let all = legal_snoc config h e shown.legal reply unspent in
    let log : after.log ≡ h ++ e ∷ [] = ap (λ (b : Beginning). b.log) after_is in
    let own = shown.calls_are.each e.caller within.0 within.1 in
    let few : slice_index s.calls (e.caller - 1) < 18446744073709551615 = omega (arith, own, mine_le e.caller h, small) in
    record {
      book_is = ap (λ (b : Beginning). b.book) after_is;
      count_is = rw log (more_is s.count (omega (arith, shown.count_is, small)) ∙ omega (arith, shown.count_is, length-append h (e ∷ [])));
      legal = rw log all;
      listing_is = rw log (ap (λ (l : Listing). added l e.call e.reply) shown.listing_is ∙ law config h e.caller e.call e.reply all);
      calls_are = rw (log, more_is (slice_index s.calls (e.caller - 1)) few) (counts_snoc s.calls h e within.0 within.1 shown.calls_are);
      callers_are = rw log (of_snoc callers h e (within.0, below) shown.callers_are);
      last_is = rw log (record { before = h; is = refl; within = within });
    }

-- what follows the one entry that is missing shows the whole, which ends with it
pub caught_up : ((config : Config) (history : List Entry) (caller : ℕ) (call : Call) (reply : Reply) → IsLegal config (history ++ entry caller call reply ∷ []) → added (Shown config history) call reply ≡ Shown config (history ++ entry caller call reply ∷ []))
    → ((config : Config) (history : List Entry) (last : Entry) → IsLegal config (history ++ last ∷ []) → (last.reply ≡ reply_after config history last.call) × (last.reply ≢ Refused Spent))
    → (book : Book) (config : Config) (callers : ℕ) (s all : Snapshot) (e : Entry) → IsShown book config callers s → IsShown book config callers all → IsPrefix s.beginning.log all.beginning.log → EndsWith all.beginning.log e → all.count ≡ s.count + 1
    → IsShown book config callers (followed s all.beginning e)
caught_up law last book config callers s all e shown all_shown begins ends more_by =
    let h = s.beginning.log in
    let whole = all.beginning.log in
    let long : length whole ≡ length ends.before + 1 = ap length ends.is ∙ length-append ends.before (e ∷ []) in
    let missing : length whole ≡ length h + 1 = omega (arith, shown.count_is, all_shown.count_is, more_by) in
    let shorter : IsPrefix h ends.before = prefix_shorter h ends.before whole begins (e ∷ [], sym ends.is) (omega (arith, long, missing)) in
    let same : h ≡ ends.before = prefix_whole h ends.before shorter (omega (arith, long, missing)) in
    let log : whole ≡ h ++ e ∷ [] = ends.is ∙ ap (λ (l : List Entry). l ++ e ∷ []) (sym same) in
    let reply = last config h e (subst (IsLegal config) log all_shown.legal) in
    let own = (All-pop (λ (x : Entry). (1 ≤ x.caller) × (x.caller ≤ callers)) whole h (Some e) log all_shown.callers_are).1 in
    let after : all.beginning ≡ beginning book (h ++ e ∷ []) = ap (λ (b : Book). beginning b whole) all_shown.book_is ∙ ap (beginning book) log in
    shown_snoc law book config callers s all.beginning e shown after ends.within own.1 reply.0 reply.1

-- what is published next, once nothing and then the entry was applied, shows the history with it
pub next_shown : (a : Addition)
    → ((config : Config) (history : List Entry) (caller : ℕ) (call : Call) (reply : Reply) → IsLegal config (history ++ entry caller call reply ∷ []) → added (Shown config history) call reply ≡ Shown config (history ++ entry caller call reply ∷ []))
    → (book : Book) (config : Config) (callers : ℕ) (w v next : Snapshot) (before pending : List (Option Addition)) → v ≡ w → before ≡ None ∷ [] → pending ≡ before ++ Some a ∷ [] → next ≡ fold absorbed v pending
    → IsShown book config callers w → a.after ≡ beginning book (w.beginning.log ++ a.entry ∷ []) → (1 ≤ a.entry.caller) × (a.entry.caller ≤ 8)
    → a.entry.caller ≤ callers → a.entry.reply ≡ reply_after config w.beginning.log a.entry.call → a.entry.reply ≢ Refused Spent
    → IsShown book config callers next
next_shown a law book config callers w v next before pending same first second is shown after within below reply unspent =
    let two : pending ≡ None ∷ Some a ∷ [] = second ∙ ap (λ (l : List (Option Addition)). l ++ Some a ∷ []) first in
    let changed : next ≡ absorbed w (Some a) = is ∙ (ap (fold absorbed v) two ∙ ap (λ (s : Snapshot). absorbed s (Some a)) same) in
    subst (IsShown book config callers) (sym changed) (shown_snoc law book config callers w a.after a.entry shown after within below reply unspent)
