-- Where only allowed peers may connect, a row whose peer isn't allowed is Closing.
use Rattle.std.proofs.Common.{◌≡◌, ◌≢◌, ◌∙◌, ◌⊎◌, inl, inr, ℕ, ◌==◌, Bool, true, false, not, ◌&&◌, ◌||◌, List, [], ◌∷◌, ◌++◌, Option, Some, None, refl, sym, ap, subst}
use Rattle.std.specs.Bool.{if◌then◌else◌}
use Rattle.std.specs.Str.{bytes_eq}
use Rattle.std.proofs.lemmas.Bool.{false≢true}
use Rattle.pool_state.specs.declared.call.Call.{Call}
use Rattle.pool_state.specs.declared.call.Call.TheVariants as call
use Rattle.pool_state.specs.declared.call.Reply.{Reply}
use Rattle.pool_state.specs.declared.call.Reply.TheVariants as reply
use Rattle.pool_state.specs.declared.call.Refusal.{Refusal}
use Rattle.pool_state.specs.declared.limits.Config.{Config}
use Rattle.pool_state.specs.declared.row.Row.{Row}
use Rattle.pool_state.specs.declared.row.Phase.TheVariants as phase
use Rattle.pool_state.specs.Parts.{Peer, is_peer, has}
use Rattle.pool_state.specs.Table.{may_refuse}
use Rattle.pool_state.specs.History.{Entry, entry, next_number, allows, disallows, allowed, is_listed, closes, same_peer, settles, peer_named}
use Rattle.pool_state.specs.Shown.{row_of, IsLegal, Shown}
use Rattle.pool_state.proofs.Questions.{since_more, later_of}
use Rattle.pool_state.proofs.Rows.{next_row, next_phase, row_next}
use Rattle.pool_state.proofs.Listed.{has_listed}
use Rattle.pool_state.proofs.Legal.{IsNext, Counts, decided, none_holds, legal_ind_with}
use Rattle.pool_state.proofs.Law.{allow_exclusive}
use Rattle.pool_state.proofs.Closed.{still_closing, same_peers}

-- where the peer isn't allowed, the row is Closing
abbrev pub IsOut : List Entry → Row → Type 0
IsOut h row = (p : Peer) → is_listed allows disallows h p ≡ false → is_peer p row.peer ≡ true → row.phase ≡ phase.Closing

abbrev after : List Entry → Call → Reply → Peer → Bool
after h c r p = (is_listed allows disallows h p && not (is_peer p (disallows c r))) || is_peer p (allows c r)

since : (h : List Entry) (caller : ℕ) (c : Call) (r : Reply) (p : Peer) → is_listed allows disallows (h ++ entry caller c r ∷ []) p ≡ after h c r p
since h caller c r p = since_more (λ (x : Entry). is_peer p (allows x.call x.reply)) (λ (x : Entry). is_peer p (disallows x.call x.reply)) h (entry caller c r)

-- a peer that isn't allowed after an entry that disallows none wasn't before
was_out : (a b : Bool) → ((a && true) || b) ≡ false → a ≡ false
was_out true b e = absurd (false≢true (sym e))
was_out false b e = refl

was_apart : (a b : Bool) → ((a && not b) || false) ≡ false → b ≡ false → a ≡ false
was_apart true true e h = absurd (false≢true (sym h))
was_apart true false e h = absurd (false≢true (sym e))
was_apart false b e h = refl

-- an entry that names no peer for the row and disallows none
kept : (h : List Entry) (caller : ℕ) (allow : Bool) (c : Call) (r : Reply) (row : Row) → disallows c r ≡ None → peer_named row.conn c r ≡ None → IsOut h row → IsOut (h ++ entry caller c r ∷ []) (next_row allow c r row)
kept h caller allow c r row no_cut no_peer out p unlisted mine =
    still_closing (same_peer (closes allow c r) row.peer) (settles row.conn c r) row.phase (out p before (sym (ap (λ (o : Option Peer). is_peer p (later_of o row.peer)) no_peer) ∙ mine))
  where
    before : is_listed allows disallows h p ≡ false
    before = was_out (is_listed allows disallows h p) (is_peer p (allows c r))
        (sym (ap (λ (o : Option Peer). (is_listed allows disallows h p && not (is_peer p o)) || is_peer p (allows c r)) no_cut) ∙ (sym (since h caller c r p) ∙ unlisted))

-- an entry that names an allowed peer for some row, and disallows none
named : (h : List Entry) (caller : ℕ) (allow : Bool) (c : Call) (r : Reply) (row : Row) (b : Bool) (q : Peer) → disallows c r ≡ None → peer_named row.conn c r ≡ (if b then Some q else None) → is_listed allows disallows h q ≡ true → IsOut h row → IsOut (h ++ entry caller c r ∷ []) (next_row allow c r row)
named h caller allow c r row false q no_cut is free out p unlisted mine = kept h caller allow c r row no_cut is out p unlisted mine
named h caller allow c r row true q no_cut is free out p unlisted mine =
    let same : bytes_eq q p ≡ true = sym (ap (λ (o : Option Peer). is_peer p (later_of o row.peer)) is) ∙ mine in
    absurd (false≢true (sym before ∙ (ap (λ (z : Peer). is_listed allows disallows h z) (sym (same_peers q p same)) ∙ free)))
  where
    before : is_listed allows disallows h p ≡ false
    before = was_out (is_listed allows disallows h p) (is_peer p (allows c r))
        (sym (ap (λ (o : Option Peer). (is_listed allows disallows h p && not (is_peer p o)) || is_peer p (allows c r)) no_cut) ∙ (sym (since h caller c r p) ∙ unlisted))

-- a Disallow closes the rows of its peer
disallowing : (h : List Entry) (caller : ℕ) (q : Peer) (k : ℕ) (row : Row) → IsOut h row → IsOut (h ++ entry caller (call.Disallow q) (reply.Count k) ∷ []) (next_row true (call.Disallow q) (reply.Count k) row)
disallowing h caller q k row out p unlisted mine = step (bytes_eq q p) refl
  where
    step : (b : Bool) → bytes_eq q p ≡ b → next_phase (is_peer q row.peer) false row.phase ≡ phase.Closing
    step true e = ap (λ b. next_phase b false row.phase) (ap (λ (z : Peer). is_peer z row.peer) (same_peers q p e) ∙ mine)
    step false e = still_closing (is_peer q row.peer) false row.phase
        (out p (was_apart (is_listed allows disallows h p) (bytes_eq q p) (sym (since h caller (call.Disallow q) (reply.Count k) p) ∙ unlisted) e) mine)

refused_out : (h : List Entry) (caller : ℕ) (allow : Bool) (c : Call) (w : Refusal) (row : Row) → IsOut h row → IsOut (h ++ entry caller c (reply.Refused w) ∷ []) (next_row allow c (reply.Refused w) row)
refused_out h caller allow (call.Dial o) w row out = kept h caller allow (call.Dial o) (reply.Refused w) row refl refl out
refused_out h caller allow call.Accept w row out = kept h caller allow call.Accept (reply.Refused w) row refl refl out
refused_out h caller allow (call.Settle m q) w row out = kept h caller allow (call.Settle m q) (reply.Refused w) row refl refl out
refused_out h caller allow (call.Ask m i) w row out = kept h caller allow (call.Ask m i) (reply.Refused w) row refl refl out
refused_out h caller allow (call.Done m i) w row out = kept h caller allow (call.Done m i) (reply.Refused w) row refl refl out
refused_out h caller allow (call.HangUp q) w row out = kept h caller allow (call.HangUp q) (reply.Refused w) row refl refl out
refused_out h caller allow (call.Block q) w row out = kept h caller allow (call.Block q) (reply.Refused w) row refl refl out
refused_out h caller allow (call.Unblock q) w row out = kept h caller allow (call.Unblock q) (reply.Refused w) row refl refl out
refused_out h caller allow (call.Gone m) w row out = kept h caller allow (call.Gone m) (reply.Refused w) row refl refl out
refused_out h caller allow (call.Allow q) w row out = kept h caller allow (call.Allow q) (reply.Refused w) row refl refl out
refused_out h caller allow (call.Disallow q) w row out = kept h caller allow (call.Disallow q) (reply.Refused w) row refl refl out
refused_out h caller allow (call.Note m a) w row out = kept h caller allow (call.Note m a) (reply.Refused w) row refl refl out

-- what a call that nothing refuses says of the peer that it names
let_in : (config : Config) (h : List Entry) (q : Peer) → config.allow_only ≡ true → (config.allow_only && not (has (allowed h) q)) ≡ false → is_listed allows disallows h q ≡ true
let_in config h q mode e = sym (has_listed allows disallows allow_exclusive h q) ∙ by_case (has (allowed h) q) (sym (ap (λ b. b && not (has (allowed h) q)) mode) ∙ e)
  where
    by_case : (b : Bool) → (true && not b) ≡ false → b ≡ true
    by_case true e = refl
    by_case false e = sym e

counted_disallow : (config : Config) → config.allow_only ≡ true → (h : List Entry) (caller : ℕ) (q : Peer) (count n : ℕ) → IsOut h (row_of config h n) → IsOut (h ++ entry caller (call.Disallow q) (reply.Count count) ∷ []) (next_row config.allow_only (call.Disallow q) (reply.Count count) (row_of config h n))
counted_disallow config mode h caller q count n out =
    subst (λ (allow : Bool). IsOut (h ++ entry caller (call.Disallow q) (reply.Count count) ∷ []) (next_row allow (call.Disallow q) (reply.Count count) (row_of config h n))) (sym mode)
    (disallowing h caller q count (row_of config h n) out)

counted_out : (config : Config) → config.allow_only ≡ true → (h : List Entry) (caller : ℕ) (c : Call) (r : Reply) → Counts config h c r → (n : ℕ) → IsOut h (row_of config h n) → IsOut (h ++ entry caller c r ∷ []) (next_row config.allow_only c r (row_of config h n))
counted_out config mode h caller (call.Dial None) r k n out = rw k.answered (kept h caller config.allow_only (call.Dial None) (reply.Conn (next_number config h)) (row_of config h n) refl (no_name (n == next_number config h)) out)
  where
    no_name : (b : Bool) → ◌≡◌ {A = Option Peer} (if b then None else None) None
    no_name true = refl
    no_name false = refl
counted_out config mode h caller (call.Dial (Some q)) r k n out =
    let f = none_holds (may_refuse config (next_number config h) (Shown config h) (call.Dial (Some q))) k.none in
    rw k.answered (named h caller config.allow_only (call.Dial (Some q)) (reply.Conn (next_number config h)) (row_of config h n) (n == next_number config h) q refl refl (let_in config h q mode f.1.1.1.1.1.1.0) out)
counted_out config mode h caller (call.Settle m q) r k n out =
    let f = none_holds (may_refuse config (next_number config h) (Shown config h) (call.Settle m q)) k.none in
    rw k.answered (named h caller config.allow_only (call.Settle m q) reply.Done (row_of config h n) (n == m) q refl refl (let_in config h q mode f.1.1.1.1.1.1.1.0) out)
counted_out config mode h caller (call.Disallow q) r k n out =
    subst (λ (r : Reply). IsOut (h ++ entry caller (call.Disallow q) r ∷ []) (next_row config.allow_only (call.Disallow q) r (row_of config h n))) (sym k.answered) (counted_disallow config mode h caller q _ n out)
counted_out config mode h caller call.Accept r k n out = rw k.answered (kept h caller config.allow_only call.Accept (reply.Conn (next_number config h)) (row_of config h n) refl refl out)
counted_out config mode h caller (call.Ask m i) r k n out = rw k.answered (kept h caller config.allow_only (call.Ask m i) reply.Done (row_of config h n) refl refl out)
counted_out config mode h caller (call.Done m i) r k n out = rw k.answered (kept h caller config.allow_only (call.Done m i) reply.Done (row_of config h n) refl refl out)
counted_out config mode h caller (call.Gone m) r k n out = rw k.answered (kept h caller config.allow_only (call.Gone m) reply.Done (row_of config h n) refl refl out)
counted_out config mode h caller (call.Note m a) r k n out = rw k.answered (kept h caller config.allow_only (call.Note m a) reply.Done (row_of config h n) refl refl out)
counted_out config mode h caller (call.HangUp q) r k n out = subst (λ (r : Reply). IsOut (h ++ entry caller (call.HangUp q) r ∷ []) (next_row config.allow_only (call.HangUp q) r (row_of config h n))) (sym k.answered) (kept h caller config.allow_only (call.HangUp q) (reply.Count _) (row_of config h n) refl refl out)
counted_out config mode h caller (call.Block q) r k n out = subst (λ (r : Reply). IsOut (h ++ entry caller (call.Block q) r ∷ []) (next_row config.allow_only (call.Block q) r (row_of config h n))) (sym k.answered) (kept h caller config.allow_only (call.Block q) (reply.Count _) (row_of config h n) refl refl out)
counted_out config mode h caller (call.Unblock q) r k n out = subst (λ (r : Reply). IsOut (h ++ entry caller (call.Unblock q) r ∷ []) (next_row config.allow_only (call.Unblock q) r (row_of config h n))) (sym k.answered) (kept h caller config.allow_only (call.Unblock q) (reply.Count _) (row_of config h n) refl refl out)
counted_out config mode h caller (call.Allow q) r k n out = subst (λ (r : Reply). IsOut (h ++ entry caller (call.Allow q) r ∷ []) (next_row config.allow_only (call.Allow q) r (row_of config h n))) (sym k.answered) (kept h caller config.allow_only (call.Allow q) (reply.Count _) (row_of config h n) refl refl out)

abbrev pub AreOut : Config → List Entry → Type 0
AreOut config h = (n : ℕ) → IsOut h (row_of config h n)

out_step : (config : Config) → config.allow_only ≡ true → (h : List Entry) (e : Entry) → IsLegal config h → IsNext config h e.call e.reply → AreOut config h → AreOut config (h ++ e ∷ [])
out_step config mode h e legal next out n =
    subst (λ (x : Row). IsOut (h ++ e ∷ []) x) (sym (row_next config h n e.caller e.call e.reply)) (by_case (decided config h e.call e.reply next).1)
  where
    by_case : (((w : Refusal) × (e.reply ≡ reply.Refused w)) ⊎ Counts config h e.call e.reply) → IsOut (h ++ e ∷ []) (next_row config.allow_only e.call e.reply (row_of config h n))
    by_case (inl w) = subst (λ (r : Reply). IsOut (h ++ entry e.caller e.call r ∷ []) (next_row config.allow_only e.call r (row_of config h n))) (sym w.1) (refused_out h e.caller config.allow_only e.call w.0 (row_of config h n) (out n))
    by_case (inr k) = counted_out config mode h e.caller e.call e.reply k n (out n)

pub are_out : (config : Config) → config.allow_only ≡ true → (h : List Entry) → IsLegal config h → (n : ℕ) (p : Peer) → is_peer p (row_of config h n).peer ≡ true → (row_of config h n).phase ≢ phase.Closing → has (allowed h) p ≡ true
are_out config mode h legal n p mine open_row = by_case (has (allowed h) p) refl
  where
    by_case : (b : Bool) → has (allowed h) p ≡ b → b ≡ true
    by_case true e = refl
    by_case false e = absurd (open_row (legal_ind_with config (AreOut config) (out_step config mode) (λ n p unlisted mine. absurd (false≢true mine)) h legal n p (sym (has_listed allows disallows allow_exclusive h p) ∙ e) mine))
