-- A row whose peer is blocked is Closing.
use Rattle.std.proofs.Common.{◌≡◌, ◌∙◌, ◌⊎◌, inl, inr, ℕ, ◌==◌, Bool, true, false, not, ◌&&◌, ◌||◌, List, [], ◌∷◌, ◌++◌, Option, Some, None, refl, sym, ap, subst}
use Rattle.std.specs.Bool.{if◌then◌else◌}
use Rattle.std.specs.Str.{bytes_eq}
use Rattle.std.proofs.lemmas.Slice.Eq.{bytes_eq-Decides}
use Rattle.std.proofs.lemmas.Bool.{false≢true}
use Rattle.pool_state.specs.declared.call.Call.{Call}
use Rattle.pool_state.specs.declared.call.Call.TheVariants as call
use Rattle.pool_state.specs.declared.call.Reply.{Reply}
use Rattle.pool_state.specs.declared.call.Reply.TheVariants as reply
use Rattle.pool_state.specs.declared.call.Refusal.{Refusal}
use Rattle.pool_state.specs.declared.limits.Config.{Config}
use Rattle.pool_state.specs.declared.row.Row.{Row}
use Rattle.pool_state.specs.declared.row.Phase.{Phase}
use Rattle.pool_state.specs.declared.row.Phase.TheVariants as phase
use Rattle.pool_state.specs.Parts.{Peer, is_peer, has}
use Rattle.pool_state.specs.Table.{may_refuse}
use Rattle.pool_state.specs.History.{Entry, entry, next_number, blocks, unblocks, blocked, is_listed, closes, same_peer, settles, peer_named}
use Rattle.pool_state.specs.Shown.{row_of, IsLegal, Shown}
use Rattle.pool_state.proofs.Questions.{since_more, later_of}
use Rattle.pool_state.proofs.Rows.{next_row, next_phase, row_next}
use Rattle.pool_state.proofs.Listed.{has_listed}
use Rattle.pool_state.proofs.Legal.{IsNext, Counts, decided, none_holds, legal_ind_with}
use Rattle.pool_state.proofs.Law.{block_exclusive}

-- where the peer is blocked, the row is Closing
abbrev pub IsShut : List Entry → Row → Type 0
IsShut h row = (p : Peer) → is_listed blocks unblocks h p ≡ true → is_peer p row.peer ≡ true → row.phase ≡ phase.Closing

pub still_closing : (a b : Bool) (f : Phase) → f ≡ phase.Closing → next_phase a b f ≡ phase.Closing
still_closing true b f e = refl
still_closing false true f e = rw e refl
still_closing false false f e = e

-- an entry that names no peer for the row and blocks none
kept : (h : List Entry) (caller : ℕ) (allow : Bool) (c : Call) (r : Reply) (row : Row) → blocks c r ≡ None → peer_named row.conn c r ≡ None → IsShut h row → IsShut (h ++ entry caller c r ∷ []) (next_row allow c r row)
kept h caller allow c r row no_block no_peer shut p listed mine =
    still_closing (same_peer (closes allow c r) row.peer) (settles row.conn c r) row.phase (shut p (was (unblocks c r) refl) (sym (ap (λ (o : Option Peer). is_peer p (later_of o row.peer)) no_peer) ∙ mine))
  where
    since : is_listed blocks unblocks (h ++ entry caller c r ∷ []) p ≡ ((is_listed blocks unblocks h p && not (is_peer p (unblocks c r))) || is_peer p (blocks c r))
    since = since_more (λ (x : Entry). is_peer p (blocks x.call x.reply)) (λ (x : Entry). is_peer p (unblocks x.call x.reply)) h (entry caller c r)

    front : (a b : Bool) → ((a && b) || false) ≡ true → a ≡ true
    front true b e = refl
    front false b e = e

    was : (o : Option Peer) → unblocks c r ≡ o → is_listed blocks unblocks h p ≡ true
    was o e = front (is_listed blocks unblocks h p) (not (is_peer p (unblocks c r))) (sym (ap (λ (o : Option Peer). (is_listed blocks unblocks h p && not (is_peer p (unblocks c r))) || is_peer p o) no_block) ∙ (sym since ∙ listed))

none_blocked : (h : List Entry) (p : Peer) → has (blocked h) p ≡ false → is_listed blocks unblocks h p ≡ false
none_blocked h p e = sym (has_listed blocks unblocks block_exclusive h p) ∙ e

pub plain_and : (a : Bool) → ((a && true) || false) ≡ true → a ≡ true
plain_and true e = refl
plain_and false e = e

pub same_peers : (q p : Peer) → bytes_eq q p ≡ true → q ≡ p
same_peers q p h = (bytes_eq-Decides q p).0 h

-- an entry that names a peer for some row, and blocks none: the peer is not blocked
named : (h : List Entry) (caller : ℕ) (allow : Bool) (c : Call) (r : Reply) (row : Row) (b : Bool) (q : Peer) → blocks c r ≡ None → unblocks c r ≡ None → peer_named row.conn c r ≡ (if b then Some q else None) → is_listed blocks unblocks h q ≡ false → IsShut h row → IsShut (h ++ entry caller c r ∷ []) (next_row allow c r row)
named h caller allow c r row false q no_block no_unblock is free shut p listed mine = kept h caller allow c r row no_block is shut p listed mine
named h caller allow c r row true q no_block no_unblock is free shut p listed mine =
    let same : bytes_eq q p ≡ true = sym (ap (λ (o : Option Peer). is_peer p (later_of o row.peer)) is) ∙ mine in
    absurd (false≢true (sym free ∙ (ap (λ (z : Peer). is_listed blocks unblocks h z) (same_peers q p same) ∙ was)))
  where
    since : is_listed blocks unblocks (h ++ entry caller c r ∷ []) p ≡ ((is_listed blocks unblocks h p && not (is_peer p (unblocks c r))) || is_peer p (blocks c r))
    since = since_more (λ (x : Entry). is_peer p (blocks x.call x.reply)) (λ (x : Entry). is_peer p (unblocks x.call x.reply)) h (entry caller c r)

    was : is_listed blocks unblocks h p ≡ true
    was = plain_and (is_listed blocks unblocks h p)
        (sym (ap (λ (o : Option Peer). (is_listed blocks unblocks h p && not (is_peer p o)) || false) no_unblock)
        ∙ (sym (ap (λ (o : Option Peer). (is_listed blocks unblocks h p && not (is_peer p (unblocks c r))) || is_peer p o) no_block) ∙ (sym since ∙ listed)))

-- a Block closes the rows of its peer
blocking : (h : List Entry) (caller : ℕ) (allow : Bool) (q : Peer) (k : ℕ) (row : Row) → IsShut h row → IsShut (h ++ entry caller (call.Block q) (reply.Count k) ∷ []) (next_row allow (call.Block q) (reply.Count k) row)
blocking h caller allow q k row shut p listed mine = step (bytes_eq q p) refl
  where
    since : is_listed blocks unblocks (h ++ entry caller (call.Block q) (reply.Count k) ∷ []) p ≡ ((is_listed blocks unblocks h p && true) || bytes_eq q p)
    since = since_more (λ (x : Entry). is_peer p (blocks x.call x.reply)) (λ (x : Entry). is_peer p (unblocks x.call x.reply)) h (entry caller (call.Block q) (reply.Count k))

    step : (b : Bool) → bytes_eq q p ≡ b → next_phase (is_peer q row.peer) false row.phase ≡ phase.Closing
    step true e = ap (λ b. next_phase b false row.phase) (ap (λ (z : Peer). is_peer z row.peer) (same_peers q p e) ∙ mine)
    step false e = still_closing (is_peer q row.peer) false row.phase (shut p (plain_and (is_listed blocks unblocks h p) (sym (ap (λ b. (is_listed blocks unblocks h p && true) || b) e) ∙ (sym since ∙ listed))) mine)

refused_shut : (h : List Entry) (caller : ℕ) (allow : Bool) (c : Call) (w : Refusal) (row : Row) → IsShut h row → IsShut (h ++ entry caller c (reply.Refused w) ∷ []) (next_row allow c (reply.Refused w) row)
refused_shut h caller allow (call.Dial o) w row shut = kept h caller allow (call.Dial o) (reply.Refused w) row refl refl shut
refused_shut h caller allow call.Accept w row shut = kept h caller allow call.Accept (reply.Refused w) row refl refl shut
refused_shut h caller allow (call.Settle m q) w row shut = kept h caller allow (call.Settle m q) (reply.Refused w) row refl refl shut
refused_shut h caller allow (call.Ask m i) w row shut = kept h caller allow (call.Ask m i) (reply.Refused w) row refl refl shut
refused_shut h caller allow (call.Done m i) w row shut = kept h caller allow (call.Done m i) (reply.Refused w) row refl refl shut
refused_shut h caller allow (call.HangUp q) w row shut = kept h caller allow (call.HangUp q) (reply.Refused w) row refl refl shut
refused_shut h caller allow (call.Block q) w row shut = kept h caller allow (call.Block q) (reply.Refused w) row refl refl shut
refused_shut h caller allow (call.Unblock q) w row shut = kept h caller allow (call.Unblock q) (reply.Refused w) row refl refl shut
refused_shut h caller allow (call.Gone m) w row shut = kept h caller allow (call.Gone m) (reply.Refused w) row refl refl shut
refused_shut h caller allow (call.Allow q) w row shut = kept h caller allow (call.Allow q) (reply.Refused w) row refl refl shut
refused_shut h caller allow (call.Disallow q) w row shut = kept h caller allow (call.Disallow q) (reply.Refused w) row refl refl shut
refused_shut h caller allow (call.Note m a) w row shut = kept h caller allow (call.Note m a) (reply.Refused w) row refl refl shut

counted_shut : (config : Config) (h : List Entry) (caller : ℕ) (c : Call) (r : Reply) → Counts config h c r → (n : ℕ) → IsShut h (row_of config h n) → IsShut (h ++ entry caller c r ∷ []) (next_row config.allow_only c r (row_of config h n))
counted_shut config h caller (call.Dial None) r k n shut = rw k.answered (kept h caller config.allow_only (call.Dial None) (reply.Conn (next_number config h)) (row_of config h n) refl (no_name (n == next_number config h)) shut)
  where
    no_name : (b : Bool) → ◌≡◌ {A = Option Peer} (if b then None else None) None
    no_name true = refl
    no_name false = refl
counted_shut config h caller (call.Dial (Some q)) r k n shut =
    let f = none_holds (may_refuse config (next_number config h) (Shown config h) (call.Dial (Some q))) k.none in
    rw k.answered (named h caller config.allow_only (call.Dial (Some q)) (reply.Conn (next_number config h)) (row_of config h n) (n == next_number config h) q refl refl refl (none_blocked h q f.1.0) shut)
counted_shut config h caller (call.Settle m q) r k n shut =
    let f = none_holds (may_refuse config (next_number config h) (Shown config h) (call.Settle m q)) k.none in
    rw k.answered (named h caller config.allow_only (call.Settle m q) reply.Done (row_of config h n) (n == m) q refl refl refl (none_blocked h q f.1.1.1.1.1.0) shut)
counted_shut config h caller (call.Block q) r k n shut = rw k.answered (blocking h caller config.allow_only q _ (row_of config h n) shut)
counted_shut config h caller call.Accept r k n shut = rw k.answered (kept h caller config.allow_only call.Accept (reply.Conn (next_number config h)) (row_of config h n) refl refl shut)
counted_shut config h caller (call.Ask m i) r k n shut = rw k.answered (kept h caller config.allow_only (call.Ask m i) reply.Done (row_of config h n) refl refl shut)
counted_shut config h caller (call.Done m i) r k n shut = rw k.answered (kept h caller config.allow_only (call.Done m i) reply.Done (row_of config h n) refl refl shut)
counted_shut config h caller (call.Gone m) r k n shut = rw k.answered (kept h caller config.allow_only (call.Gone m) reply.Done (row_of config h n) refl refl shut)
counted_shut config h caller (call.Note m a) r k n shut = rw k.answered (kept h caller config.allow_only (call.Note m a) reply.Done (row_of config h n) refl refl shut)
counted_shut config h caller (call.HangUp q) r k n shut = subst (λ (r : Reply). IsShut (h ++ entry caller (call.HangUp q) r ∷ []) (next_row config.allow_only (call.HangUp q) r (row_of config h n))) (sym k.answered) (kept h caller config.allow_only (call.HangUp q) (reply.Count _) (row_of config h n) refl refl shut)
counted_shut config h caller (call.Unblock q) r k n shut = subst (λ (r : Reply). IsShut (h ++ entry caller (call.Unblock q) r ∷ []) (next_row config.allow_only (call.Unblock q) r (row_of config h n))) (sym k.answered) (kept h caller config.allow_only (call.Unblock q) (reply.Count _) (row_of config h n) refl refl shut)
counted_shut config h caller (call.Allow q) r k n shut = subst (λ (r : Reply). IsShut (h ++ entry caller (call.Allow q) r ∷ []) (next_row config.allow_only (call.Allow q) r (row_of config h n))) (sym k.answered) (kept h caller config.allow_only (call.Allow q) (reply.Count _) (row_of config h n) refl refl shut)
counted_shut config h caller (call.Disallow q) r k n shut = subst (λ (r : Reply). IsShut (h ++ entry caller (call.Disallow q) r ∷ []) (next_row config.allow_only (call.Disallow q) r (row_of config h n))) (sym k.answered) (kept h caller config.allow_only (call.Disallow q) (reply.Count _) (row_of config h n) refl refl shut)

abbrev pub AreShut : Config → List Entry → Type 0
AreShut config h = (n : ℕ) → IsShut h (row_of config h n)

shut_step : (config : Config) (h : List Entry) (e : Entry) → IsLegal config h → IsNext config h e.call e.reply → AreShut config h → AreShut config (h ++ e ∷ [])
shut_step config h e legal next shut n =
    subst (λ (x : Row). IsShut (h ++ e ∷ []) x) (sym (row_next config h n e.caller e.call e.reply)) (by_case (decided config h e.call e.reply next).1)
  where
    by_case : (((w : Refusal) × (e.reply ≡ reply.Refused w)) ⊎ Counts config h e.call e.reply) → IsShut (h ++ e ∷ []) (next_row config.allow_only e.call e.reply (row_of config h n))
    by_case (inl w) = subst (λ (r : Reply). IsShut (h ++ entry e.caller e.call r ∷ []) (next_row config.allow_only e.call r (row_of config h n))) (sym w.1) (refused_shut h e.caller config.allow_only e.call w.0 (row_of config h n) (shut n))
    by_case (inr k) = counted_shut config h e.caller e.call e.reply k n (shut n)

pub are_shut : (config : Config) (h : List Entry) → IsLegal config h → (n : ℕ) (p : Peer) → has (blocked h) p ≡ true → is_peer p (row_of config h n).peer ≡ true → (row_of config h n).phase ≡ phase.Closing
are_shut config h legal n p listed mine = legal_ind_with config (AreShut config) (shut_step config) (λ n p listed mine. absurd (false≢true listed)) h legal n p (sym (has_listed blocks unblocks block_exclusive h p) ∙ listed) mine
