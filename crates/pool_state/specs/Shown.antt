-- What a history shows, what a call is answered after it, and which histories are legal (this project's profile).
use Rattle.std.specs.Prelude.{◌≡◌, ◌≢◌, ℕ, Bool, ◌&&◌, List, [], ◌∷◌, ◌++◌, map}
use Rattle.std.specs.List.{filter, range_with_len, count_by}
use Rattle.pool_state.specs.declared.call.Call.{Call}
use Rattle.pool_state.specs.declared.call.Reply.{Reply}
use Rattle.pool_state.specs.declared.call.Reply.TheVariants.{Refused}
use Rattle.pool_state.specs.declared.call.Refusal.TheVariants.{Spent}
use Rattle.pool_state.specs.declared.limits.Config.{Config}
use Rattle.pool_state.specs.declared.listing.Listing.{Listing}
use Rattle.pool_state.specs.declared.row.Row.{Row}
use Rattle.pool_state.specs.Parts.{Peer, listing, has}
use Rattle.pool_state.specs.Table.{reply_to, row_is}
use Rattle.pool_state.specs.History.{Entry, stands, role_of, peer_of, phase_of, asked, done, agent_of, blocked, allowed}
use Rattle.pool_state.specs.History.{is_blocked, is_allowed, admissions, next_number, front_of}

-- the row of connection n
abbrev pub row_of : Config → List Entry → ℕ → Row
row_of config h n = record {
  conn = n;
  role = role_of h n;
  phase = phase_of config.allow_only h n;
  peer = peer_of h n;
  asked = asked h n 0 ∷ asked h n 1 ∷ asked h n 2 ∷ [];
  done = done h n 0 ∷ done h n 1 ∷ done h n 2 ∷ [];
  agent = agent_of h n;
}

-- the numbers of the standing connections, among those that were given, rising
abbrev pub standing : Config → List Entry → List ℕ
standing config h = filter (stands h) (range_with_len config.first_conn (admissions h))

-- The listing of a history: its front, a row for each standing connection by rising number, and the blocked and the
-- allowed peers in the order in which these came.
abbrev pub Shown : Config → List Entry → Listing
Shown config h = listing (front_of config h) (map (row_of config h) (standing config h)) (blocked h) (allowed h)

-- What a call is answered after a history.
abbrev pub reply_after : Config → List Entry → Call → Reply
reply_after config h call = reply_to config (next_number config h) (Shown config h) call

-- A history is legal where each entry has the reply that its call is answered after the entries before it, and none is
-- Spent.
abbrev pub IsLegalAfter : Config → List Entry → List Entry → Type 0
IsLegalAfter config before [] = Unit {0}
IsLegalAfter config before (e ∷ later) = ((e.reply ≡ reply_after config before e.call)
    × (e.reply ≢ Refused Spent)) × IsLegalAfter config (before ++ e ∷ []) later

abbrev pub IsLegal : Config → List Entry → Type 0
IsLegal config h = IsLegalAfter config [] h

-- What the table asks of a listing is asked of the history: a test of the row of n is a test of connection n, which
-- stands; a count of rows is one of the standing connections; a listed peer is blocked, or allowed.
pub record ShowsHistory (config : Config) (h : List Entry) : Type 0 where
  pub row : (n : ℕ) (test : Row → Bool) → row_is (Shown config h).conns.items n test
      ≡ (stands h n && test (row_of config h n))
  pub count : (test : Row → Bool) → count_by test (Shown config h).conns.items
      ≡ count_by (λ n. test (row_of config h n)) (standing config h)
  pub blocked : (p : Peer) → has (Shown config h).blocked.items p ≡ is_blocked h p
  pub allowed : (p : Peer) → has (Shown config h).allowed.items p ≡ is_allowed h p
