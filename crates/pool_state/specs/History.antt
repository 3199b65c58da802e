-- The sequential swarm (this project's profile): a history of calls with their replies, and what may be asked of it.
-- Each question searches the whole history anew; no table is kept.
use Rattle.std.specs.Prelude.{ℕ, ◌+◌, ◌==◌, Bool, true, false, not, ◌&&◌, ◌||◌, if◌then◌else◌, List, [], ◌∷◌, ◌++◌}
use Rattle.std.specs.Prelude.{length, Option, Some, None}
use Rattle.std.specs.List.{list_any, filter_map, count_by}
use Rattle.pool_state.specs.declared.call.Call.{Call}
use Rattle.pool_state.specs.declared.call.Call.TheVariants as call
use Rattle.pool_state.specs.declared.call.Reply.{Reply}
use Rattle.pool_state.specs.declared.call.Reply.TheVariants as reply
use Rattle.pool_state.specs.declared.limits.Config.{Config}
use Rattle.pool_state.specs.declared.row.Agent.{Agent}
use Rattle.pool_state.specs.declared.row.Phase.{Phase}
use Rattle.pool_state.specs.declared.row.Phase.TheVariants as phase
use Rattle.pool_state.specs.declared.row.ConnSide.{ConnSide}
use Rattle.pool_state.specs.declared.row.ConnSide.TheVariants as side
use Rattle.pool_state.specs.Parts.{Peer, is_peer}

-- A call of a caller, and what it was answered. A history is a list of these, the oldest first.
pub record Entry : Type 0 where
  pub caller : ℕ
  pub call : Call
  pub reply : Reply

abbrev pub entry : ℕ → Call → Reply → Entry
entry caller call reply = record { caller = caller; call = call; reply = reply }

-- WHAT ONE ENTRY DOES. A refused one does nothing: it is in no case below.

-- it admits connection n
abbrev pub begins : ℕ → Call → Reply → Bool
begins n c (reply.Conn m) = n == m
begins n c r = false

-- it admits connection n, and this end dialed
abbrev pub is_dialed : ℕ → Call → Reply → Bool
is_dialed n (call.Dial p) (reply.Conn m) = n == m
is_dialed n c r = false

-- connection n has ended
abbrev pub ends : ℕ → Call → Reply → Bool
ends n (call.Gone m) reply.Done = n == m
ends n c r = false

-- the peer that it names for connection n, expected by a Dial or proven by a Settle
abbrev pub peer_named : ℕ → Call → Reply → Option Peer
peer_named n (call.Dial p) (reply.Conn m) = if n == m then p else None
peer_named n (call.Settle m p) reply.Done = if n == m then Some p else None
peer_named n c r = None

-- it settles connection n
abbrev pub settles : ℕ → Call → Reply → Bool
settles n (call.Settle m p) reply.Done = n == m
settles n c r = false

-- it asks for a stream of protocol i on connection n
abbrev pub asks : ℕ → ℕ → Call → Reply → Bool
asks n i (call.Ask m j) reply.Done = n == m && i == j
asks n i c r = false

-- a stream of protocol i on connection n is done
abbrev pub finishes : ℕ → ℕ → Call → Reply → Bool
finishes n i (call.Done m j) reply.Done = n == m && i == j
finishes n i c r = false

-- the agent that it names for connection n
abbrev pub agent_noted : ℕ → Call → Reply → Option Agent
agent_noted n (call.Note m agent) reply.Done = if n == m then Some agent else None
agent_noted n c r = None

-- the peer whose connections it closes: by a Disallow only where none but allowed peers may connect
abbrev pub closes : Bool → Call → Reply → Option Peer
closes allow_only (call.HangUp p) (reply.Count k) = Some p
closes allow_only (call.Block p) (reply.Count k) = Some p
closes allow_only (call.Disallow p) (reply.Count k) = if allow_only then Some p else None
closes allow_only c r = None

-- the peer that it blocks, unblocks, allows, disallows
abbrev pub blocks : Call → Reply → Option Peer
blocks (call.Block p) (reply.Count k) = Some p
blocks c r = None

abbrev pub unblocks : Call → Reply → Option Peer
unblocks (call.Unblock p) (reply.Count k) = Some p
unblocks c r = None

abbrev pub allows : Call → Reply → Option Peer
allows (call.Allow p) (reply.Count k) = Some p
allows c r = None

abbrev pub disallows : Call → Reply → Option Peer
disallows (call.Disallow p) (reply.Count k) = Some p
disallows c r = None

-- it admits a connection
abbrev pub admits : Call → Reply → Bool
admits c (reply.Conn n) = true
admits c r = false

-- TWO WAYS TO SEARCH A HISTORY

-- some entry starts it, and no later one stops it
abbrev pub any_since : (Entry → Bool) → (Entry → Bool) → List Entry → Bool
any_since starts stops [] = false
any_since starts stops (e ∷ later) = (starts e && not (list_any stops later)) || any_since starts stops later

abbrev pub last_of : {X : Type 0} → List X → Option X
last_of [] = None
last_of (x ∷ []) = Some x
last_of (x ∷ y ∷ xs) = last_of (y ∷ xs)

-- WHAT MAY BE ASKED OF A CONNECTION

-- Connection n stands: it was admitted, and is not gone since.
abbrev pub stands : List Entry → ℕ → Bool
stands h n = any_since (λ e. begins n e.call e.reply) (λ e. ends n e.call e.reply) h

-- Its role: which end dialed.
abbrev pub role_of : List Entry → ℕ → ConnSide
role_of h n = if list_any (λ e. is_dialed n e.call e.reply) h then side.Dialer else side.Listener

-- Its peer: that of its Settle, else that of its Dial, else none.
abbrev pub peer_of : List Entry → ℕ → Option Peer
peer_of h n = last_of (filter_map (λ e. peer_named n e.call e.reply) h)

abbrev pub same_peer : Option Peer → Option Peer → Bool
same_peer None known = false
same_peer (Some p) known = is_peer p known

-- Some entry of `later` closes connections of the peer that n has at that place.
abbrev pub is_closed_after : Bool → List Entry → List Entry → ℕ → Bool
is_closed_after allow_only before [] n = false
is_closed_after allow_only before (e ∷ later) n =
    same_peer (closes allow_only e.call e.reply) (peer_of before n)
    || is_closed_after allow_only (before ++ e ∷ []) later n

abbrev pub is_closed : Bool → List Entry → ℕ → Bool
is_closed allow_only h n = is_closed_after allow_only [] h n

-- Its phase: Closing once its peer's connections were closed, else Live once it is settled, else Pending.
abbrev pub phase_of : Bool → List Entry → ℕ → Phase
phase_of allow_only h n =
    if is_closed allow_only h n then phase.Closing
    else if list_any (λ e. settles n e.call e.reply) h then phase.Live
    else phase.Pending

-- How many streams of protocol i were asked for on it, and how many are done.
abbrev pub asked : List Entry → ℕ → ℕ → ℕ
asked h n i = count_by (λ e. asks n i e.call e.reply) h

abbrev pub done : List Entry → ℕ → ℕ → ℕ
done h n i = count_by (λ e. finishes n i e.call e.reply) h

-- The agent that was last noted for it.
abbrev pub agent_of : List Entry → ℕ → Option Agent
agent_of h n = last_of (filter_map (λ e. agent_noted n e.call e.reply) h)

-- WHAT MAY BE ASKED OF A PEER

abbrev pub is_listed : (Call → Reply → Option Peer) → (Call → Reply → Option Peer) → List Entry → Peer
    → Bool
is_listed adds removes h p = any_since (λ e. is_peer p (adds e.call e.reply))
    (λ e. is_peer p (removes e.call e.reply)) h

-- Peer p is blocked: a Block of it, and no later Unblock.
abbrev pub is_blocked : List Entry → Peer → Bool
is_blocked h p = is_listed blocks unblocks h p

-- Peer p is allowed: an Allow of it, and no later Disallow.
abbrev pub is_allowed : List Entry → Peer → Bool
is_allowed h p = is_listed allows disallows h p

-- The peer that an entry adds, where it was not listed before and no later entry removes it.
abbrev pub comes_to_stay : (Call → Reply → Option Peer) → (Call → Reply → Option Peer) → List Entry
    → Option Peer → List Entry → Option Peer
comes_to_stay adds removes before None later = None
comes_to_stay adds removes before (Some p) later =
    if is_listed adds removes before p
    || list_any (λ e. is_peer p (removes e.call e.reply)) later then None else Some p

abbrev pub listed_after : (Call → Reply → Option Peer) → (Call → Reply → Option Peer) → List Entry
    → List Entry → List Peer
listed_after adds removes before [] = []
listed_after adds removes before (e ∷ later) =
    filter_map (λ o. o) (comes_to_stay adds removes before (adds e.call e.reply) later ∷ [])
    ++ listed_after adds removes (before ++ e ∷ []) later

-- The blocked peers, each at the place of the Block by which it came to be blocked and stayed so.
abbrev pub blocked : List Entry → List Peer
blocked h = listed_after blocks unblocks [] h

-- The allowed peers, each at the place of the Allow by which it came to be allowed and stayed so.
abbrev pub allowed : List Entry → List Peer
allowed h = listed_after allows disallows [] h

-- NUMBERS

-- How many connections were admitted.
abbrev pub admissions : List Entry → ℕ
admissions h = count_by (λ e. admits e.call e.reply) h

-- The next connection's number: no number is given twice.
abbrev pub next_number : Config → List Entry → ℕ
next_number config h = config.first_conn + admissions h

-- The front: where the history stands, which each entry moves by 1.
abbrev pub front_of : Config → List Entry → ℕ
front_of config h = config.first_front + length h
