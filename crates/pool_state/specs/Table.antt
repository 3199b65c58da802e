-- The table of refusals and answers (this project's profile). The conditions are said of what a history shows, which
-- the law `table_asks_history` turns into questions of the history.
use Rattle.std.specs.Prelude.{ℕ, ◌+◌, ◌-◌, ◌^◌, ◌==◌, nat_le, Bool, true, not, ◌&&◌, if◌then◌else◌, List, Option, []}
use Rattle.std.specs.Prelude.{◌∷◌, length, Some, None, slice_index}
use Rattle.std.specs.List.{list_any, count_by}
use Rattle.std.specs.Str.{bytes_eq}
use Rattle.pool_state.specs.declared.call.Call.{Call}
use Rattle.pool_state.specs.declared.call.Call.TheVariants as call
use Rattle.pool_state.specs.declared.call.Reply.{Reply}
use Rattle.pool_state.specs.declared.call.Reply.TheVariants as reply
use Rattle.pool_state.specs.declared.call.Refusal.{Refusal}
use Rattle.pool_state.specs.declared.call.Refusal.TheVariants.{Spent, OutOfMemory, NoConn, Closing, NotPending, NotLive}
use Rattle.pool_state.specs.declared.call.Refusal.TheVariants.{BadProtocol, SelfPeer, Mismatch, Blocked, Full, PeerFull}
use Rattle.pool_state.specs.declared.call.Refusal.TheVariants.{StreamsFull, NothingAsked, BlockFull, IdsExhausted}
use Rattle.pool_state.specs.declared.call.Refusal.TheVariants.{SideFull, NotAllowed, AllowFull}
use Rattle.pool_state.specs.declared.limits.Config.{Config}
use Rattle.pool_state.specs.declared.listing.Listing.{Listing}
use Rattle.pool_state.specs.declared.row.Row.{Row}
use Rattle.pool_state.specs.declared.row.Phase.{Phase}
use Rattle.pool_state.specs.declared.row.Phase.TheVariants as phase
use Rattle.pool_state.specs.declared.row.ConnSide.{ConnSide}
use Rattle.pool_state.specs.declared.row.ConnSide.TheVariants as side
use Rattle.pool_state.specs.Parts.{Peer, is_peer, is_other_peer, is_phase, is_side, has}

-- THE CONDITIONS

-- the row of this number, which stands, passes the test
abbrev pub row_is : List Row → ℕ → (Row → Bool) → Bool
row_is rows n test = list_any (λ row. row.conn == n && test row) rows

-- connection n stands
abbrev pub has_conn : Listing → ℕ → Bool
has_conn l n = row_is l.conns.items n (λ row. true)

-- connection n is in this phase
abbrev pub has_phase : Listing → ℕ → Phase → Bool
has_phase l n f = row_is l.conns.items n (λ row. is_phase row.phase f)

-- connection n expects another peer than p
abbrev pub expects_another : Listing → ℕ → Peer → Bool
expects_another l n p = row_is l.conns.items n (λ row. is_other_peer p row.peer)

-- how many streams of a row are asked for and not yet done
abbrev pub open_streams : Row → ℕ
open_streams row = (slice_index row.asked 0 - slice_index row.done 0) +
    (slice_index row.asked 1 - slice_index row.done 1) + (slice_index row.asked 2 - slice_index row.done 2)

-- connection n has as many open streams as may be
abbrev pub is_busy : Config → Listing → ℕ → Bool
is_busy config l n = row_is l.conns.items n (λ row. nat_le config.limits.streams (open_streams row))

-- each stream of protocol i that connection n was asked for is done
abbrev pub is_idle : Listing → ℕ → ℕ → Bool
is_idle l n i = row_is l.conns.items n (λ row. slice_index row.asked i == slice_index row.done i)

-- as many connections stand as may
abbrev pub is_full : Config → Listing → Bool
is_full config l = nat_le config.limits.conns (length l.conns.items)

-- as many connections of the one side stand as may
abbrev pub rows_on : List Row → ConnSide → ℕ
rows_on rows s = count_by (λ row. is_side row.role s) rows

abbrev pub is_dialer_full : Config → Listing → Bool
is_dialer_full config l = nat_le config.limits.outbound (rows_on l.conns.items side.Dialer)

abbrev pub is_listener_full : Config → Listing → Bool
is_listener_full config l = nat_le config.limits.inbound (rows_on l.conns.items side.Listener)

-- as many connections have the peer, expected or proven, as may
abbrev pub rows_of : List Row → Peer → ℕ
rows_of rows p = count_by (λ row. is_peer p row.peer) rows

abbrev pub is_peer_full : Config → Listing → Peer → Bool
is_peer_full config l p = nat_le config.limits.per_peer (rows_of l.conns.items p)

-- the same without connection n: a connection that expects its peer already does not stand in its own way
abbrev pub others_of : List Row → ℕ → Peer → ℕ
others_of rows n p = count_by (λ row. not (row.conn == n) && is_peer p row.peer) rows

abbrev pub is_peer_full_beside : Config → Listing → ℕ → Peer → Bool
is_peer_full_beside config l n p = nat_le config.limits.per_peer (others_of l.conns.items n p)

-- the peer is this node itself
abbrev pub is_own : Config → Peer → Bool
is_own config p = bytes_eq config.own p

-- only allowed peers may connect, and p is none
abbrev pub is_kept_out : Config → Listing → Peer → Bool
is_kept_out config l p = config.allow_only && not (has l.allowed.items p)

-- a further peer, and the list is full
abbrev pub is_block_full : Config → Listing → Peer → Bool
is_block_full config l p = not (has l.blocked.items p) && nat_le config.limits.blocked (length l.blocked.items)

abbrev pub is_allow_full : Config → Listing → Peer → Bool
is_allow_full config l p = not (has l.allowed.items p) && nat_le config.limits.allowed (length l.allowed.items)

-- the next number is none that a connection may have
abbrev pub is_exhausted : ℕ → Bool
is_exhausted next = nat_le (2 ^ 32) next

-- there is no such protocol
abbrev pub is_bad_protocol : ℕ → Bool
is_bad_protocol i = nat_le 3 i

-- THE REFUSALS, by call: each with its condition, in the order of their numbers (the law `lowest_first`).
abbrev pub may_refuse : Config → ℕ → Listing → Call → List (Refusal × Bool)
may_refuse config next l (call.Dial None) =
    (Full, is_full config l)
    ∷ (IdsExhausted, is_exhausted next)
    ∷ (SideFull, is_dialer_full config l)
    ∷ []
may_refuse config next l (call.Dial (Some p)) =
    (SelfPeer, is_own config p)
    ∷ (Blocked, has l.blocked.items p)
    ∷ (Full, is_full config l)
    ∷ (PeerFull, is_peer_full config l p)
    ∷ (IdsExhausted, is_exhausted next)
    ∷ (SideFull, is_dialer_full config l)
    ∷ (NotAllowed, is_kept_out config l p)
    ∷ []
may_refuse config next l call.Accept =
    (Full, is_full config l)
    ∷ (IdsExhausted, is_exhausted next)
    ∷ (SideFull, is_listener_full config l)
    ∷ []
may_refuse config next l (call.Settle n p) =
    (NoConn, not (has_conn l n))
    ∷ (Closing, has_phase l n phase.Closing)
    ∷ (NotPending, has_phase l n phase.Live)
    ∷ (SelfPeer, is_own config p)
    ∷ (Mismatch, expects_another l n p)
    ∷ (Blocked, has l.blocked.items p)
    ∷ (PeerFull, is_peer_full_beside config l n p)
    ∷ (NotAllowed, is_kept_out config l p)
    ∷ []
may_refuse config next l (call.Ask n i) =
    (NoConn, not (has_conn l n))
    ∷ (Closing, has_phase l n phase.Closing)
    ∷ (NotLive, has_phase l n phase.Pending)
    ∷ (BadProtocol, is_bad_protocol i)
    ∷ (StreamsFull, is_busy config l n)
    ∷ []
may_refuse config next l (call.Done n i) =
    (NoConn, not (has_conn l n))
    ∷ (Closing, has_phase l n phase.Closing)
    ∷ (NotLive, has_phase l n phase.Pending)
    ∷ (BadProtocol, is_bad_protocol i)
    ∷ (NothingAsked, is_idle l n i)
    ∷ []
may_refuse config next l (call.Note n agent) =
    (NoConn, not (has_conn l n))
    ∷ (Closing, has_phase l n phase.Closing)
    ∷ (NotLive, has_phase l n phase.Pending)
    ∷ []
may_refuse config next l (call.Gone n) = (NoConn, not (has_conn l n)) ∷ []
may_refuse config next l (call.HangUp p) = (SelfPeer, is_own config p) ∷ []
may_refuse config next l (call.Block p) = (SelfPeer, is_own config p) ∷ (BlockFull, is_block_full config l p) ∷ []
may_refuse config next l (call.Unblock p) = (SelfPeer, is_own config p) ∷ []
may_refuse config next l (call.Allow p) = (SelfPeer, is_own config p) ∷ (AllowFull, is_allow_full config l p) ∷ []
may_refuse config next l (call.Disallow p) = (SelfPeer, is_own config p) ∷ []

-- THE ANSWERS of a call that nothing refuses

-- how many connections of a peer are not closing yet
abbrev pub closable : List Row → Peer → ℕ
closable rows p = count_by (λ row. is_peer p row.peer && not (is_phase row.phase phase.Closing)) rows

abbrev pub answer : Config → ℕ → Listing → Call → Reply
answer config next l (call.Dial p) = reply.Conn next
answer config next l call.Accept = reply.Conn next
answer config next l (call.HangUp p) = reply.Count (closable l.conns.items p)
answer config next l (call.Block p) = reply.Count (closable l.conns.items p)
answer config next l (call.Unblock p) = reply.Count (if has l.blocked.items p then 1 else 0)
answer config next l (call.Allow p) = reply.Count (if has l.allowed.items p then 0 else 1)
answer config next l (call.Disallow p) = reply.Count (if config.allow_only then closable l.conns.items p else 0)
answer config next l (call.Settle n p) = reply.Done
answer config next l (call.Ask n i) = reply.Done
answer config next l (call.Done n i) = reply.Done
answer config next l (call.Gone n) = reply.Done
answer config next l (call.Note n agent) = reply.Done

-- THE REPLY

abbrev pub first_that_holds : List (Refusal × Bool) → Option Refusal
first_that_holds [] = None
first_that_holds (r ∷ rs) = if r.1 then Some r.0 else first_that_holds rs

abbrev pub refused_or : Option Refusal → Reply → Reply
refused_or None r = r
refused_or (Some refusal) r = reply.Refused refusal

-- Spent at the last front, else the first refusal that holds, else the answer.
abbrev pub reply_to : Config → ℕ → Listing → Call → Reply
reply_to config next l c =
    if nat_le (2 ^ 64 - 1) l.front then reply.Refused Spent
    else refused_or (first_that_holds (may_refuse config next l c)) (answer config next l c)

-- the number of a refusal
abbrev pub number_of : Refusal → ℕ
number_of Spent = 1
number_of OutOfMemory = 2
number_of NoConn = 3
number_of Closing = 4
number_of NotPending = 5
number_of NotLive = 6
number_of BadProtocol = 7
number_of SelfPeer = 8
number_of Mismatch = 9
number_of Blocked = 10
number_of Full = 11
number_of PeerFull = 12
number_of StreamsFull = 13
number_of NothingAsked = 14
number_of BlockFull = 15
number_of IdsExhausted = 16
number_of SideFull = 17
number_of NotAllowed = 18
number_of AllowFull = 19
