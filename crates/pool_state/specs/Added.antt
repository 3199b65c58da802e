-- A listing after one more entry of a call and its reply. It is total: a count that can grow no further and a table
-- that is full stay as they are, which no legal history meets (the law `added_is_shown`).
-- Source: This project's profile of a swarm.
use Rattle.std.specs.Prelude.{ℕ, ◌+◌, ◌-◌, ◌^◌, ◌==◌, nat_lt, not, if◌then◌else◌, List, [], ◌∷◌, ◌++◌, length, map}
use Rattle.std.specs.Prelude.{Option, Some, None, slice_index, slice_set}
use Rattle.std.specs.List.{filter}
use Rattle.std.specs.Str.{bytes_eq}
use Rattle.pool_state.specs.declared.call.Call.{Call}
use Rattle.pool_state.specs.declared.call.Call.TheVariants as call
use Rattle.pool_state.specs.declared.call.Reply.{Reply}
use Rattle.pool_state.specs.declared.call.Reply.TheVariants as reply
use Rattle.pool_state.specs.declared.listing.Listing.{Listing}
use Rattle.pool_state.specs.declared.row.Row.{Row}
use Rattle.pool_state.specs.declared.row.Phase.{Phase}
use Rattle.pool_state.specs.declared.row.Phase.TheVariants as phase
use Rattle.pool_state.specs.declared.row.ConnSide.{ConnSide}
use Rattle.pool_state.specs.declared.row.ConnSide.TheVariants as side
use Rattle.pool_state.specs.Parts.{Peer, listing, is_peer, has}
use Rattle.pool_state.specs.History.{blocks, unblocks, allows, disallows}

-- one more, of a number that may not grow past 2 ^ 64 - 1
abbrev pub more : ℕ → ℕ
more n = if nat_lt n (2 ^ 64 - 1) then n + 1 else n

abbrev pub more_at : List ℕ → ℕ → List ℕ
more_at xs i = slice_set xs i (more (slice_index xs i))

-- the row of a connection that was just admitted
abbrev pub fresh : ℕ → ConnSide → Option Peer → Row
fresh n s p = record {
  conn = n;
  role = s;
  phase = phase.Pending;
  peer = p;
  asked = 0 ∷ 0 ∷ 0 ∷ [];
  done = 0 ∷ 0
      ∷ 0 ∷ [];
  agent = None;
}

-- a phase after a Settle
abbrev pub settled : Phase → Phase
settled phase.Closing = phase.Closing
settled f = phase.Live

-- A row after one more entry. A Disallow that counts none closed none.
abbrev pub row_after : Call → Reply → Row → Row
row_after (call.Settle n p) reply.Done row = if row.conn == n then record row
    { phase = settled row.phase; peer = Some p } else row
row_after (call.Ask n i) reply.Done row = if row.conn == n then record row { asked = more_at row.asked i } else row
row_after (call.Done n i) reply.Done row = if row.conn == n then record row { done = more_at row.done i } else row
row_after (call.Note n agent) reply.Done row = if row.conn == n then record row { agent = Some agent } else row
row_after (call.HangUp p) (reply.Count k) row = if is_peer p row.peer then record row { phase = phase.Closing } else row
row_after (call.Block p) (reply.Count k) row = if is_peer p row.peer then record row { phase = phase.Closing } else row
row_after (call.Disallow p) (reply.Count k) row = if nat_lt 0 k then
    (if is_peer p row.peer then record row { phase = phase.Closing } else row) else row
row_after c r row = row

-- one more row, where the table has room
abbrev pub with_row : List Row → Row → List Row
with_row rows row = if nat_lt (length rows) 256 then rows ++ row ∷ [] else rows

-- the rows after one more entry
abbrev pub rows_after : Call → Reply → List Row → List Row
rows_after (call.Dial p) (reply.Conn n) rows = with_row rows (fresh n side.Dialer p)
rows_after call.Accept (reply.Conn n) rows = with_row rows (fresh n side.Listener None)
rows_after (call.Gone n) reply.Done rows = filter (λ row. not (row.conn == n)) rows
rows_after c r rows = map (row_after c r) rows

-- one more peer at the end, where it isn't there and the table has room
abbrev pub with_peer : List Peer → Peer → List Peer
with_peer peers p = if has peers p then peers else if nat_lt (length peers) 64 then peers ++ p ∷ [] else peers

abbrev pub without_peer : List Peer → Peer → List Peer
without_peer peers p = filter (λ q. not (bytes_eq p q)) peers

abbrev pub added_to : Option Peer → List Peer → List Peer
added_to None peers = peers
added_to (Some p) peers = with_peer peers p

abbrev pub removed_from : Option Peer → List Peer → List Peer
removed_from None peers = peers
removed_from (Some p) peers = without_peer peers p

-- the listing after one more entry
abbrev pub added : Listing → Call → Reply → Listing
added l c r = listing (more l.front) (rows_after c r l.conns.items)
    (removed_from (unblocks c r) (added_to (blocks c r) l.blocked.items))
    (removed_from (disallows c r) (added_to (allows c r) l.allowed.items))
