-- What is printed of replies and listings. Each line stands behind the text that it begins with.
-- Source: this project's profile, the output of `node replay` and of a node of `node run`.
use Rattle.std.specs.Prelude.{ℕ, List, [], ◌∷◌, ◌++◌, Option, Some, None, codes, decimal, flat_map, slice_index}
use Rattle.peer_ids.specs.Base32.{id_text}
use Rattle.pool_state.specs.Table.{number_of}
use Rattle.pool_state.specs.declared.call.Refusal.{Refusal}
use Rattle.pool_state.specs.declared.call.Refusal.TheVariants as refusal
use Rattle.pool_state.specs.declared.call.Reply.{Reply}
use Rattle.pool_state.specs.declared.call.Reply.TheVariants as reply
use Rattle.pool_state.specs.declared.listing.Listing.{Listing}
use Rattle.pool_state.specs.declared.row.ConnSide.{ConnSide}
use Rattle.pool_state.specs.declared.row.ConnSide.TheVariants as side
use Rattle.pool_state.specs.declared.row.Phase.{Phase}
use Rattle.pool_state.specs.declared.row.Phase.TheVariants as phase
use Rattle.pool_state.specs.declared.row.Row.{Row}

-- What the line begins with, a text, and a line feed.
abbrev pub line : List ℕ → List ℕ → List ℕ
line begin text = begin ++ (text ++ 10 ∷ [])

abbrev pub refusal_name : Refusal → List ℕ
refusal_name refusal.Spent = codes "Spent"
refusal_name refusal.OutOfMemory = codes "OutOfMemory"
refusal_name refusal.NoConn = codes "NoConn"
refusal_name refusal.Closing = codes "Closing"
refusal_name refusal.NotPending = codes "NotPending"
refusal_name refusal.NotLive = codes "NotLive"
refusal_name refusal.BadProtocol = codes "BadProtocol"
refusal_name refusal.SelfPeer = codes "SelfPeer"
refusal_name refusal.Mismatch = codes "Mismatch"
refusal_name refusal.Blocked = codes "Blocked"
refusal_name refusal.Full = codes "Full"
refusal_name refusal.PeerFull = codes "PeerFull"
refusal_name refusal.StreamsFull = codes "StreamsFull"
refusal_name refusal.NothingAsked = codes "NothingAsked"
refusal_name refusal.BlockFull = codes "BlockFull"
refusal_name refusal.IdsExhausted = codes "IdsExhausted"
refusal_name refusal.SideFull = codes "SideFull"
refusal_name refusal.NotAllowed = codes "NotAllowed"
refusal_name refusal.AllowFull = codes "AllowFull"

abbrev pub reply_text : Reply → List ℕ
reply_text (reply.Conn conn) = codes "conn " ++ decimal conn
reply_text reply.Done = codes "ok"
reply_text (reply.Count count) = codes "count " ++ decimal count
reply_text (reply.Refused refused) = codes "refused " ++ (decimal (number_of refused) ++ 32 ∷ refusal_name refused)

abbrev pub side_text : ConnSide → List ℕ
side_text side.Dialer = codes "dialer"
side_text side.Listener = codes "listener"

abbrev pub phase_text : Phase → List ℕ
phase_text phase.Pending = codes "pending"
phase_text phase.Live = codes "live"
phase_text phase.Closing = codes "closing"

-- The text of a peer's id, and a dash for none.
abbrev pub peer_text : Option (List ℕ) → List ℕ
peer_text None = codes "-"
peer_text (Some peer) = id_text peer

-- How many streams of a protocol were asked for, and how many of them are done; and of each of the three protocols.
abbrev pub count_text : List ℕ → List ℕ → ℕ → List ℕ
count_text asked done index = 32 ∷ (decimal (slice_index asked index) ++ 47 ∷ decimal (slice_index done index))

unfoldable pub counts_text : List ℕ → List ℕ → List ℕ
counts_text asked done = flat_map (count_text asked done) (0 ∷ 1 ∷ 2 ∷ [])

abbrev pub agent_text : Option (List ℕ) → List ℕ
agent_text None = []
agent_text (Some agent) = codes " agent " ++ agent

-- A connection: its number, side, phase and peer, the counts of its streams, and its agent.
unfoldable pub row_text : Row → List ℕ
row_text row = codes "conn " ++ (decimal row.conn ++ 32 ∷ (side_text row.role ++ 32 ∷ (phase_text row.phase
    ++ 32 ∷ (peer_text row.peer ++ (counts_text row.asked row.done ++ agent_text row.agent)))))

-- The front, the connections, the peers that are blocked and those that are allowed, and an end.
abbrev pub listing_text : List ℕ → Listing → List ℕ
listing_text begin listing = line begin (codes "front " ++ decimal listing.front)
    ++ (flat_map (λ row. line begin (row_text row)) listing.conns.items
    ++ (flat_map (λ peer. line begin (codes "blocked " ++ id_text peer)) listing.blocked.items
    ++ (flat_map (λ peer. line begin (codes "allowed " ++ id_text peer)) listing.allowed.items
    ++ line begin (codes "end"))))
