-- Worked rows of pools: worked runs of the program `node replay`, and each limit at its least and at its largest.
-- Source: this project's profile of a swarm.
use Rattle.std.specs.Prelude.{◌≡◌, ℕ, true, false, List, [], ◌∷◌, ◌++◌, map, replicate, codes, Option, Some, None}
use Rattle.std.specs.List.{range_with_len}
use Rattle.std.proofs.Common.{refl}
use Rattle.std.proofs.lemmas.Bool.{leb-true}
use Rattle.pool_state.specs.declared.call.Call.{Call}
use Rattle.pool_state.specs.declared.call.Call.TheVariants.{Dial, Accept, Settle, Ask, Done, HangUp, Block, Unblock}
use Rattle.pool_state.specs.declared.call.Call.TheVariants.{Gone, Allow, Disallow, Note}
use Rattle.pool_state.specs.declared.call.Reply.{Reply}
use Rattle.pool_state.specs.declared.call.Reply.TheVariants as reply
use Rattle.pool_state.specs.declared.call.Refusal.{Refusal}
use Rattle.pool_state.specs.declared.call.Refusal.TheVariants.{Spent, OutOfMemory, NoConn, Closing, NotPending, NotLive}
use Rattle.pool_state.specs.declared.call.Refusal.TheVariants.{BadProtocol, SelfPeer, Mismatch, Blocked, Full, PeerFull}
use Rattle.pool_state.specs.declared.call.Refusal.TheVariants.{StreamsFull, NothingAsked, BlockFull, IdsExhausted}
use Rattle.pool_state.specs.declared.call.Refusal.TheVariants.{SideFull, NotAllowed, AllowFull}
use Rattle.pool_state.specs.declared.limits.Config.{Config}
use Rattle.pool_state.specs.declared.limits.Limits.{Limits}
use Rattle.pool_state.specs.declared.listing.Listing.{Listing}
use Rattle.pool_state.specs.declared.row.Row.{Row}
use Rattle.pool_state.specs.declared.row.ConnSide.{ConnSide}
use Rattle.pool_state.specs.declared.row.ConnSide.TheVariants.{Dialer, Listener}
use Rattle.pool_state.specs.declared.row.Phase.{Phase}
use Rattle.pool_state.specs.declared.row.Phase.TheVariants as phase
use Rattle.pool_state.specs.AgentName.{IsAgentName}
use Rattle.pool_state.specs.Parts.{Peer, listing}
use Rattle.pool_state.specs.History.{Entry, entry}
use Rattle.pool_state.specs.Table.{reply_to, number_of}
use Rattle.pool_state.specs.Shown.{Shown, reply_after}
use Rattle.pool_state.specs.Ranges.{AreInRange}

abbrev pub own : Peer
own = 0 ∷ []

abbrev pub first : Peer
first = 1 ∷ []

abbrev pub second : Peer
second = 2 ∷ []

abbrev pub third : Peer
third = 3 ∷ []

-- the limits of `node replay` where no option names them
abbrev pub common : Limits
common = record {
  conns = 64;
  per_peer = 8;
  streams = 64;
  blocked = 64;
  inbound = 256;
  outbound = 256;
  allowed = 64;
  some_conns = leb-true 1 64 refl;
  few_conns = leb-true 64 256 refl;
  some_per_peer = leb-true 1 8 refl;
  few_per_peer = leb-true 8 8 refl;
  some_streams = leb-true 1 64 refl;
  few_streams = leb-true 64 64 refl;
  few_blocked = leb-true 64 64 refl;
  few_inbound = leb-true 256 256 refl;
  few_outbound = leb-true 256 256 refl;
  few_allowed = leb-true 64 64 refl;
}

-- each limit at its largest
abbrev pub widest : Limits
widest = record common { conns = 256; some_conns = leb-true 1 256 refl; few_conns = leb-true 256 256 refl }

-- two connections, one of each peer, one stream, one blocked peer
abbrev pub tight : Limits
tight = record common {
  conns = 2;
  per_peer = 1;
  streams = 1;
  blocked = 1;
  some_conns = leb-true 1 2 refl;
  few_conns = leb-true 2 256 refl;
  some_per_peer = leb-true 1 1 refl;
  few_per_peer = leb-true 1 8 refl;
  some_streams = leb-true 1 1 refl;
  few_streams = leb-true 1 64 refl;
  few_blocked = leb-true 1 64 refl;
}

-- one accepted connection, one allowed peer
abbrev pub one_accepted : Limits
one_accepted = record common {
  inbound = 1;
  allowed = 1;
  few_inbound = leb-true 1 256 refl;
  few_allowed = leb-true 1 64 refl;
}

abbrev pub with_limits : Limits → Config
with_limits limits = record { own = own; limits = limits; first_conn = 1; first_front = 0; allow_only = false }

-- a row of a connection on which no stream was asked for
abbrev pub row : ℕ → ConnSide → Phase → Option Peer → Row
row n s f p = record {
  conn = n;
  role = s;
  phase = f;
  peer = p;
  asked = 0 ∷ 0 ∷ 0 ∷ [];
  done = 0 ∷ 0 ∷ 0 ∷ [];
  agent = None;
}

abbrev pub refused : Refusal → Reply
refused w = reply.Refused w

abbrev pub history_of : List (Call × Reply) → List Entry
history_of steps = map (λ step. entry 1 step.0 step.1) steps

abbrev pub answers : Config → List Entry → List Entry → List Reply
answers config before [] = []
answers config before (e ∷ later) = reply_after config before e.call ∷ answers config (before ++ e ∷ []) later

-- Each call is answered with the reply beside it, and the listing at the end is this one.
pub record Play (config : Config) (steps : List (Call × Reply)) (shown : Listing) : Type 0 where
  pub replies : answers config [] (history_of steps) ≡ map (λ step. step.1) steps
  pub listing_is : Shown config (history_of steps) ≡ shown

-- so many rows of accepted connections, with the peer
abbrev pub rows : ℕ → Option Peer → List Row
rows count p = map (λ n. row n Listener phase.Pending p) (range_with_len 1 count)

-- a live connection, on which so many streams were asked for
abbrev pub busy : List ℕ → List Row
busy asked = record (row 1 Listener phase.Live (Some first)) { asked = asked } ∷ []

-- so many peers, none of which has a name above
abbrev pub crowd : ℕ → List Peer
crowd count = map (λ n. n ∷ []) (range_with_len 4 count)

-- the reply to a call under the largest limits, where these connections stand, and so many peers are blocked and allowed
abbrev pub reply_at : List Row → ℕ → Call → Reply
reply_at rows count call = reply_to (with_limits widest) 300 (listing 0 rows (crowd count) (crowd count)) call

pub record WorkedRows : Type 0 where
  -- Profile: worked runs of `node replay`. Where several refusals hold, the lowest number is answered.
  pub refusals_in_order : Play (with_limits tight)
      ((Dial (Some first), reply.Conn 1) ∷ (Dial (Some first), refused PeerFull) ∷ (Accept, reply.Conn 2)
      ∷ (Accept, refused Full) ∷ (Settle 2 first, refused PeerFull) ∷ (Settle 1 second, refused Mismatch)
      ∷ (Settle 1 first, reply.Done) ∷ (Settle 1 first, refused NotPending) ∷ (Ask 1 2, reply.Done)
      ∷ (Ask 1 2, refused StreamsFull) ∷ (Done 1 0, refused NothingAsked) ∷ (Done 1 2, reply.Done)
      ∷ (Ask 2 0, refused NotLive) ∷ (Block second, reply.Count 0) ∷ (Block third, refused BlockFull)
      ∷ (Block second, reply.Count 0) ∷ (Settle 2 second, refused Blocked) ∷ (HangUp first, reply.Count 1)
      ∷ (Ask 1 2, refused Closing) ∷ (Unblock second, reply.Count 1) ∷ (Gone 1, reply.Done)
      ∷ (Gone 1, refused NoConn) ∷ (Dial (Some own), refused SelfPeer) ∷ [])
      (listing 23 (row 2 Listener phase.Pending None ∷ []) [] [])
  pub block_closes_its_peer : Play (with_limits common)
      ((Dial (Some first), reply.Conn 1) ∷ (Accept, reply.Conn 2) ∷ (Block first, reply.Count 1)
      ∷ (Settle 1 first, refused Closing) ∷ (Settle 2 first, refused Blocked) ∷ (HangUp second, reply.Count 0)
      ∷ (HangUp own, refused SelfPeer) ∷ (Settle 2 second, reply.Done) ∷ (Ask 2 3, refused BadProtocol) ∷ [])
      (listing 9 (row 1 Dialer phase.Closing (Some first) ∷ row 2 Listener phase.Live (Some second) ∷ [])
      (first ∷ []) [])
  pub sides_and_allow_mode : Play (record (with_limits one_accepted) { allow_only = true })
      ((Accept, reply.Conn 1) ∷ (Accept, refused SideFull) ∷ (Dial (Some first), refused NotAllowed)
      ∷ (Allow first, reply.Count 1) ∷ (Allow first, reply.Count 0) ∷ (Allow second, refused AllowFull)
      ∷ (Dial (Some first), reply.Conn 2) ∷ (Settle 1 second, refused NotAllowed) ∷ (Settle 1 first, reply.Done)
      ∷ (Disallow first, reply.Count 2) ∷ (Settle 2 first, refused Closing) ∷ [])
      (listing 11 (row 1 Listener phase.Closing (Some first) ∷ row 2 Dialer phase.Closing (Some first) ∷ []) [] [])
  pub agent_of_a_live_connection : Play (with_limits common)
      ((Dial None, reply.Conn 1) ∷ (Note 1 (codes "x"), refused NotLive) ∷ (Settle 1 first, reply.Done)
      ∷ (Note 1 (codes "a b"), reply.Done) ∷ (Note 2 (codes "x"), refused NoConn) ∷ (HangUp first, reply.Count 1)
      ∷ (Note 1 (codes "y"), refused Closing) ∷ [])
      (listing 7 (record (row 1 Dialer phase.Closing (Some first)) { agent = Some (codes "a b") } ∷ []) [] [])
  pub front_before_the_last : Play (record (with_limits common) { first_front = 18446744073709551614 })
      ((Dial None, reply.Conn 1) ∷ [])
      (listing 18446744073709551615 (row 1 Dialer phase.Pending None ∷ []) [] [])
  pub spent_at_the_last_front : reply_after (record (with_limits common) { first_front = 18446744073709551614 })
      (entry 1 (Dial None) (reply.Conn 1) ∷ []) (Block first) ≡ refused Spent
  pub last_number : Play (record (with_limits common) { first_conn = 4294967295 })
      ((Accept, reply.Conn 4294967295) ∷ (Accept, refused IdsExhausted) ∷ [])
      (listing 2 (row 4294967295 Listener phase.Pending None ∷ []) [] [])
  -- Profile: each limit at its largest, with one place left, and with none.
  pub room_below_the_limits : (reply_at (rows 255 None) 0 Accept ≡ reply.Conn 300)
      × (reply_at (rows 7 (Some first)) 0 (Dial (Some first)) ≡ reply.Conn 300)
      × (reply_at (busy (60 ∷ 2 ∷ 1 ∷ [])) 0 (Ask 1 0) ≡ reply.Done)
      × (reply_at [] 63 (Block first) ≡ reply.Count 0) × (reply_at [] 63 (Allow first) ≡ reply.Count 1)
  pub full_at_the_limits : (reply_at (rows 256 None) 0 Accept ≡ refused Full)
      × (reply_at (rows 8 (Some first)) 0 (Dial (Some first)) ≡ refused PeerFull)
      × (reply_at (busy (60 ∷ 3 ∷ 1 ∷ [])) 0 (Ask 1 0) ≡ refused StreamsFull)
      × (reply_at [] 64 (Block first) ≡ refused BlockFull) × (reply_at [] 64 (Allow first) ≡ refused AllowFull)
  pub ranges_of_the_limits : AreInRange 1 1 1 0 0 0 0 × AreInRange 256 8 64 64 256 256 64
      × (¬ AreInRange 0 1 1 0 0 0 0) × (¬ AreInRange 1 0 1 0 0 0 0) × (¬ AreInRange 1 1 0 0 0 0 0)
      × (¬ AreInRange 257 8 64 64 256 256 64) × (¬ AreInRange 256 9 64 64 256 256 64)
      × (¬ AreInRange 256 8 65 64 256 256 64) × (¬ AreInRange 256 8 64 65 256 256 64)
      × (¬ AreInRange 256 8 64 64 257 256 64) × (¬ AreInRange 256 8 64 64 256 257 64)
      × (¬ AreInRange 256 8 64 64 256 256 65)
  pub names_of_agents : IsAgentName (32 ∷ 126 ∷ []) × IsAgentName (replicate 64 126) × (¬ IsAgentName [])
      × (¬ IsAgentName (replicate 65 126)) × (¬ IsAgentName (31 ∷ [])) × (¬ IsAgentName (127 ∷ []))
  pub refusal_numbers : map number_of (Spent ∷ OutOfMemory ∷ NoConn ∷ Closing ∷ NotPending ∷ NotLive ∷ BadProtocol
      ∷ SelfPeer ∷ Mismatch ∷ Blocked ∷ Full ∷ PeerFull ∷ StreamsFull ∷ NothingAsked ∷ BlockFull ∷ IdsExhausted
      ∷ SideFull ∷ NotAllowed ∷ AllowFull ∷ []) ≡ range_with_len 1 19
