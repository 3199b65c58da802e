-- What every legal history keeps to, said of its listing.
-- Source: This project's profile of a swarm: its limits.
use Rattle.std.specs.Prelude.{◌≡◌, ◌≢◌, ℕ, ◌≤◌, Bool, true, List, length, map, slice_index, Some, All, Contains}
use Rattle.std.specs.List.Sorted.{IsStrictlyIncreasing}
use Rattle.pool_state.specs.declared.call.Refusal.{Refusal}
use Rattle.pool_state.specs.declared.limits.Config.{Config}
use Rattle.pool_state.specs.declared.listing.Listing.{Listing}
use Rattle.pool_state.specs.declared.row.ConnSide.TheVariants.{Dialer, Listener}
use Rattle.pool_state.specs.declared.row.Phase.TheVariants.{Closing}
use Rattle.pool_state.specs.Parts.{Peer}
use Rattle.pool_state.specs.Table.{open_streams, rows_of, rows_on, number_of}

-- A listing keeps to the limits.
pub record IsBounded (config : Config) (l : Listing) : Type 0 where
  pub conns : length l.conns.items ≤ config.limits.conns
  pub inbound : rows_on l.conns.items Listener ≤ config.limits.inbound
  pub outbound : rows_on l.conns.items Dialer ≤ config.limits.outbound
  pub per_peer : (p : Peer) → rows_of l.conns.items p ≤ config.limits.per_peer
  -- no more streams are done than were asked for, and not too many are open
  pub done : All (λ row. (i : ℕ) → slice_index row.done i ≤ slice_index row.asked i) l.conns.items
  pub streams : All (λ row. open_streams row ≤ config.limits.streams) l.conns.items
  pub blocked : length l.blocked.items ≤ config.limits.blocked
  pub allowed : length l.allowed.items ≤ config.limits.allowed
  -- a connection whose peer is blocked is closing
  pub blocked_close :
      All (λ row. (p : Peer) → row.peer ≡ Some p → Contains l.blocked.items p → row.phase ≡ Closing) l.conns.items
  -- where only allowed peers may connect, a connection that has a peer and isn't closing has an allowed one
  pub allowed_stay : config.allow_only ≡ true → All (λ row. (p : Peer) → row.peer ≡ Some p
      → row.phase ≢ Closing → Contains l.allowed.items p) l.conns.items
  -- rows stand by rising number, so no number stands twice
  pub rising : IsStrictlyIncreasing (map (λ row. row.conn) l.conns.items)

-- the refusals of a call in the order of their numbers
abbrev pub refusal_numbers : List (Refusal × Bool) → List ℕ
refusal_numbers refusals = map (λ refusal. number_of refusal.0) refusals
