-- What a listing is made of, and tests of its parts.
-- Source: This project's profile of a swarm: its listing.
use Rattle.std.specs.Prelude.{ℕ, Bool, true, false, not, List, Option, Some, None}
use Rattle.std.specs.List.{list_any}
use Rattle.std.specs.Str.{bytes_eq}
use Rattle.pool_state.specs.declared.row.Row.{Row}
use Rattle.pool_state.specs.declared.row.Phase.{Phase}
use Rattle.pool_state.specs.declared.row.Phase.TheVariants as phase
use Rattle.pool_state.specs.declared.row.ConnSide.{ConnSide}
use Rattle.pool_state.specs.declared.row.ConnSide.TheVariants as side
use Rattle.pool_state.specs.declared.listing.Listing.{Listing}

-- a peer, by the bytes of its id
abbrev pub Peer : Type 0
Peer = List ℕ

-- the listing of a front, rows, blocked peers and allowed peers
abbrev pub listing : ℕ → List Row → List Peer → List Peer → Listing
listing front rows blocked allowed = record {
  front = front;
  conns = record { items = rows };
  blocked = record
      { items = blocked };
  allowed = record { items = allowed };
}

-- this peer is there, and it is p
abbrev pub is_peer : Peer → Option Peer → Bool
is_peer p None = false
is_peer p (Some q) = bytes_eq q p

-- a peer is there, and it isn't p
abbrev pub is_other_peer : Peer → Option Peer → Bool
is_other_peer p None = false
is_other_peer p (Some q) = not (bytes_eq q p)

-- p is one of the peers
abbrev pub has : List Peer → Peer → Bool
has peers p = list_any (λ q. bytes_eq q p) peers

abbrev pub is_phase : Phase → Phase → Bool
is_phase phase.Pending phase.Pending = true
is_phase phase.Live phase.Live = true
is_phase phase.Closing phase.Closing = true
is_phase f g = false

abbrev pub is_side : ConnSide → ConnSide → Bool
is_side side.Dialer side.Dialer = true
is_side side.Listener side.Listener = true
is_side s t = false
