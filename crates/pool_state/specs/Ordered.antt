-- What holds of the blocked and of the allowed peers of every history.
-- Source: This project's profile of a swarm: its two lists of peers.
use Rattle.std.specs.Prelude.{◌≡◌, Bool, not, List, ◌++◌, Option}
use Rattle.std.specs.List.{filter, list_any, IsDistinct}
use Rattle.std.specs.Str.{bytes_eq}
use Rattle.pool_state.specs.declared.call.Call.{Call}
use Rattle.pool_state.specs.declared.call.Reply.{Reply}
use Rattle.pool_state.specs.Parts.{Peer, is_peer}
use Rattle.pool_state.specs.History.{Entry}

-- no peer stands twice
abbrev pub IsEachOnce : List Peer → Type 0
IsEachOnce peers = IsDistinct bytes_eq peers

-- none of these entries removes the peer
abbrev pub is_left : (Call → Reply → Option Peer) → List Entry → Peer → Bool
is_left removes more p = not (list_any (λ e. is_peer p (removes e.call e.reply)) more)

-- After more entries, those of the listed peers that none of these removed stand in the order in which they stood, and
-- behind them the ones that came since.
abbrev pub KeepsOrder : (List Entry → List Peer) → (Call → Reply → Option Peer) → Type 0
KeepsOrder listed removes = (history more : List Entry)
    → (since : List Peer) × (listed (history ++ more) ≡ filter (is_left removes more) (listed history) ++ since)
