-- What a dial of each of two callers comes to.
-- Source: This project's profile of a swarm, as a caller of it.
use Rattle.std.specs.Prelude.{◌≡◌, ℕ, ◌+◌, List, [], ◌∷◌, ◌++◌, Some, ◌⊎◌}
use mathlib.Core.List.{IsPrefix}
use Rattle.pool_state.specs.declared.call.Call.{Call}
use Rattle.pool_state.specs.declared.call.Call.TheVariants.{Dial}
use Rattle.pool_state.specs.declared.call.Reply.{Reply}
use Rattle.pool_state.specs.declared.call.Reply.TheVariants.{Conn}
use Rattle.pool_state.specs.declared.limits.Config.{Config}
use Rattle.pool_state.specs.declared.listing.Listing.{Listing}
use Rattle.pool_state.specs.declared.row.ConnSide.TheVariants.{Dialer}
use Rattle.pool_state.specs.Parts.{Peer}
use Rattle.pool_state.specs.Added.{fresh}
use Rattle.pool_state.specs.History.{Entry, entry}
use Rattle.pool_state.specs.Shown.{Shown}
use Rattle.swarm_calls.specs.Calls.{Past}
use Rattle.swarm_calls.specs.History.{mine}

-- The one dial and then the other are all that is shown: connection n, to a, and connection m, to b.
pub record IsInOrder (config : Config) (shown : Listing) (n : ℕ) (a : Peer) (m : ℕ) (b : Peer) : Type 0 where
  pub one : n ≡ config.first_conn
  pub other : m ≡ config.first_conn + 1
  pub front : shown.front ≡ config.first_front + 2
  pub rows : shown.conns.items ≡ fresh n Dialer (Some a) ∷ fresh m Dialer (Some b) ∷ []
  pub blocked : shown.blocked.items ≡ []
  pub allowed : shown.allowed.items ≡ []

-- Both dials, and nothing else, are shown.
abbrev pub ShowsBoth : Config → Listing → ℕ → Peer → ℕ → Peer → Type 0
ShowsBoth config shown n a m b = IsInOrder config shown n a m b ⊎ IsInOrder config shown m b n a

-- This caller has made one call, this dial.
pub record HasDialed (caller : ℕ) (p : Past) (n : ℕ) (a : Peer) : Type 0 where
  pub number : p.number ≡ caller
  pub calls : mine caller p.seen ≡ entry caller (Dial (Some a)) (Conn n) ∷ []

-- The listing shows the history that the caller has seen since: it begins with what the caller had seen before the call,
-- and has the call with its reply.
pub record ShowsCall (config : Config) (call : Call) (reply : Reply) (old new : Past) (listing : Listing) : Type 0 where
  pub before : List Entry
  pub since : List Entry
  pub seen : new.seen ≡ before ++ entry old.number call reply ∷ since
  pub begins : IsPrefix old.seen new.seen
  pub shown : listing ≡ Shown config new.seen
