-- Where a pool stands.
-- Source: This project's profile of a swarm.
use Rattle.std.specs.Prelude.{◌≡◌, ℕ, ◌+◌, List}
use Rattle.pool_state.specs.declared.call.Call.{Call}
use Rattle.pool_state.specs.declared.call.Reply.{Reply}
use Rattle.pool_state.specs.declared.call.Reply.TheVariants.{Conn}
use Rattle.pool_state.specs.declared.limits.Config.{Config}
use Rattle.pool_state.specs.declared.pool.Pool.{Pool}
use Rattle.pool_state.specs.Added.{added}
use Rattle.pool_state.specs.History.{Entry, next_number}
use Rattle.pool_state.specs.Shown.{Shown, IsLegal}

-- A pool of this configuration is at a history: the history is legal, the pool shows its listing, and knows the number
-- that comes next.
pub record Stands (config : Config) (history : List Entry) (pool : Pool) : Type 0 where
  pub legal : IsLegal config history
  pub config_is : pool.config ≡ config
  pub listing_is : pool.listing ≡ Shown config history
  pub next_is : pool.next ≡ next_number config history

-- the next number after a reply
abbrev pub number_after : ℕ → Reply → ℕ
number_after next (Conn n) = n + 1
number_after next r = next

-- a pool behind one more call and its reply, whether it would give that reply or not
abbrev pub followed : Pool → Call → Reply → Pool
followed pool c r = record pool { next = number_after pool.next r; listing = added pool.listing c r }
