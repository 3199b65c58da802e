-- What a swarm's history has of each caller. Legal histories and what they show are `pool_state`'s.
-- Source: This project's profile of a swarm that threads share.
use Rattle.std.specs.Prelude.{◌≡◌, ◌≤◌, ◌+◌, ◌-◌, ◌==◌, ℕ, zero, suc, List, length, slice_index, All}
use Rattle.std.specs.List.{filter}
use Rattle.pool_state.specs.History.{Entry}

-- the calls of one caller, in order
abbrev pub mine : ℕ → List Entry → List Entry
mine caller history = filter (λ e. e.caller == caller) history

-- each call is of a caller from 1 to this number
abbrev pub IsOf : ℕ → List Entry → Type 0
IsOf callers history = All (λ e. (1 ≤ e.caller) × (e.caller ≤ callers)) history

-- how many calls the callers from 1 to this number have made, added up
abbrev pub calls_of : ℕ → List Entry → ℕ
calls_of zero history = 0
calls_of (suc n) history = calls_of n history + length (mine (suc n) history)

-- the numbers are those of each caller's entries, from caller 1 on
pub record Counts (calls : List ℕ) (history : List Entry) : Type 0 where
  pub long : length calls ≡ 8
  pub each : (caller : ℕ) → 1 ≤ caller → caller ≤ 8 → slice_index calls (caller - 1)
      ≡ length (mine caller history)
