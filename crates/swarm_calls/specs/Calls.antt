-- One legal history: what a caller has seen of it, and what the calls of a swarm do to that.
-- Source: This project's profile of a swarm that threads share.
use Rattle.std.specs.Prelude.{◌≡◌, ◌≤◌, ◌++◌, ◌∷◌, ◌⊎◌, ◌↔◌, ◌==◌, ℕ, zero, suc, true, List, [], length, All}
use Rattle.std.specs.List.{list_any}
use mathlib.Core.List.{IsPrefix}
use Rattle.pool_state.specs.declared.call.Call.{Call}
use Rattle.pool_state.specs.declared.call.Reply.{Reply}
use Rattle.pool_state.specs.declared.call.Reply.TheVariants.{Refused}
use Rattle.pool_state.specs.declared.call.Refusal.TheVariants.{Spent, OutOfMemory}
use Rattle.pool_state.specs.declared.limits.Config.{Config}
use Rattle.pool_state.specs.History.{Entry, entry, front_of}
use Rattle.pool_state.specs.Shown.{IsLegal}
use Rattle.swarm_calls.specs.History.{mine, IsOf, calls_of}

-- A pass: a caller's number, and the history that it has seen.
pub record Past : Type 0 where
  pub number : ℕ
  pub seen : List Entry

abbrev pub past : ℕ → List Entry → Past
past number seen = record { number = number; seen = seen }

-- The same caller has seen a legal history that begins with all that it had seen.
pub record Later (config : Config) (callers : ℕ) (old new : Past) : Type 0 where
  pub number : new.number ≡ old.number
  pub legal : IsLegal config new.seen
  pub begins : IsPrefix old.seen new.seen
  -- it has calls of the swarm's callers alone
  pub callers_are : IsOf callers new.seen

-- The caller's calls are what they were.
abbrev pub SameCalls : Past → Past → Type 0
SameCalls old new = mine old.number new.seen ≡ mine old.number old.seen

-- The call is the history's last entry, and it is one more of the caller's.
pub record IsMade (call : Call) (reply : Reply) (old new : Past) : Type 0 where
  pub before : List Entry
  pub last : new.seen ≡ before ++ entry old.number call reply ∷ []
  pub own : mine old.number new.seen ≡ mine old.number old.seen ++ entry old.number call reply ∷ []

-- The call entered no history: the front was at its end, or memory was refused.
abbrev pub IsTurnedAway : Reply → Type 0
IsTurnedAway reply = (reply ≡ Refused Spent) ⊎ (reply ≡ Refused OutOfMemory)

-- What a pool call does, by its reply.
pub record IsCalled (config : Config) (callers : ℕ) (call : Call) (old : Past) (reply : Reply) (new : Past) : Type 0
  where
    -- the pass has seen a legal history that begins with what it had seen
    pub later : Later config callers old new
    -- it ends with the call and its reply, and the caller's own calls grew by just that
    pub made : ¬ IsTurnedAway reply → IsMade call reply old new
    -- a call that is turned away is none of the caller's
    pub unmade : IsTurnedAway reply → SameCalls old new
    -- of the two it is Spent exactly where the front has reached its end
    pub spent : IsTurnedAway reply → ((reply ≡ Refused Spent)
        ↔ (front_of config new.seen ≡ 18446744073709551615))

-- There is a pass of each caller.
abbrev pub AllHere : ℕ → List Past → Type 0
AllHere callers passes = (caller : ℕ) → 1 ≤ caller → caller ≤ callers
    → list_any (λ p. p.number == caller) passes ≡ true

-- One legal history begins with what each pass has seen; of its caller it has just the calls that the pass has made,
-- and it has the calls of no others.
pub record IsWhole (config : Config) (callers : ℕ) (passes : List Past) (history : List Entry) : Type 0 where
  pub legal : IsLegal config history
  pub begins : All (λ p. IsPrefix p.seen history) passes
  pub own : All (λ p. mine p.number history ≡ mine p.number p.seen) passes
  pub callers_are : IsOf callers history
  -- its length is the sum of its callers' calls
  pub sum : length history ≡ calls_of callers history

-- Callers 1 to n, which have seen nothing.
abbrev pub newcomers : ℕ → List Past
newcomers zero = []
newcomers (suc n) = newcomers n ++ past (suc n) [] ∷ []
