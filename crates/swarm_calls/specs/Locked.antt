-- What lies under the lock agrees with the published history.
-- Inside: no public clause cites it.
use Rattle.std.specs.Prelude.{◌≡◌, ℕ, List}
use Rattle.logbook.specs.Pages.{Book}
use Rattle.pool_state.specs.declared.limits.Config.{Config}
use Rattle.pool_state.specs.declared.pool.Pool.{Pool}
use Rattle.pool_state.specs.At.{Stands}
use Rattle.swarm_calls.specs.declared.snapshot.Snapshot.{Snapshot}
use Rattle.swarm_calls.specs.Snapshots.{IsShown}
use Rattle.swarm_calls.specs.History.{Counts}

-- The pool is at the published history, whose length the word holds, and the ledgers' books count each caller's entries
-- there.
pub record IsLocked (book : Book) (config : Config) (callers : ℕ) (word : Book) (pool : Pool) (books : List ℕ)
    (published : Snapshot) : Type 0
  where
    pub word_is : word ≡ book
    pub shown : IsShown book config callers published
    pub pool_is : Stands config published.beginning.log pool
    pub books_are : Counts books published.beginning.log
