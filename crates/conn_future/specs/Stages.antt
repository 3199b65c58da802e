-- How far a connection over a link is, and the sources at which it waits.
-- Source: this project's profile of a connection.
use Rattle.std.specs.Prelude.{◌≡◌, ◌≢◌, ◌⊎◌, ◌++◌, ℕ, Bool, true, false, List, []}
use Rattle.conn_link.specs.declared.link.Link.{Ghosts as LinkGhosts}
use Rattle.conn_future.specs.declared.stage.Stage.{Stage}
use Rattle.conn_future.specs.declared.stage.Stage.TheVariants.{Going, Shutting, Starved, Over}

-- a poll may make link calls
abbrev pub is_live : Stage → Bool
is_live Going = true
is_live Shutting = true
is_live Starved = false
is_live Over = false

-- A source at which it waits: for reading until the end of the input was read or shut was called, for writing where
-- output is left, and for shutting behind shut once none is.
abbrev pub WaitsAt : (reads_at writes_at shuts_at : ℕ → Type 0) → Stage → List ℕ → ℕ → Type 0
WaitsAt reads_at writes_at shuts_at Going unsent source =
    reads_at source ⊎ ((unsent ≢ []) × writes_at source)
WaitsAt reads_at writes_at shuts_at Shutting unsent source =
    ((unsent ≢ []) × writes_at source) ⊎ ((unsent ≡ []) × shuts_at source)
WaitsAt reads_at writes_at shuts_at Starved unsent source = ⊥
WaitsAt reads_at writes_at shuts_at Over unsent source = ⊥

-- behind shut
abbrev pub shut_stage : Stage → Stage
shut_stage Going = Shutting
shut_stage Shutting = Shutting
shut_stage Starved = Starved
shut_stage Over = Over

-- From one state of a link to another it gave some bytes, or a read has found the end of its input.
pub record Came {L : Type 0} (link : LinkGhosts L) (old new : L) : Type 0 where
  pub given : List ℕ
  pub took : List ℕ
  pub moved : link.moves old given took new
  pub some : (given ≢ []) ⊎ link.has_ended new

-- What a link goes through behind shut, from one state to another: it is read no more, takes a first part of the output
-- that is left, and is told to shut only once it took all of it.
pub record Drains {L : Type 0} (link : LinkGhosts L) (old : L) (left : List ℕ) (new : L) (rest : List ℕ) : Type 0 where
  pub took : List ℕ
  pub parts : left ≡ took ++ rest
  pub moved : link.moves old [] took new
  pub unshut : link.is_shut new → link.is_shut old ⊎ (rest ≡ [])
