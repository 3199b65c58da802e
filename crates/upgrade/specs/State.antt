-- An upgrade as its owner sees it, and where it stands.
-- That it is told its input in pieces is this project's profile.
use Rattle.std.specs.Prelude.{ℕ, List, ◌++◌, take, Option, Some, None, Result, Ok, Err}
use Rattle.peer_ids.specs.Key.{Key}
use Rattle.upgrade.specs.declared.role.ConnRole.{ConnRole}
use Rattle.upgrade.specs.declared.fault.UpgradeFault.{UpgradeFault}
use Rattle.upgrade.specs.declared.stages.Stage.{Stage}
use Rattle.upgrade.specs.declared.upgrade.Progress.{Progress}
use Rattle.upgrade.specs.declared.upgrade.Progress.TheVariants.{Going, Up}
use Rattle.upgrade.specs.Stages.{StandsIn}

pub record Upgrading : Type 0 where
  pub role : ConnRole
  -- this end's key
  pub own : Key
  -- written, and not yet taken
  pub pending : List ℕ
  -- the part in which it is
  pub stage : Stage

-- The upgrade goes on, and has heard exactly this input, where `taken` is what was taken of its output. Once the
-- connection is up, and behind a fault, it stands nowhere.
abbrev pub Stands : Upgrading → List ℕ → List ℕ → Type 0
Stands x input taken = StandsIn x.stage x.role x.own input (taken ++ x.pending)

-- a fact of every input at which the upgrade stands
abbrev pub Whenever : Upgrading → (List ℕ → List ℕ → Type 0) → Type 0
Whenever x fact = (input : List ℕ) (taken : List ℕ) → Stands x input taken → fact input taken

-- ---- what was made of a piece

-- the bytes of the piece that are the upgrade's
abbrev pub used_of : Result Progress UpgradeFault → List ℕ → List ℕ
used_of (Ok Going) piece = piece
used_of (Ok (Up used key)) piece = take used piece
used_of (Err fault) piece = piece

abbrev pub outcome_of : Result Progress UpgradeFault → Result (Option Key) UpgradeFault
outcome_of (Ok Going) = Ok None
outcome_of (Ok (Up used key)) = Ok (Some key)
outcome_of (Err fault) = Err fault
