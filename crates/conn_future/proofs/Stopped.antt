-- The stages at which no call of the link is made.
use Rattle.std.proofs.Common.{◌≡◌, ◌≢◌, false, refl}
use Rattle.conn_future.specs.declared.stage.Stage.{Stage}
use Rattle.conn_future.specs.declared.stage.Stage.TheVariants.{Going, Shutting, Starved, Over}
use Rattle.conn_future.specs.Stages.{is_live}

pub over_of : (stage : Stage) → is_live stage ≡ false → stage ≢ Starved → stage ≡ Over
over_of Going stopped other = absurd (cc stopped)
over_of Shutting stopped other = absurd (cc stopped)
over_of Starved stopped other = absurd (other refl)
over_of Over stopped other = refl
