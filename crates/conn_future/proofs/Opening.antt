-- Why no stream is opened.
use Rattle.std.proofs.Common.{ℕ, List, inr}
use Rattle.conn_log.specs.declared.event.ConnRefused.TheVariants as refusals
use Rattle.conn_core.specs.declared.connection.Phase.{Phase}
use Rattle.conn_core.specs.declared.connection.Phase.TheVariants as phases
use Rattle.conn_core.specs.Connects.{MayOpen, IsRefused}

-- where one may be opened, only memory can be wanting
pub opened_wants : {P H : Type 0} (listed : P → List (List ℕ)) (phase : Phase P H) (index : ℕ) → MayOpen listed phase index → IsRefused listed phase index refusals.OutOfMemory
opened_wants listed (phases.Upgrading x protocols) index may = absurd may
opened_wants listed (phases.Up mux) index may = inr may
opened_wants listed phases.Over index may = absurd may
opened_wants listed phases.Spent index may = absurd may
