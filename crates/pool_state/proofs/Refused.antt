-- A refused call leaves the rows as they are.
use Rattle.std.proofs.Common.{◌≡◌, List}
use Rattle.std.proofs.lemmas.List.{map-id}
use Rattle.pool_state.specs.declared.call.Call.{Call}
use Rattle.pool_state.specs.declared.call.Call.TheVariants as call
use Rattle.pool_state.specs.declared.call.Reply.TheVariants.{Refused}
use Rattle.pool_state.specs.declared.call.Refusal.{Refusal}
use Rattle.pool_state.specs.declared.row.Row.{Row}
use Rattle.pool_state.specs.Added.{rows_after}

pub rows_refused : (c : Call) (why : Refusal) (rows : List Row) → rows_after c (Refused why) rows ≡ rows
rows_refused call.Accept why rows = map-id rows
rows_refused c why rows = map-id rows
