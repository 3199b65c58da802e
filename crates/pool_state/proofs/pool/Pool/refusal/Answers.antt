use Rattle.std.proofs.Common.{◌∙◌, ap}
use Rattle.pool_state.specs.Table.{first_that_holds}
use Rattle.pool_state.proofs.pool.Pool.refusal.Goals as goal

pub returns-in-Settle : goal.returns-in-Settle
returns-in-Settle c = rw c.in-Settle.is (c.first_that_holds-in-Settle.ensures ∙ ap first_that_holds c.settle_refusals.ensures)

pub returns-in-Note : goal.returns-in-Note
returns-in-Note c = rw c.in-Note.is (c.first_that_holds-in-Note.ensures ∙ ap first_that_holds (c.note_refusals.ensures c.in-Note.field-1))
