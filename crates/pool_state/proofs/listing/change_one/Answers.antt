use Rattle.std.proofs.Common.{◌≡◌, ◌==◌, ◌∙◌, ℕ, false, ap, sym, slice_set, arith}
use Rattle.std.proofs.lemmas.Bool.Decides.{nat_tests}
use Rattle.std.proofs.lemmas.List.Edits.{map_over_more}
use Rattle.pool_state.specs.declared.row.Row.{Row}
use Rattle.pool_state.specs.Added.{row_after}
use Rattle.pool_state.proofs.listing.change_one.Goals as goal
use Rattle.pool_state.proofs.listing.change_one.Goals.{then-row-conn, else-row-conn}

differs : (a b : ℕ) → ¬ (a ≡ b) → (a == b) ≡ false
differs a b other = grind (arith, nat_tests, other)

pub loop-row-preserved : goal.loop-row-preserved
loop-row-preserved c =
    let f = λ (row : Row). row_after c.args.call.now c.args.reply.now row in
    let all = ap (λ (row : Row). slice_set c.loop-row.rows c.loop-row.row-index (f row)) (sym c.row-item.is)
    ∙ map_over_more f c.args.rows.now c.loop-row.rows c.loop-row.row-index c.row-item.result (omega arith) c.loop-row.invariant c.row-item.is in
    elim c.if-row-conn.branch [
      | then-row-conn w ↦ w.rows-is ∙ (ap (λ (row : Row). slice_set c.loop-row.rows c.loop-row.row-index row) w.follow.ensures ∙ all)
      | else-row-conn w ↦ w.rows-is ∙ (ap (λ (row : Row). slice_set c.loop-row.rows c.loop-row.row-index row) (sym (c.requires _ (differs _ _ w.if-row-conn.false))) ∙ all)
    ]
