use Rattle.std.proofs.Common.{ℕ, List, ◌++◌, ◌∙◌, ap, length, drop, replicate}
use Rattle.std.proofs.lemmas.List.{drop-replicate}
use Rattle.pool_state.proofs.row.padded.Goals as goal

pub returns : goal.returns
returns c =
    let n : ℕ = length c.args.bytes.now in
    ap (λ (front : List ℕ). front ++ drop n (replicate 64 0)) c.copy_from_slice.ensures.after
    ∙ ap (λ (zeros : List ℕ). c.args.bytes.now ++ zeros) (drop-replicate n 64 0)
