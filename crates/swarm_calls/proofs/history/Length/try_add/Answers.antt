use Rattle.std.proofs.Common.{sym, ◌∙◌, ap}
use Rattle.swarm_calls.proofs.Adding.{adds_moves}
use Rattle.swarm_calls.proofs.history.Length.try_add.Goals as goal

pub compare_exchange-found-requires : goal.compare_exchange-found-requires
compare_exchange-found-requires c =
    let h = c.self.invariant in
    let offer = c.plain-offer.ensures in
    let pen = c.no_pen-pen.ensures in
    let same = ap (λ b. b.book) c.beginning.view_is ∙ (c.requires.book ∙ sym c.self.view_is) in (
      ap (λ w. w.tracked) h,
      same,
      pen.0 ∙ same,
      offer.0,
      rw (ap (λ w. w.key) h, pen.1, offer.1, offer.3) (adds_moves c.beginning.inside.seen.log c.args.entry.now c.args.count (ap (λ (f : Rattle.swarm_calls.specs.Steps.Beginning). Rattle.std.proofs.Common.length f.log) c.beginning.view_is ∙ sym c.requires.count)),
    )
