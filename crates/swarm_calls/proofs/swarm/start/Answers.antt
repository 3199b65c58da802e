use Rattle.std.proofs.Common.{◌≡◌, [], ◌∷◌, List, length, ap, sym, subst, ◌∙◌}
use Rattle.pool_state.specs.At.{Stands}
use Rattle.pool_state.specs.History.{Entry}
use Rattle.pool_state.specs.Shown.{Shown, IsLegal}
use Rattle.pool_state.specs.declared.limits.Config.{Config}
use Rattle.swarm_calls.specs.History.{Counts, IsOf}
use Rattle.swarm_calls.proofs.Legal.{counts_nil, of_nil}
use Rattle.swarm_calls.proofs.swarm.start.Goals as goal

pub returns-clause-shown : goal.returns-clause-shown
returns-clause-shown g c =
    let none : c.args.beginning.log ≡ [] = c.requires.empty in
    let at : Stands g.J.Identity.config [] c.new-pool.result = subst (λ (k : Config). Stands k [] c.new-pool.result) c.requires.config c.new-pool.ensures in
    record {
      book_is = c.requires.book;
      count_is = ap length (sym none);
      legal = subst (IsLegal g.J.Identity.config) (sym none) at.legal;
      listing_is = c.listing-listing.ensures g.J.Identity.config [] at ∙ ap (Shown g.J.Identity.config) (sym none);
      calls_are = subst (λ (h : List Entry). Counts (0 ∷ 0 ∷ 0 ∷ 0 ∷ 0 ∷ 0 ∷ 0 ∷ 0 ∷ []) h) (sym none) counts_nil;
      callers_are = subst (IsOf g.J.Identity.callers) (sym none) (of_nil g.J.Identity.callers);
      last_is = tt;
    }
