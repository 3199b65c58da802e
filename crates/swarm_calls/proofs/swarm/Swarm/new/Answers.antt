use Rattle.std.proofs.Common.{◌≡◌, [], rules, drop, ap, ◌∙◌, subst, sym}
use Rattle.swarm_calls.specs.declared.snapshot.Snapshot.{Snapshot}
use Rattle.swarm_calls.specs.Snapshots.{IsShown}
use Rattle.swarm_calls.proofs.Calls.{locked_nil}
use Rattle.swarm_calls.proofs.swarm.Swarm.new.Goals as goal

pub invariant_of-new : goal.invariant_of-new
invariant_of-new g c =
    let word : c.history.inside.length ≡ g.J.Identity.book = search rules in
    let same : c.in-Ok.writer.desk.shown.value ≡ c.start-pool.result.1 = search rules in
    let shown : IsShown g.J.Identity.book g.J.Identity.config g.J.Identity.callers c.in-Ok.writer.desk.shown.value = subst (IsShown g.J.Identity.book g.J.Identity.config g.J.Identity.callers) (sym same) c.start-pool.ensures.shown in
    let empty : c.in-Ok.writer.desk.shown.value.beginning.log ≡ [] = ap (λ (s : Snapshot). s.beginning.log) same ∙ c.start-pool.ensures.empty in
    let none : drop c.in-Ok.writer.behind c.in-Ok.writer.log.items ≡ [] = search rules in
    (rw c.open-books.ensures.books (locked_nil g.J.Identity.book g.J.Identity.config g.J.Identity.callers c.history.inside.length c.start-pool.result.0 c.in-Ok.writer.desk.shown.value word c.start-pool.ensures.pool shown empty), none)
