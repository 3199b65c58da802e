use Rattle.std.proofs.Common.{◌≡◌, List, ap, subst}
use mathlib.Core.List.{IsPrefix}
use Rattle.pool_state.specs.History.{Entry}
use Rattle.swarm_calls.proofs.Calls.{calls_same, caller_within}
use Rattle.swarm_calls.specs.Calls.{Past}
use Rattle.swarm_calls.specs.declared.snapshot.Snapshot.{Snapshot}
use Rattle.swarm_calls.specs.Ledgers.{caller_of, amount_of}
use Rattle.swarm_calls.proofs.inside.Inside.show.Goals as goal

pub returns-clause-own : goal.returns-clause-own
returns-clause-own g c =
    let at = c.self.invariant.0 in
    let tally = c.pass.inside.tally in
    let h = c.self.inside.writer.desk.shown.value.beginning.log in
    let s = c.pass.inside.kept.beginning.log in
    let b : c.published-published.result.now.beginning.log ≡ h = ap (λ (x : Snapshot). x.beginning.log) c.published-published.ensures in
    let begins : IsPrefix s h = subst (λ (l : List Entry). IsPrefix s l) b c.compare.ensures in
    let same = calls_same (caller_of tally) (amount_of tally) c.self.inside.books h s at.books_are (caller_within tally) c.audit.ensures.amount c.pass.invariant.1 begins in
    rw (← ap (λ (p : Past). p.number) c.pass.view_is, ← ap (λ (p : Past). p.seen) c.pass.view_is, c.catch_up.ensures.whole, c.published-published.ensures) same
