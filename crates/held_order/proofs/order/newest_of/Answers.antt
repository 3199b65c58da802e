use Rattle.std.proofs.Common.{◌≡◌, ◌-◌, ◌<◌, suc, ◌==◌, drop, length, arith, ap, ◌∙◌, subst}
use Rattle.std.specs.List.{AllByRecursion}
use Rattle.std.proofs.Math.Seq.{drop-cons}
use Rattle.conn_log.proofs.Views.{same}
use Rattle.held_order.proofs.Newest.{IsOther, last_goes, none_goes}
use Rattle.held_order.proofs.order.newest_of.Goals as goal

pub returns-then-oldest-at-clause-newest : goal.returns-then-oldest-at-clause-newest
returns-then-oldest-at-clause-newest c =
    let n = c.args.number in
    let oldest = c.args.oldest.now in
    let at = c.loop-at.at - 1 in
    let back : c.loop-at.at ≡ suc at = omega (arith, c.loop-at-test.true) in
    let inside : at < length oldest = omega (arith, c.loop-at-test.true, c.loop-at.invariant.within) in
    last_goes n _ at oldest (drop-cons oldest at 0 inside) (ap (λ k. k == n) c.if-oldest-at.true ∙ same n)
    (subst (λ k. AllByRecursion (IsOther n) (drop k oldest)) back c.loop-at.invariant.others)

pub returns-clause-newest : goal.returns-clause-newest
returns-clause-newest c =
    let none : c.loop-at.at ≡ 0 = omega (arith, c.loop-at-test.false) in
    none_goes c.args.number c.args.oldest.now (subst (λ k. AllByRecursion (IsOther c.args.number) (drop k c.args.oldest.now)) none c.loop-at.invariant.others)
