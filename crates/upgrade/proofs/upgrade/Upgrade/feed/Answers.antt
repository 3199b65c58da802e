use Rattle.std.proofs.Common.{◌++◌, ◌≡◌, Ok, Err, None, Some, ap, ◌∙◌}
use Rattle.std.proofs.lemmas.Result.{err_from_is_err_and}
use Rattle.upgrade.specs.declared.fault.UpgradeFault.TheVariants.{OutOfMemory}
use Rattle.upgrade.specs.declared.stages.Next.TheVariants.{Waits, Up}
use Rattle.upgrade.proofs.Staying.{going_by}
use Rattle.upgrade.proofs.Telling.{fault_is, refused, only_whole, up_is, only_up_is, stood, upgrades_as, comes_as, next_is}
use Rattle.upgrade.proofs.upgrade.Upgrade.feed.Goals as goal

pub returns-in_err-stage-clause-only : goal.returns-in_err-stage-clause-only
returns-in_err-stage-clause-only c = λ input taken s known first outcome written comes.
    let p = err_from_is_err_and c.from_residual.result c.from_residual.ensures.1 in
    let role = c.self.inside.end.role in
    let own = c.self.inside.end.key in
    let piece = c.args.piece.now in
    let fault = c.in_err-stage.field-0.0 in
    let kept = taken ++ c.take_on.new.output.items in
    let ne = λ (e : fault ≡ OutOfMemory). known (p.1 ∙ ap refused (p.2 ∙ e)) in
    let l = c.in_err-stage.ensures.leads input taken (stood c.args.self.now _ c.replace-stage.result input taken c.self.view_is c.replace-stage.ensures.value s) in
    let there = comes_as c.args.self.now _ (input ++ piece) first outcome written c.self.view_is comes in
    rw (p.1, p.2) (only_whole role own (input ++ piece) first outcome (Err fault) written kept (λ u. u) (fault_is c.take_on.new.output.items role own input piece fault kept l ne) there)

pub returns-in-Waits-clause-upgrades : goal.returns-in-Waits-clause-upgrades
returns-in-Waits-clause-upgrades c = λ input taken s known.
    let role = c.self.inside.end.role in
    let own = c.self.inside.end.key in
    let piece = c.args.piece.now in
    let kept = taken ++ c.take_on.new.output.items in
    let l = c.in_ok-stage.ensures.leads input taken (stood c.args.self.now _ c.replace-stage.result input taken c.self.view_is c.replace-stage.ensures.value s) in
    let w = next_is c.take_on.new.output.items role own input piece kept c.in_ok-stage.field-0 (Waits c.in-Waits.stage) c.in-Waits.is l in
    upgrades_as c.args.self.now _ (input ++ piece) (Ok None) kept c.self.view_is (going_by c.in-Waits.stage role own (input ++ piece) kept w)

pub returns-in-Waits-clause-only : goal.returns-in-Waits-clause-only
returns-in-Waits-clause-only c = λ input taken s known first outcome written comes.
    let role = c.self.inside.end.role in
    let own = c.self.inside.end.key in
    let piece = c.args.piece.now in
    let kept = taken ++ c.take_on.new.output.items in
    let l = c.in_ok-stage.ensures.leads input taken (stood c.args.self.now _ c.replace-stage.result input taken c.self.view_is c.replace-stage.ensures.value s) in
    let w = next_is c.take_on.new.output.items role own input piece kept c.in_ok-stage.field-0 (Waits c.in-Waits.stage) c.in-Waits.is l in
    only_whole role own (input ++ piece) first outcome (Ok None) written kept (λ u. u) (going_by c.in-Waits.stage role own (input ++ piece) kept w)
    (comes_as c.args.self.now _ (input ++ piece) first outcome written c.self.view_is comes)

pub returns-in-Up-clause-upgrades : goal.returns-in-Up-clause-upgrades
returns-in-Up-clause-upgrades c = λ input taken s known.
    let role = c.self.inside.end.role in
    let own = c.self.inside.end.key in
    let piece = c.args.piece.now in
    let kept = taken ++ c.take_on.new.output.items in
    let l = c.in_ok-stage.ensures.leads input taken (stood c.args.self.now _ c.replace-stage.result input taken c.self.view_is c.replace-stage.ensures.value s) in
    let w = next_is c.take_on.new.output.items role own input piece kept c.in_ok-stage.field-0 (Up c.in-Up.left c.in-Up.proven) c.in-Up.is l in
    rw c.saturating_sub.ensures (upgrades_as c.args.self.now _ _ (Ok (Some c.in-Up.proven)) kept c.self.view_is (up_is c.take_on.new.output.items role own c.in-Up.proven input piece c.in-Up.left kept w))

pub returns-in-Up-clause-only : goal.returns-in-Up-clause-only
returns-in-Up-clause-only c = λ input taken s known first outcome written comes.
    let role = c.self.inside.end.role in
    let own = c.self.inside.end.key in
    let piece = c.args.piece.now in
    let kept = taken ++ c.take_on.new.output.items in
    let l = c.in_ok-stage.ensures.leads input taken (stood c.args.self.now _ c.replace-stage.result input taken c.self.view_is c.replace-stage.ensures.value s) in
    let w = next_is c.take_on.new.output.items role own input piece kept c.in_ok-stage.field-0 (Up c.in-Up.left c.in-Up.proven) c.in-Up.is l in
    rw c.saturating_sub.ensures (only_up_is c.take_on.new.output.items role own c.in-Up.proven input piece first c.in-Up.left outcome written kept w
    (comes_as c.args.self.now _ (input ++ piece) first outcome written c.self.view_is comes))
