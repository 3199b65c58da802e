use Rattle.std.proofs.Common.{take, ◌++◌}
use Rattle.std.proofs.lemmas.Result.{err_from_is_err_and}
use Rattle.upgrade.specs.Upgrades.{side_of, plaintext}
use Rattle.upgrade.proofs.Leading.{greet_fails, greet_waits, message_refused, proving_begins, rest_leads}
use Rattle.upgrade.proofs.stages.greet.Goals as goal

pub returns-in_err-hear-clause-leads : goal.returns-in_err-hear-clause-leads
returns-in_err-hear-clause-leads c = λ input taken here.
    let p = err_from_is_err_and c.from_residual.result c.from_residual.ensures.1 in
    let role = c.args.end.now.role in
    let old = c.args.output.now.items in
    rw (p.1, p.2) (greet_fails role c.args.end.now.key c.hear.new.talk input c.args.piece.now taken old c.hear.new.output.items c.in_err-hear.field-0.0
    (c.in_err-hear.ensures.heard (side_of role plaintext) input (taken ++ old) here))

pub returns-in_err-exchange-in-Some-clause-leads : goal.returns-in_err-exchange-in-Some-clause-leads
returns-in_err-exchange-in-Some-clause-leads c = λ input taken here.
    let p = err_from_is_err_and c.from_residual-in_err-exchange-in-Some.result c.from_residual-in_err-exchange-in-Some.ensures.1 in
    let role = c.args.end.now.role in
    let old = c.args.output.now.items in
    rw (p.1, p.2) (message_refused role c.args.end.now.key c.hear.new.talk input c.args.piece.now taken old c.hear.new.output.items c.begin_exchange.new.output.items c.in_ok-hear.field-0 c.in-Some.used c.in-Some.is
    c.in_err-exchange-in-Some.ensures.refused (c.in_ok-hear.ensures.heard (side_of role plaintext) input (taken ++ old) here))

pub returns-in-None-clause-leads : goal.returns-in-None-clause-leads
returns-in-None-clause-leads c = λ input taken here.
    let role = c.args.end.now.role in
    let old = c.args.output.now.items in
    greet_waits role c.args.end.now.key c.hear.new.talk input c.args.piece.now taken old c.hear.new.output.items c.in_ok-hear.field-0 c.in-None.is (c.in_ok-hear.ensures.heard (side_of role plaintext) input (taken ++ old) here)

pub returns-in_ok-exchange-in-Some-clause-leads : goal.returns-in_ok-exchange-in-Some-clause-leads
returns-in_ok-exchange-in-Some-clause-leads c = λ input taken here.
    let role = c.args.end.now.role in
    let own = c.args.end.now.key in
    let old = c.args.output.now.items in
    let piece = c.args.piece.now in
    let used = c.in-Some.used in
    let fresh = c.in_ok-exchange-in-Some.ensures.fresh in
    let begun = proving_begins role own c.hear.new.talk c.in_ok-exchange-in-Some.exchange input piece taken old c.hear.new.output.items c.begin_exchange.new.output.items c.in_ok-hear.field-0 used c.in-Some.is
    c.in_ok-exchange-in-Some.ensures.written fresh.0 fresh.1 (c.in_ok-hear.ensures.heard (side_of role plaintext) input (taken ++ old) here) in
    rest_leads role own input piece c.behind.result.now used c.prove.result c.prove.new.output.items (taken ++ c.prove.new.output.items) c.behind.ensures (c.prove.ensures.leads (input ++ take used piece) taken begun)
