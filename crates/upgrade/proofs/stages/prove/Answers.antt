use Rattle.std.proofs.Common.{length, take, ◌++◌, ◌+◌, Err, sym, ap, ◌∙◌, subst}
use Rattle.std.specs.Prelude.{List, ℕ}
use Rattle.std.proofs.lemmas.Result.{err_from_is_err_and}
use Rattle.plaintext_x.specs.Exchange.{Exchanging, message_of, Stands as ExchangeStands}
use Rattle.upgrade.specs.declared.fault.UpgradeFault.TheVariants.{OutOfMemory}
use Rattle.upgrade.proofs.Leading.{leads_as, exchange_refuses, exchange_waits, unproven, proven_of, talk_refused, talk_begins, rest_leads}
use Rattle.upgrade.proofs.stages.prove.Goals as goal

pub returns-in_err-used-clause-leads : goal.returns-in_err-used-clause-leads
returns-in_err-used-clause-leads c = λ input taken here.
    let p = err_from_is_err_and c.from_residual.result c.from_residual.ensures.1 in
    let own = c.args.end.now.key in
    let h = c.in_err-used.ensures in
    let x = here.0.exchange in
    rw (p.1, p.2) (exchange_refuses c.args.end.now.role own input c.args.piece.now c.args.output.now.items (taken ++ c.args.output.now.items) c.in_err-used.field-0.0 here.0
    (h.fault here.1 own x (length x) (message_of own) here.2) (h.memory here.1 own x (length x) (message_of own) here.2))

pub returns-in_err-talk-in-Ok-clause-leads : goal.returns-in_err-talk-in-Ok-clause-leads
returns-in_err-talk-in-Ok-clause-leads c = λ input taken here.
    let p = err_from_is_err_and c.from_residual-in_err-talk-in-Ok.result c.from_residual-in_err-talk-in-Ok.ensures.1 in
    let role = c.args.end.now.role in
    let own = c.args.end.now.key in
    let piece = c.args.piece.now in
    let h = c.in_ok-used.ensures in
    let x = here.0.exchange in
    let refused = c.in_err-talk-in-Ok.ensures.refused in
    let key = c.in-Ok.proven in
    let proven = proven_of role own key input piece (taken ++ c.args.output.now.items) c.in_ok-used.used c.feed.new.self.answer here.0 c.in-Ok.ensures.proven h.within (h.outcome own x (length x) (message_of own) here.2) in
    rw (p.1, p.2, refused.0) (leads_as role own input piece (Err OutOfMemory) c.begin_talk.new.output.items (taken ++ c.begin_talk.new.output.items) (taken ++ c.args.output.now.items) (ap (λ (t : List ℕ). taken ++ t) refused.1)
    (talk_refused role own key input piece c.begin_talk.new.output.items (taken ++ c.args.output.now.items) c.in_ok-used.used proven))

pub returns-in_ok-talk-in-Ok-clause-leads : goal.returns-in_ok-talk-in-Ok-clause-leads
returns-in_ok-talk-in-Ok-clause-leads c = λ input taken here.
    let role = c.args.end.now.role in
    let own = c.args.end.now.key in
    let piece = c.args.piece.now in
    let used = c.in_ok-used.used in
    let h = c.in_ok-used.ensures in
    let x = here.0.exchange in
    let key = c.in-Ok.proven in
    let proven = proven_of role own key input piece (taken ++ c.args.output.now.items) used c.feed.new.self.answer here.0 c.in-Ok.ensures.proven h.within (h.outcome own x (length x) (message_of own) here.2) in
    let begun = talk_begins role own key c.in_ok-talk-in-Ok.talk (input ++ take used piece) taken c.args.output.now.items c.begin_talk.new.output.items proven c.in_ok-talk-in-Ok.ensures.fresh in
    rest_leads role own input piece c.behind.result.now used c.mux.result c.mux.new.output.items (taken ++ c.mux.new.output.items) c.behind.ensures (c.mux.ensures.leads role own (input ++ take used piece) taken begun)

pub returns-in-Err-clause-leads : goal.returns-in-Err-clause-leads
returns-in-Err-clause-leads c = λ input taken here.
    let own = c.args.end.now.key in
    let h = c.in_ok-used.ensures in
    let x = here.0.exchange in
    let back = c.in-Err.ensures.back in
    let same = ap (λ (e : Exchanging). e.answer) back in
    let none = same ∙ unproven c.feed.new.self.answer h.answer.1 (λ e. let wrong = c.in-Err.ensures.when.1 e in cc) in
    let stands = subst (λ (e : Exchanging). ExchangeStands own e (x ++ c.args.piece.now) (length x + c.in_ok-used.used) (message_of own)) (sym back) (h.stands own x (length x) (message_of own) here.2) in
    exchange_waits c.args.end.now.role own c.in-Err.exchange input c.args.piece.now (taken ++ c.args.output.now.items) (length x + c.in_ok-used.used) here.0 none stands
