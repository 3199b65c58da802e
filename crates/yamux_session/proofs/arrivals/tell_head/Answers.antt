use Rattle.std.proofs.Common.{cond, [], ◌∷◌, subst}
use Rattle.yamux_session.specs.Events.{Told}
use Rattle.yamux_session.specs.Arrives.{Tells}
use Rattle.yamux_session.proofs.Telling.{tells_head, no_data_then}
use Rattle.yamux_session.proofs.arrivals.tell_head.Goals as goal

pub returns-clause-ok : goal.returns-clause-ok
returns-clause-ok c =
    tells_head c.args.told.now.items _ _ _ _ c.args.header c.args.effect
    (subst (λ b. Tells c.args.told.now.items c.tell_if.new.told.items (cond b (Told.GoAway c.args.header.length ∷ []) [])) c.is_leaving.ensures c.in_ok-tell_if.ensures.ok)
    c.in_ok-tell_if-2.ensures.ok c.in_ok-tell_if-3.ensures.ok c.in_ok-tell_if-4.ensures.ok

pub returns-in_err-tell_if-3-clause-no_data : goal.returns-in_err-tell_if-3-clause-no_data
returns-in_err-tell_if-3-clause-no_data c =
    no_data_then c.args.told.now.items _ _ (no_data_then c.args.told.now.items _ _ c.in_ok-tell_if.ensures.no_data c.in_ok-tell_if-2.ensures.no_data) c.in_err-tell_if-3.ensures.no_data

pub returns-in_err-tell_if-4-clause-no_data : goal.returns-in_err-tell_if-4-clause-no_data
returns-in_err-tell_if-4-clause-no_data c =
    no_data_then c.args.told.now.items _ _
    (no_data_then c.args.told.now.items _ _ (no_data_then c.args.told.now.items _ _ c.in_ok-tell_if.ensures.no_data c.in_ok-tell_if-2.ensures.no_data) c.in_ok-tell_if-3.ensures.no_data)
    c.in_err-tell_if-4.ensures.no_data

pub returns-clause-no_data : goal.returns-clause-no_data
returns-clause-no_data c =
    no_data_then c.args.told.now.items _ _
    (no_data_then c.args.told.now.items _ _ (no_data_then c.args.told.now.items _ _ c.in_ok-tell_if.ensures.no_data c.in_ok-tell_if-2.ensures.no_data) c.in_ok-tell_if-3.ensures.no_data)
    c.in_ok-tell_if-4.ensures.no_data
