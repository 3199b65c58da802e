use Rattle.std.proofs.Common.{◌≡◌, ℕ, List, [], ◌∷◌, ◌++◌, Some, None, Ok, Err, refl, sym, ap, ◌∙◌, subst}
use Rattle.peer_ids.specs.Key.{Key}
use Rattle.upgrade.specs.declared.role.ConnRole.{ConnRole}
use Rattle.upgrade.specs.declared.fault.UpgradeFault.TheVariants as faults
use Rattle.upgrade.specs.declared.upgrade.Progress.{Progress}
use Rattle.upgrade.specs.Upgrades.{Upgrades, RunsOut}
use Rattle.upgrade.specs.State.{used_of, outcome_of}
use Rattle.conn_log.specs.declared.event.ConnEvent.{ConnEvent}
use Rattle.conn_log.specs.declared.event.ConnEvent.TheVariants as event
use Rattle.conn_core.specs.Connects.{told_of}
use Rattle.conn_core.specs.Wanting.{Wrote}
use Rattle.conn_core.specs.Wanting.Wrote.{Later}
use Rattle.conn_core.proofs.Coming.{comes_up, upgrade_failed}
use Rattle.conn_core.proofs.Growing.{stays}
use Rattle.conn_core.proofs.Waiting.{on_err, grows_on}
use Rattle.conn_core.proofs.Wanting.{wrote_failed}
use Rattle.conn_core.proofs.connection.bring_up.Goals as goal

pub returns-in-Ok-Up-clause-goes : goal.returns-in-Ok-Up-clause-goes
returns-in-Ok-Up-clause-goes g c = λ own start input taken coming none_waits none_told.
    let H = g.P.H.Handler in
    let makes = g.P.Protocols in
    let role = c.args.role in
    let by_feed = subst (λ (x : Progress). Upgrades c.args.upgrade.role c.args.upgrade.own (input ++ used_of (Ok x) c.deref.result.now) (outcome_of (Ok x)) (taken ++ c.feed.new.self.pending))
    c.in-Ok-Up.field-0-is (c.in-Ok-Up.ensures.upgrades input taken coming.stands (λ e. absurd (cc e))) in
    let up = comes_up H.steps H.fails H.is_closed H.is_finished makes.makes_inbound makes.makes_outbound makes.listed makes.is_eager makes.leads_inbound makes.leads_outbound start role own
    c.args.upgrade c.args.protocols c.new-mux.result c.in-Ok-Up.proven input taken c.args.piece.now c.deref.result.now c.feed.new.self.pending c.last_output.result.items c.in-Ok-Up.used c.peer.result c.session_role.result
    coming c.deref.ensures c.last_output.ensures.output by_feed c.session_role.ensures c.peer.ensures
    c.new-mux.ensures.protocols c.new-mux.ensures.role c.new-mux.ensures.peer c.new-mux.ensures.order c.new-mux.ensures.fresh in
    c.come_up.ensures.goes role own start input taken up none_told

pub returns-in-Ok-clause-goes : goal.returns-in-Ok-clause-goes
returns-in-Ok-clause-goes g c = λ own start input taken coming none_waits none_told.
    let H = g.P.H.Handler in
    let makes = g.P.Protocols in
    let role = c.args.role in
    let piece = c.args.piece.now in
    let why = c.in-Err.fault in
    let pending = c.feed.new.self.pending in
    let it = c.in-Ok.ensures.told in
    let by_feed = c.in-Err.ensures.upgrades input taken coming.stands (λ e. absurd (let none : None ≡ Some it.0 = sym (ap told_of (let same : why ≡ faults.OutOfMemory = cc e in same)) ∙ it.1 in cc none)) in
    let by_piece = subst (λ (t : List ℕ). Upgrades c.args.upgrade.role c.args.upgrade.own (input ++ t) (Err why) (taken ++ pending)) c.deref.ensures by_feed in
    let upgraded = subst (λ (r : ConnRole). Upgrades r own (input ++ piece) (Err why) (taken ++ pending)) coming.role_is
    (subst (λ (k : Key). Upgrades c.args.upgrade.role k (input ++ piece) (Err why) (taken ++ pending)) coming.own_is by_piece) in
    let written : taken ++ pending ≡ taken ++ c.last_output-in-Err.result.items = ap (λ (t : List ℕ). taken ++ t) (sym c.last_output-in-Err.ensures.output) in
    let told_is = it.2 ∙ ap (λ (t : List (ConnEvent _)). t ++ event.Fault it.0 ∷ []) none_told in (
      [],
      stays [],
      (
        refl,
        upgrade_failed H.steps H.fails H.is_closed H.is_finished makes.makes_inbound makes.makes_outbound makes.listed makes.is_eager makes.leads_inbound makes.leads_outbound start role own
            why it.0 (input ++ piece) (taken ++ c.last_output-in-Err.result.items) c.fail.new.told.items it.1
            (subst (λ (t : List ℕ). Upgrades role own (input ++ piece) (Err why) t) written upgraded) told_is,
      ),
    )

pub returns-in-Ok-Up-clause-waits : goal.returns-in-Ok-Up-clause-waits
returns-in-Ok-Up-clause-waits g c = on_err c.come_up.result
    (λ later. grows_on c.args.upgrade.pending c.feed.new.self.pending c.last_output.result.items c.come_up.new.output.items c.feed.ensures.grows c.last_output.ensures.output later)
    c.come_up.ensures.waits

pub returns-in-Ok-Up-clause-wrote : goal.returns-in-Ok-Up-clause-wrote
returns-in-Ok-Up-clause-wrote g c = λ own start input taken coming none_waits none_told.
    let H = g.P.H.Handler in
    let makes = g.P.Protocols in
    let role = c.args.role in
    let by_feed = subst (λ (x : Progress). Upgrades c.args.upgrade.role c.args.upgrade.own (input ++ used_of (Ok x) c.deref.result.now) (outcome_of (Ok x)) (taken ++ c.feed.new.self.pending))
    c.in-Ok-Up.field-0-is (c.in-Ok-Up.ensures.upgrades input taken coming.stands (λ e. absurd (cc e))) in
    let up = comes_up H.steps H.fails H.is_closed H.is_finished makes.makes_inbound makes.makes_outbound makes.listed makes.is_eager makes.leads_inbound makes.leads_outbound start role own
    c.args.upgrade c.args.protocols c.new-mux.result c.in-Ok-Up.proven input taken c.args.piece.now c.deref.result.now c.feed.new.self.pending c.last_output.result.items c.in-Ok-Up.used c.peer.result c.session_role.result
    coming c.deref.ensures c.last_output.ensures.output by_feed c.session_role.ensures c.peer.ensures
    c.new-mux.ensures.protocols c.new-mux.ensures.role c.new-mux.ensures.peer c.new-mux.ensures.order c.new-mux.ensures.fresh in
    on_err c.come_up.result Later (c.come_up.ensures.wrote role own start input taken up none_told)

pub returns-clause-wrote : goal.returns-clause-wrote
returns-clause-wrote g c = λ own start input taken coming none_waits none_told.
    let H = g.P.H.Handler in
    let makes = g.P.Protocols in
    let role = c.args.role in
    let piece = c.args.piece.now in
    let why = c.in-Err.fault in
    let pending = c.feed.new.self.pending in
    let written : taken ++ pending ≡ taken ++ c.last_output-in-Err.result.items = ap (λ (t : List ℕ). taken ++ t) (sym c.last_output-in-Err.ensures.output) in
    subst (λ (t : List ℕ). Wrote H.steps H.fails H.is_closed H.is_finished makes.makes_inbound makes.makes_outbound makes.listed makes.is_eager makes.leads_inbound makes.leads_outbound start role own
    input piece [] [] t) written
    (wrote_failed H.steps H.fails H.is_closed H.is_finished makes.makes_inbound makes.makes_outbound makes.listed makes.is_eager makes.leads_inbound makes.leads_outbound start role own
    why input piece pending (taken ++ pending)
    (λ other. subst (λ (r : ConnRole). Upgrades r own (input ++ piece) (Err why) (taken ++ pending)) coming.role_is
    (subst (λ (k : Key). Upgrades c.args.upgrade.role k (input ++ piece) (Err why) (taken ++ pending)) coming.own_is
    (subst (λ (t : List ℕ). Upgrades c.args.upgrade.role c.args.upgrade.own (input ++ t) (Err why) (taken ++ pending)) c.deref.ensures
    (c.in-Err.ensures.upgrades input taken coming.stands (λ e. other (let same : why ≡ faults.OutOfMemory = cc e in same))))))
    (λ is. subst (λ (r : ConnRole). RunsOut r own input piece pending (taken ++ pending)) coming.role_is
    (subst (λ (k : Key). RunsOut c.args.upgrade.role k input piece pending (taken ++ pending)) coming.own_is
    (subst (λ (t : List ℕ). RunsOut c.args.upgrade.role c.args.upgrade.own input t pending (taken ++ pending)) c.deref.ensures
    (c.in-Err.ensures.memory input taken coming.stands (ap Err is))))))
