use Rattle.conn_log.specs.Entries.{Entry}
use Rattle.conn_core.specs.Connects.{waiting_in}
use Rattle.conn_core.proofs.Growing.{one_opened}
use Rattle.conn_future.specs.Follows.{CoreStands}
use Rattle.std.proofs.Common.{◌∙◌, rules, List, ◌++◌, [], false, refl, ap, subst}
use Rattle.conn_future.proofs.Standing.{parts_stay, parts_of, goes_of, stays_none, stays_same_core, goes_asked, going_stays}
use Rattle.conn_future.proofs.Opening.{opened_wants}
use Rattle.conn_future.proofs.Unchanged.{same_core}
use Rattle.conn_future.proofs.conn.Conn.ask.Goals as goal

pub returns-in_default-collect-clause-refused : goal.returns-in_default-collect-clause-refused
returns-in_default-collect-clause-refused g c start role own first log gave stays =
    let goes = goes_of g.L.Link g.P.Protocols g.P.H.Handler start role own first log gave c.args.self.now.link c.args.self.now.core c.args.self.now.unsent.items c.args.self.now.held.items c.args.self.now.stage c.in-Going.is stays in
    let joins = goes.joins in
    let opened = c.in-Ok.ensures.asked role own start joins.given (joins.took ++ c.args.self.now.unsent.items) log (gave ++ c.args.self.now.held.items) joins.stands in
    let grown = one_opened c.in-Ok.number c.args.index log opened.0 opened.1 in
    stays_none g.L.Link g.P.Protocols g.P.H.Handler start role own first log gave c.stop.new.self.link c.stop.new.self.core c.stop.new.self.unsent.items c.stop.new.self.held.items
    c.stop.new.self.held.items c.stop.new.self.stage refl
    (parts_stay g.L.Link g.P.Protocols g.P.H.Handler start role own first log gave c.args.self.now.link c.stop.new.self.link c.collect.new.self.core c.stop.new.self.core c.stop.new.self.unsent.items
    c.args.self.now.held.items c.stop.new.self.held.items c.stop.new.self.stage c.stop.ensures.stage (c.stop.ensures.link ∙ c.collect.ensures.link) c.stop.ensures.core (ap (λ h. h.items) c.stop.ensures.held ∙ ap (λ h. h.items) c.collect.ensures.held)
    (parts_of g.L.Link g.P.Protocols g.P.H.Handler start role own first log grown.newer gave false c.args.self.now.link c.args.self.now.link c.args.self.now.core c.collect.new.self.core
    c.args.self.now.unsent.items (waiting_in c.ask.new.self.phase c.ask.new.self.output.items) c.args.self.now.held.items c.args.self.now.held.items refl refl goes.goes_on joins
    (λ _. c.in_default-collect.ensures.lost start role own joins.given joins.took false (grown.newer ++ log) (gave ++ c.args.self.now.held.items)
    (subst (λ (l : List (Entry _)). CoreStands g.L.Link g.P.Protocols g.P.H.Handler start role own joins.given false l (gave ++ c.args.self.now.held.items) (joins.took ++ c.args.self.now.unsent.items) c.ask.new.self) grown.now_is opened.2))))

pub returns-in-OutOfMemory-clause-refused : goal.returns-in-OutOfMemory-clause-refused
returns-in-OutOfMemory-clause-refused g c start role own first log gave stays =
    stays_none g.L.Link g.P.Protocols g.P.H.Handler start role own first log gave c.stop-in-OutOfMemory.new.self.link c.stop-in-OutOfMemory.new.self.core c.stop-in-OutOfMemory.new.self.unsent.items c.stop-in-OutOfMemory.new.self.held.items
    c.stop-in-OutOfMemory.new.self.held.items c.stop-in-OutOfMemory.new.self.stage refl
    (parts_stay g.L.Link g.P.Protocols g.P.H.Handler start role own first log gave c.args.self.now.link c.stop-in-OutOfMemory.new.self.link c.ask.new.self c.stop-in-OutOfMemory.new.self.core c.stop-in-OutOfMemory.new.self.unsent.items
    c.args.self.now.held.items c.stop-in-OutOfMemory.new.self.held.items c.stop-in-OutOfMemory.new.self.stage c.stop-in-OutOfMemory.ensures.stage (c.stop-in-OutOfMemory.ensures.link) c.stop-in-OutOfMemory.ensures.core (ap (λ h. h.items) c.stop-in-OutOfMemory.ensures.held)
    (parts_of g.L.Link g.P.Protocols g.P.H.Handler start role own first log [] gave false c.args.self.now.link c.args.self.now.link c.args.self.now.core c.ask.new.self
    c.args.self.now.unsent.items [] c.args.self.now.held.items c.args.self.now.held.items refl refl
    (goes_of g.L.Link g.P.Protocols g.P.H.Handler start role own first log gave c.args.self.now.link c.args.self.now.core c.args.self.now.unsent.items c.args.self.now.held.items c.args.self.now.stage c.in-Going.is stays).goes_on
    (goes_of g.L.Link g.P.Protocols g.P.H.Handler start role own first log gave c.args.self.now.link c.args.self.now.core c.args.self.now.unsent.items c.args.self.now.held.items c.args.self.now.stage c.in-Going.is stays).joins
    (λ unspent. let spent = c.ask.ensures.memory (search rules) in absurd (cc (unspent, spent)))))

pub returns-in-Ok-collect-clause-asked : goal.returns-in-Ok-collect-clause-asked
returns-in-Ok-collect-clause-asked g c start role own first log gave stays =
    let it = goes_asked g.L.Link g.P.Protocols g.P.H.Handler start role own first log c.in-Ok.number c.args.index gave c.args.self.now.link c.collect.new.self.link c.args.self.now.core c.ask.new.self c.collect.new.self.core
    c.args.self.now.unsent.items c.collect.new.self.unsent.items c.args.self.now.held.items c.collect.new.self.held.items
    (λ input taken told stood. c.in-Ok.ensures.asked role own start input taken log told stood)
    (λ later input taken ended told stood. c.in-Ok-collect.ensures.stands start role own input taken ended later told stood)
    c.collect.ensures.link (ap (λ h. h.items) c.collect.ensures.held) c.collect.ensures.over c.collect.ensures.none_waits
    (goes_of g.L.Link g.P.Protocols g.P.H.Handler start role own first log gave c.args.self.now.link c.args.self.now.core c.args.self.now.unsent.items c.args.self.now.held.items c.args.self.now.stage c.in-Going.is stays) in (
      it.0,
      it.1,
      going_stays g.L.Link g.P.Protocols g.P.H.Handler start role own first it.0 gave c.collect.new.self.link c.collect.new.self.core c.collect.new.self.unsent.items c.collect.new.self.held.items
          c.collect.new.self.stage (c.collect.ensures.stage ∙ c.in-Going.is) it.2,
    )

pub returns-in_default-refused-clause-refused : goal.returns-in_default-refused-clause-refused
returns-in_default-refused-clause-refused g c start role own first log gave stays =
    stays_same_core g.L.Link g.P.Protocols g.P.H.Handler start role own first log gave c.args.self.now.link c.args.self.now.core c.ask.new.self c.args.self.now.unsent.items c.args.self.now.held.items
    c.args.self.now.stage (c.in-Err.ensures.kept c.in_default-refused.not-OutOfMemory) stays

pub returns-in_default-refused-clause-unchanged : goal.returns-in_default-refused-clause-unchanged
returns-in_default-refused-clause-unchanged g c other =
    same_core g.L.Link g.P.Protocols g.P.H.Handler c.args.self.now c.ask.new.self _ _ _ (c.in-Err.ensures.kept c.in_default-refused.not-OutOfMemory)

pub returns-in_default-collect-clause-why : goal.returns-in_default-collect-clause-why
returns-in_default-collect-clause-why g c going = opened_wants g.P.Protocols.listed c.args.self.now.core.phase c.args.index c.in-Ok.ensures.opened
