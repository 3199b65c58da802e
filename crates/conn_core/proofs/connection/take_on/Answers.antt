use Rattle.std.proofs.Common.{◌≡◌, Bool, false, if◌then◌else◌, List, [], ◌++◌, sym, ap, ◌∙◌, subst}
use Rattle.conn_log.specs.declared.event.ConnEvent.{ConnEvent}
use Rattle.conn_log.specs.Entries.{Entry}
use Rattle.conn_core.specs.declared.connection.Phase.{Phase}
use Rattle.conn_core.specs.declared.connection.Phase.TheVariants as phases
use Rattle.conn_core.specs.Connects.{Connects, IsComing, IsGrown}
use Rattle.conn_core.specs.Wanting.{Wrote}
use Rattle.conn_core.specs.Wanting.Wrote.{Later}
use Rattle.conn_core.proofs.Waiting.{if_err}
use Rattle.conn_core.proofs.connection.take_on.Goals as goal

pub returns-in_ok-next-in-Upgrading-clause-goes : goal.returns-in_ok-next-in-Upgrading-clause-goes
returns-in_ok-next-in-Upgrading-clause-goes g c = λ own start input taken log before connects going.
    let H = g.P.H.Handler in
    let makes = g.P.Protocols in
    let role = c.args.role in
    let it = subst (λ (x : Phase _ _). Connects H.steps H.fails H.is_closed H.is_finished makes.makes_inbound makes.makes_outbound makes.listed makes.is_eager makes.leads_inbound makes.leads_outbound start role own
    input false log before taken x c.args.told.now.items c.args.output.now.items) (sym c.replace-2.ensures.value ∙ c.in-Upgrading.is) connects in
    let coming = it.4 in
    let fresh = subst (λ (t : List (ConnEvent _)). IsComing H.steps H.fails H.is_closed H.is_finished makes.makes_inbound makes.makes_outbound makes.listed makes.is_eager makes.leads_inbound makes.leads_outbound start role own
    input t taken c.in-Upgrading.upgrade c.in-Upgrading.protocols) coming.none_told coming in
    let none_listed : log ≡ [] = it.1 in
    subst (λ (x : Phase _ _). (now : List (Entry _)) × IsGrown [] log now × Connects H.steps H.fails H.is_closed H.is_finished makes.makes_inbound makes.makes_outbound makes.listed makes.is_eager makes.leads_inbound makes.leads_outbound start role own
    (input ++ c.args.piece.now) false now (before ++ c.bring_up.new.told.items) taken x [] c.bring_up.new.output.items) (sym c.replace-in-Upgrading.ensures.after)
    (subst (λ (a : List (Entry _)). (now : List (Entry _)) × IsGrown [] a now × Connects H.steps H.fails H.is_closed H.is_finished makes.makes_inbound makes.makes_outbound makes.listed makes.is_eager
    makes.leads_inbound makes.leads_outbound start role own (input ++ c.args.piece.now) false now (before ++ c.bring_up.new.told.items) taken c.in_ok-next-in-Upgrading.next [] c.bring_up.new.output.items) (sym none_listed)
    (subst (λ (t : List (ConnEvent _)). (now : List (Entry _)) × IsGrown [] [] now × Connects H.steps H.fails H.is_closed H.is_finished makes.makes_inbound makes.makes_outbound makes.listed makes.is_eager
    makes.leads_inbound makes.leads_outbound start role own (input ++ c.args.piece.now) false now (t ++ c.bring_up.new.told.items) taken c.in_ok-next-in-Upgrading.next [] c.bring_up.new.output.items) (sym coming.none_told)
    (c.in_ok-next-in-Upgrading.ensures.goes own start input taken fresh it.3 it.2)))

pub returns-then-not-branch-clause-goes : goal.returns-then-not-branch-clause-goes
returns-then-not-branch-clause-goes g c = λ own start input taken log before connects going.
    let H = g.P.H.Handler in
    let makes = g.P.Protocols in
    let role = c.args.role in
    let it = subst (λ (x : Phase _ _). Connects H.steps H.fails H.is_closed H.is_finished makes.makes_inbound makes.makes_outbound makes.listed makes.is_eager makes.leads_inbound makes.leads_outbound start role own
    input false log before taken x c.args.told.now.items c.args.output.now.items) c.in-Up.is connects in
    subst (λ (x : Phase _ _). (now : List (Entry _)) × IsGrown [] log now × Connects H.steps H.fails H.is_closed H.is_finished makes.makes_inbound makes.makes_outbound makes.listed makes.is_eager makes.leads_inbound makes.leads_outbound start role own
    (input ++ c.args.piece.now) false now (before ++ c.go_on.new.told.items) taken x [] c.go_on.new.output.items) (sym c.replace.ensures.after)
    (subst (λ (b : Bool). (now : List (Entry _)) × IsGrown [] log now × Connects H.steps H.fails H.is_closed H.is_finished makes.makes_inbound makes.makes_outbound makes.listed makes.is_eager makes.leads_inbound makes.leads_outbound start role own
    (input ++ c.args.piece.now) false now (before ++ c.go_on.new.told.items) taken (if b then phases.Up c.go_on.new.mux else phases.Over) [] c.go_on.new.output.items) c.if-not-branch.true
    (c.in_ok-go_on.ensures.goes role own start input taken log before it.1))

pub returns-else-not-branch-clause-goes : goal.returns-else-not-branch-clause-goes
returns-else-not-branch-clause-goes g c = λ own start input taken log before connects going.
    let H = g.P.H.Handler in
    let makes = g.P.Protocols in
    let role = c.args.role in
    let it = subst (λ (x : Phase _ _). Connects H.steps H.fails H.is_closed H.is_finished makes.makes_inbound makes.makes_outbound makes.listed makes.is_eager makes.leads_inbound makes.leads_outbound start role own
    input false log before taken x c.args.told.now.items c.args.output.now.items) c.in-Up.is connects in
    subst (λ (b : Bool). (now : List (Entry _)) × IsGrown [] log now × Connects H.steps H.fails H.is_closed H.is_finished makes.makes_inbound makes.makes_outbound makes.listed makes.is_eager makes.leads_inbound makes.leads_outbound start role own
    (input ++ c.args.piece.now) false now (before ++ c.go_on.new.told.items) taken (if b then phases.Up c.go_on.new.mux else phases.Over) [] c.go_on.new.output.items) c.if-not-branch.false
    (c.in_ok-go_on.ensures.goes role own start input taken log before it.1)

pub returns-in_err-next-in-Upgrading-clause-wrote : goal.returns-in_err-next-in-Upgrading-clause-wrote
returns-in_err-next-in-Upgrading-clause-wrote g c = λ own start input taken log before connects going.
    let H = g.P.H.Handler in
    let makes = g.P.Protocols in
    let role = c.args.role in
    let it = subst (λ (x : Phase _ _). Connects H.steps H.fails H.is_closed H.is_finished makes.makes_inbound makes.makes_outbound makes.listed makes.is_eager makes.leads_inbound makes.leads_outbound start role own
    input false log before taken x c.args.told.now.items c.args.output.now.items) (sym c.replace-2.ensures.value ∙ c.in-Upgrading.is) connects in
    let coming = it.4 in
    let fresh = subst (λ (t : List (ConnEvent _)). IsComing H.steps H.fails H.is_closed H.is_finished makes.makes_inbound makes.makes_outbound makes.listed makes.is_eager makes.leads_inbound makes.leads_outbound start role own
    input t taken c.in-Upgrading.upgrade c.in-Upgrading.protocols) coming.none_told coming in
    if_err c.from_residual-in_err-next-in-Upgrading.result
    (subst (λ (a : List (Entry _)). Wrote H.steps H.fails H.is_closed H.is_finished makes.makes_inbound makes.makes_outbound makes.listed makes.is_eager makes.leads_inbound makes.leads_outbound start role own
    input c.args.piece.now a before (taken ++ c.bring_up.new.output.items)) (sym it.1)
    (subst (λ (t : List (ConnEvent _)). Wrote H.steps H.fails H.is_closed H.is_finished makes.makes_inbound makes.makes_outbound makes.listed makes.is_eager makes.leads_inbound makes.leads_outbound start role own
    input c.args.piece.now [] t (taken ++ c.bring_up.new.output.items)) (sym coming.none_told)
    (c.in_err-next-in-Upgrading.ensures.wrote own start input taken fresh it.3 it.2)))

pub returns-in_err-go_on-clause-wrote : goal.returns-in_err-go_on-clause-wrote
returns-in_err-go_on-clause-wrote g c = λ own start input taken log before connects going.
    let H = g.P.H.Handler in
    let makes = g.P.Protocols in
    let role = c.args.role in
    let it = subst (λ (x : Phase _ _). Connects H.steps H.fails H.is_closed H.is_finished makes.makes_inbound makes.makes_outbound makes.listed makes.is_eager makes.leads_inbound makes.leads_outbound start role own
    input false log before taken x c.args.told.now.items c.args.output.now.items) c.in-Up.is connects in
    if_err c.from_residual.result (Later (c.in_err-go_on.ensures.wrote role own start input taken log before it.1))

-- nothing is owed while it comes up
pub returns-in_ok-next-in-Upgrading-clause-owed_first : goal.returns-in_ok-next-in-Upgrading-clause-owed_first
returns-in_ok-next-in-Upgrading-clause-owed_first g c = λ own start input taken log before connects going.
    let H = g.P.H.Handler in
    let makes = g.P.Protocols in
    let it = subst (λ (x : Phase _ _). Connects H.steps H.fails H.is_closed H.is_finished makes.makes_inbound makes.makes_outbound makes.listed makes.is_eager makes.leads_inbound makes.leads_outbound start c.args.role own
    input false log before taken x c.args.told.now.items c.args.output.now.items) (sym c.replace-2.ensures.value ∙ c.in-Upgrading.is) connects in
    (c.bring_up.new.told.items, sym (ap (λ (t : List (ConnEvent _)). t ++ c.bring_up.new.told.items) it.2))

pub returns-then-not-branch-clause-owed_first : goal.returns-then-not-branch-clause-owed_first
returns-then-not-branch-clause-owed_first g c = λ own start input taken log before connects going.
    let H = g.P.H.Handler in
    let makes = g.P.Protocols in
    let it = subst (λ (x : Phase _ _). Connects H.steps H.fails H.is_closed H.is_finished makes.makes_inbound makes.makes_outbound makes.listed makes.is_eager makes.leads_inbound makes.leads_outbound start c.args.role own
    input false log before taken x c.args.told.now.items c.args.output.now.items) c.in-Up.is connects in
    c.in_ok-go_on.ensures.owed_first c.args.role own start input taken log before it.1

pub returns-else-not-branch-clause-owed_first : goal.returns-else-not-branch-clause-owed_first
returns-else-not-branch-clause-owed_first g c = λ own start input taken log before connects going.
    let H = g.P.H.Handler in
    let makes = g.P.Protocols in
    let it = subst (λ (x : Phase _ _). Connects H.steps H.fails H.is_closed H.is_finished makes.makes_inbound makes.makes_outbound makes.listed makes.is_eager makes.leads_inbound makes.leads_outbound start c.args.role own
    input false log before taken x c.args.told.now.items c.args.output.now.items) c.in-Up.is connects in
    c.in_ok-go_on.ensures.owed_first c.args.role own start input taken log before it.1
