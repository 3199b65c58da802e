use Rattle.std.proofs.Common.{◌≡◌, false, List, [], ◌++◌, refl, sym, ap, ◌∙◌, subst}
use Rattle.std.specs.Global.{Vec}
use Rattle.upgrade.specs.declared.role.ConnRole.{ConnRole}
use Rattle.conn_log.specs.declared.event.ConnEvent.{ConnEvent}
use Rattle.conn_core.specs.declared.connection.Phase.{Phase}
use Rattle.conn_core.specs.Connects.{Connects, TellsFirst, waiting_in}
use Rattle.conn_core.specs.Wanting.{Wrote}
use Rattle.conn_core.proofs.Taking.{connects_by}
use Rattle.conn_core.proofs.connection.ConnCore.feed_shared.Goals as goal

pub returns-in-Ok-clause-fed : goal.returns-in-Ok-clause-fed
returns-in-Ok-clause-fed g c = λ role own start input taken log told stands going.
    let H = g.P.H.Handler in
    let makes = g.P.Protocols in
    let core = c.args.self.now in
    let from_owed = connects_by (λ r x o. Connects H.steps H.fails H.is_closed H.is_finished makes.makes_inbound makes.makes_outbound makes.listed makes.is_eager makes.leads_inbound makes.leads_outbound start r own
    input false log told taken x o core.output.items) core.role role core.phase core.phase c.replace-told.result.items core.owed.items
    stands.0 refl (ap (λ (v : Vec (ConnEvent _)). v.items) c.replace-told.ensures.value) stands.1 in
    let goes = c.in-Ok.ensures.goes own start input taken log told from_owed going in
    let none_owed : c.replace-told.new.dest.items ≡ [] = ap (λ (v : Vec (ConnEvent _)). v.items) c.replace-told.ensures.after ∙ c.new.ensures.items in (
      goes.0,
      goes.1,
      (
        stands.0,
        subst (λ (r : ConnRole). Connects H.steps H.fails H.is_closed H.is_finished makes.makes_inbound makes.makes_outbound makes.listed makes.is_eager makes.leads_inbound makes.leads_outbound start r own
            (input ++ c.args.piece) false goes.0 (told ++ c.take_on.new.told.items) taken c.take_on.new.phase c.replace-told.new.dest.items c.take_on.new.output.items) stands.0
            (subst (λ (t : List (ConnEvent _)). Connects H.steps H.fails H.is_closed H.is_finished makes.makes_inbound makes.makes_outbound makes.listed makes.is_eager makes.leads_inbound makes.leads_outbound start core.role own
            (input ++ c.args.piece) false goes.0 (told ++ c.take_on.new.told.items) taken c.take_on.new.phase t c.take_on.new.output.items) (sym none_owed) goes.2),
      ),
    )

pub returns-clause-wrote : goal.returns-clause-wrote
returns-clause-wrote g c = λ role own start input taken log told stands going.
    let H = g.P.H.Handler in
    let makes = g.P.Protocols in
    let core = c.args.self.now in
    let from_owed = connects_by (λ r x o. Connects H.steps H.fails H.is_closed H.is_finished makes.makes_inbound makes.makes_outbound makes.listed makes.is_eager makes.leads_inbound makes.leads_outbound start r own
    input false log told taken x o core.output.items) core.role role core.phase core.phase c.replace-told.result.items core.owed.items
    stands.0 refl (ap (λ (v : Vec (ConnEvent _)). v.items) c.replace-told.ensures.value) stands.1 in
    subst (λ (x : Phase _ _). Wrote H.steps H.fails H.is_closed H.is_finished makes.makes_inbound makes.makes_outbound makes.listed makes.is_eager makes.leads_inbound makes.leads_outbound start role own
    input c.args.piece log told (taken ++ waiting_in x c.take_on.new.output.items)) (sym c.replace.ensures.after)
    (subst (λ (r : ConnRole). Wrote H.steps H.fails H.is_closed H.is_finished makes.makes_inbound makes.makes_outbound makes.listed makes.is_eager makes.leads_inbound makes.leads_outbound start r own
    input c.args.piece log told (taken ++ c.take_on.new.output.items)) stands.0
    (c.in-Err.ensures.wrote own start input taken log told from_owed going))

pub returns-in-Ok-clause-owed_first : goal.returns-in-Ok-clause-owed_first
returns-in-Ok-clause-owed_first g c = λ role own start input taken log told stands going.
    let H = g.P.H.Handler in
    let makes = g.P.Protocols in
    let core = c.args.self.now in
    let owed_is = ap (λ (v : Vec (ConnEvent _)). v.items) c.replace-told.ensures.value in
    let from_owed = connects_by (λ r x o. Connects H.steps H.fails H.is_closed H.is_finished makes.makes_inbound makes.makes_outbound makes.listed makes.is_eager makes.leads_inbound makes.leads_outbound start r own
    input false log told taken x o core.output.items) core.role role core.phase core.phase c.replace-told.result.items core.owed.items
    stands.0 refl owed_is stands.1 in
    subst (λ (o : List (ConnEvent _)). TellsFirst o c.take_on.new.told.items) owed_is (c.in-Ok.ensures.owed_first own start input taken log told from_owed going)
