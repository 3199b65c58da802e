use Rattle.std.proofs.Common.{◌≡◌, true, false, ◌++◌, sym, ◌∙◌, subst}
use Rattle.conn_core.specs.declared.connection.Phase.{Phase}
use Rattle.conn_core.specs.Connects.{Connects, session_role}
use Rattle.conn_log.specs.Entries.{items}
use Rattle.yamux_session.specs.Output.{output}
use Rattle.conn_core.proofs.Ending.{ends_early, ends_within, is_shut}
use Rattle.conn_core.proofs.telling.last_event.Goals as goal

pub returns-in-Upgrading-clause-ends : goal.returns-in-Upgrading-clause-ends
returns-in-Upgrading-clause-ends g c = λ role own start input taken log before owed connects going.
    let H = g.P.H.Handler in
    let makes = g.P.Protocols in
    let it = subst (λ (x : Phase _ _). Connects H.steps H.fails H.is_closed H.is_finished makes.makes_inbound makes.makes_outbound makes.listed makes.is_eager makes.leads_inbound makes.leads_outbound start role own
    input false log before taken x owed c.args.output.now.items) c.in-Upgrading.is connects in
    ends_early H.steps H.fails H.is_closed H.is_finished makes.makes_inbound makes.makes_outbound makes.listed makes.is_eager makes.leads_inbound makes.leads_outbound start role own
    input log before owed taken c.last_output.result.items c.in-Upgrading.upgrade c.in-Upgrading.field-1 it.1 it.2 it.4 c.last_output.ensures.output

pub returns-then-mid_frame-clause-ends : goal.returns-then-mid_frame-clause-ends
returns-then-mid_frame-clause-ends g c = λ role own start input taken log before owed connects going.
    let H = g.P.H.Handler in
    let makes = g.P.Protocols in
    let it = subst (λ (x : Phase _ _). Connects H.steps H.fails H.is_closed H.is_finished makes.makes_inbound makes.makes_outbound makes.listed makes.is_eager makes.leads_inbound makes.leads_outbound start role own
    input false log before taken x owed c.args.output.now.items) c.in-Up.is connects in
    let up = it.1.3.0 in
    let within = (c.mid_frame.ensures.live (session_role role) (items log) up.rest (output (session_role role) (items log)) up.at_rest.session_stands).0 c.if-mid_frame.true in
    ends_within H.steps H.fails H.is_closed H.is_finished makes.makes_inbound makes.makes_outbound makes.listed makes.is_eager makes.leads_inbound makes.leads_outbound start role own
    input log (before ++ owed) (taken ++ c.args.output.now.items) c.in-Up.mux it.1 within

pub returns-in-Up-clause-ends : goal.returns-in-Up-clause-ends
returns-in-Up-clause-ends g c = λ role own start input taken log before owed connects going.
    let H = g.P.H.Handler in
    let makes = g.P.Protocols in
    let it = subst (λ (x : Phase _ _). Connects H.steps H.fails H.is_closed H.is_finished makes.makes_inbound makes.makes_outbound makes.listed makes.is_eager makes.leads_inbound makes.leads_outbound start role own
    input false log before taken x owed c.args.output.now.items) c.in-Up.is connects in
    let up = it.1.3.0 in
    is_shut H.steps H.fails H.is_closed H.is_finished makes.makes_inbound makes.makes_outbound makes.listed makes.is_eager makes.leads_inbound makes.leads_outbound start role own
    input log (before ++ owed) (taken ++ c.args.output.now.items) c.in-Up.mux it.1
    (λ within. absurd (let on : c.mid_frame.result ≡ true =
    (c.mid_frame.ensures.live (session_role role) (items log) up.rest (output (session_role role) (items log)) up.at_rest.session_stands).1 within in
    let both : true ≡ false = sym on ∙ c.if-mid_frame.false in cc both))
