use Rattle.std.proofs.Common.{◌≡◌, Ok, Some, ap, sym, ◌∙◌, subst}
use Rattle.conn_core.specs.declared.connection.ConnCore.{ConnCore}
use Rattle.script_lines.proofs.Lefts.{has_line, less_left}
use Rattle.script_lines.proofs.Standing.{Standing, starts, goes_on, ends, stops}
use Rattle.trace_script.specs.Played.{Place, PlaysLine, IsIn, SaysNothing}
use Rattle.trace_script.proofs.playing.play.Goals as goal

pub loop-rest-init : goal.loop-rest-init
loop-rest-init g c = λ start role own from at.
    let H = g.P.H.Handler in
    let makes = g.P.Protocols in
    starts (PlaysLine H.steps H.fails H.is_closed H.is_finished makes.makes_inbound makes.makes_outbound makes.listed makes.is_eager makes.leads_inbound makes.leads_outbound start role own) from c.args.script
    (λ (place : Place _). IsIn H.steps H.fails H.is_closed H.is_finished makes.makes_inbound makes.makes_outbound makes.listed makes.is_eager makes.leads_inbound makes.leads_outbound start role own place c.args.core.now) (g.O.Write.contents c.args.output.now) at

pub loop-rest-smaller : goal.loop-rest-smaller
loop-rest-smaller g c = rw c.in-Some.is (
    less_left c.in-Some.texts c.first_line.result.0.now c.first_line.result.1 (c.first_line.ensures.first, c.first_line.ensures.more, c.first_line.ensures.last))

pub loop-rest-preserved : goal.loop-rest-preserved
loop-rest-preserved g c = λ start role own from at.
    let H = g.P.H.Handler in
    let makes = g.P.Protocols in
    let held = g.O.Write.contents in
    let it = rw c.in-Some.is at (c.loop-rest.invariant start role own from at) in
    let played = c.in-Ok-true.ensures.played start role own it.to it.is_in (ap Ok c.in-Ok-true.field-0-test) in
    rw c.saturating_add-number.ensures (
    goes_on (PlaysLine H.steps H.fails H.is_closed H.is_finished makes.makes_inbound makes.makes_outbound makes.listed makes.is_eager makes.leads_inbound makes.leads_outbound start role own) from c.args.script.now c.in-Some.texts
    (λ (place : Place _). IsIn H.steps H.fails H.is_closed H.is_finished makes.makes_inbound makes.makes_outbound makes.listed makes.is_eager makes.leads_inbound makes.leads_outbound start role own place c.loop-rest.core)
    (λ (place : Place _). IsIn H.steps H.fails H.is_closed H.is_finished makes.makes_inbound makes.makes_outbound makes.listed makes.is_eager makes.leads_inbound makes.leads_outbound start role own place c.play_line.new.core)
    (held c.args.output.now) (held c.loop-rest.output) (held c.play_line.new.output) c.loop-rest.number it c.first_line.result.0.now
    c.first_line.result.1 (c.first_line.ensures.first, c.first_line.ensures.more, c.first_line.ensures.last) played.0 played.1 played.2 played.3 played.4)

pub returns-in-Ok-false-clause-refused : goal.returns-in-Ok-false-clause-refused
returns-in-Ok-false-clause-refused g c = λ start role own from at number same.
    let H = g.P.H.Handler in
    let makes = g.P.Protocols in
    let held = g.O.Write.contents in
    let standing = rw c.in-Some.is at (c.loop-rest.invariant start role own from at) in
    let nothing = c.in-Ok-false.ensures.refused (ap Ok c.in-Ok-false.field-0-test) in
    let counted : c.saturating_add-number.result ≡ number = cc in
    let it = stops (PlaysLine H.steps H.fails H.is_closed H.is_finished makes.makes_inbound makes.makes_outbound makes.listed makes.is_eager makes.leads_inbound makes.leads_outbound start role own) from c.args.script.now c.in-Some.texts
    (λ (place : Place _). IsIn H.steps H.fails H.is_closed H.is_finished makes.makes_inbound makes.makes_outbound makes.listed makes.is_eager makes.leads_inbound makes.leads_outbound start role own place c.play_line.new.core) SaysNothing
    (held c.args.output.now) (held c.loop-rest.output) (held c.play_line.new.output) c.loop-rest.number
    (subst (λ (core : ConnCore _ _). Standing (PlaysLine H.steps H.fails H.is_closed H.is_finished makes.makes_inbound makes.makes_outbound makes.listed makes.is_eager makes.leads_inbound makes.leads_outbound start role own) from c.args.script.now (Some c.in-Some.texts)
    (λ (place : Place _). IsIn H.steps H.fails H.is_closed H.is_finished makes.makes_inbound makes.makes_outbound makes.listed makes.is_eager makes.leads_inbound makes.leads_outbound start role own place core) (held c.args.output.now) (held c.loop-rest.output) c.loop-rest.number) (sym nothing.2) standing)
    c.first_line.result.0.now c.first_line.result.1 (c.first_line.ensures.first, c.first_line.ensures.more, c.first_line.ensures.last)
    nothing.1 nothing.0 in
    (it.0, it.1, it.2, it.3, it.4, it.5, it.6, it.7, it.8, sym counted ∙ c.saturating_add-number.ensures ∙ it.9)

pub returns-in-Err-clause-unwritten : goal.returns-in-Err-clause-unwritten
returns-in-Err-clause-unwritten g c = λ start role own from at same.
    let it = rw c.in-Some.is at (c.loop-rest.invariant start role own from at) in (
      it.lines,
      c.first_line.result.0.now,
      it.printed,
      it.to,
      has_line c.args.script.now it.lines c.in-Some.texts.now c.first_line.result.0.now c.first_line.result.1 it.left
          (c.first_line.ensures.first, c.first_line.ensures.more, c.first_line.ensures.last),
      c.in-Err.ensures.failed.0,
      it.plays,
    )

pub returns-clause-played : goal.returns-clause-played
returns-clause-played g c = λ start role own from at.
    let H = g.P.H.Handler in
    let makes = g.P.Protocols in
    let held = g.O.Write.contents in
    let it = rw c.in_default.is at (c.loop-rest.invariant start role own from at) in
    ends (PlaysLine H.steps H.fails H.is_closed H.is_finished makes.makes_inbound makes.makes_outbound makes.listed makes.is_eager makes.leads_inbound makes.leads_outbound start role own) from c.args.script.now
    (λ (place : Place _). IsIn H.steps H.fails H.is_closed H.is_finished makes.makes_inbound makes.makes_outbound makes.listed makes.is_eager makes.leads_inbound makes.leads_outbound start role own place c.loop-rest.core)
    (held c.args.output.now) (held c.loop-rest.output) c.loop-rest.number it
