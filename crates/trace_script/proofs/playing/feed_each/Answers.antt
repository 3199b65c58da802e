use Rattle.std.proofs.Common.{◌≡◌, ◌<◌, not, [], length, ap, ◌∙◌, sym, arith}
use Rattle.std.specs.Prelude.{min}
use Rattle.std.proofs.lemmas.Bool.Decides.{nat_tests}
use Rattle.script_lines.proofs.Lefts.{nothing}
use Rattle.trace_script.proofs.Feeding.{goes_at, fed_first, fed_more, fed_all, fed_last}
use Rattle.trace_script.proofs.playing.feed_each.Goals as goal

pub loop-rest-init : goal.loop-rest-init
loop-rest-init g c = λ start role own from at.
    let H = g.P.H.Handler in
    let makes = g.P.Protocols in
    fed_first H.steps H.fails H.is_closed H.is_finished makes.makes_inbound makes.makes_outbound makes.listed makes.is_eager makes.leads_inbound makes.leads_outbound start role own
    c.args.size c.args.bytes.now from.point from.taken c.args.core.now (g.O.Write.contents c.args.output.now) at

pub loop-rest-smaller : goal.loop-rest-smaller
loop-rest-smaller g c =
    let left : 0 < length c.loop-rest.rest.now = grind (arith, nat_tests, c.is_empty.ensures, c.loop-rest-test.true) in
    omega (arith, left, c.requires.some, c.split_at.ensures.back_len, c.min.ensures)

pub returns-then-is_over-clause-fed : goal.returns-then-is_over-clause-fed
returns-then-is_over-clause-fed g c = λ start role own from at.
    let H = g.P.H.Handler in
    let makes = g.P.Protocols in
    let held = g.O.Write.contents in
    let fed = c.loop-rest.invariant start role own from at in
    let told = c.in_ok-call.ensures.told start role own (record { point = fed.now; taken = from.taken }) fed.is_at in
    let piece = c.split_at.result.0.now in
    let rest = c.loop-rest.rest.now in
    let sized : length piece ≡ min c.args.size (length rest) = c.split_at.ensures.front_len ∙ c.min.ensures in
    let left : 0 < length rest = grind (arith, nat_tests, c.is_empty.ensures, c.loop-rest-test.true) in
    let some : 0 < length piece = omega (arith, sized, left, c.requires.some) in
    let copied : c.in-Ok.copy.items ≡ piece = c.in-Ok.ensures.items_if_clones_equal (λ x y same. same) in
    let over = goes_at H.steps H.fails H.is_closed H.is_finished makes.makes_inbound makes.makes_outbound makes.listed makes.is_eager makes.leads_inbound makes.leads_outbound start role own from.taken told.1 c.call.new.core told.4 ∙ ap not (sym c.is_over.ensures ∙ c.if-is_over.true) in
    fed_last H.steps H.fails H.is_closed H.is_finished makes.makes_inbound makes.makes_outbound makes.listed makes.is_eager makes.leads_inbound makes.leads_outbound start role own c.args.size c.requires.some c.args.bytes.now rest c.split_at.result.1.now piece told.0 from.point told.1 from.taken
    c.loop-rest.core c.call.new.core (held c.args.output.now) (held c.loop-rest.output) (held c.call.new.output) fed c.split_at.ensures.by_index.0 some sized
    (c.in-Ok.copy, copied, told.2) over told.3 told.4

pub loop-rest-preserved : goal.loop-rest-preserved
loop-rest-preserved g c = λ start role own from at.
    let H = g.P.H.Handler in
    let makes = g.P.Protocols in
    let held = g.O.Write.contents in
    let fed = c.loop-rest.invariant start role own from at in
    let told = c.in_ok-call.ensures.told start role own (record { point = fed.now; taken = from.taken }) fed.is_at in
    let piece = c.split_at.result.0.now in
    let rest = c.loop-rest.rest.now in
    let sized : length piece ≡ min c.args.size (length rest) = c.split_at.ensures.front_len ∙ c.min.ensures in
    let left : 0 < length rest = grind (arith, nat_tests, c.is_empty.ensures, c.loop-rest-test.true) in
    let some : 0 < length piece = omega (arith, sized, left, c.requires.some) in
    let copied : c.in-Ok.copy.items ≡ piece = c.in-Ok.ensures.items_if_clones_equal (λ x y same. same) in
    let goes = goes_at H.steps H.fails H.is_closed H.is_finished makes.makes_inbound makes.makes_outbound makes.listed makes.is_eager makes.leads_inbound makes.leads_outbound start role own from.taken told.1 c.call.new.core told.4 ∙ ap not (sym c.is_over.ensures ∙ c.if-is_over.false) in
    fed_more H.steps H.fails H.is_closed H.is_finished makes.makes_inbound makes.makes_outbound makes.listed makes.is_eager makes.leads_inbound makes.leads_outbound start role own c.args.size c.args.bytes.now rest c.split_at.result.1.now piece told.0 from.point told.1 from.taken
    c.loop-rest.core c.call.new.core (held c.args.output.now) (held c.loop-rest.output) (held c.call.new.output) fed c.split_at.ensures.by_index.0 some sized
    (c.in-Ok.copy, copied, told.2) goes told.3 told.4

pub returns-clause-fed : goal.returns-clause-fed
returns-clause-fed g c = λ start role own from at.
    let H = g.P.H.Handler in
    let makes = g.P.Protocols in
    let held = g.O.Write.contents in
    let none : c.loop-rest.rest.now ≡ [] = nothing c.loop-rest.rest.now (grind (arith, nat_tests, c.is_empty.ensures, c.loop-rest-test.false)) in
    fed_all H.steps H.fails H.is_closed H.is_finished makes.makes_inbound makes.makes_outbound makes.listed makes.is_eager makes.leads_inbound makes.leads_outbound start role own c.args.size c.args.bytes.now from.point from.taken c.loop-rest.core (held c.args.output.now) (held c.loop-rest.output)
    (rw none at (c.loop-rest.invariant start role own from at))
