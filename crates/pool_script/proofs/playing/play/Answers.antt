use Rattle.std.proofs.Common.{◌≡◌, List, [], Ok, ap, sym, ◌∙◌}
use Rattle.pool_state.specs.At.{Stands}
use Rattle.pool_state.specs.History.{Entry}
use Rattle.script_lines.proofs.Lefts.{has_line}
use Rattle.script_lines.proofs.Standing.{starts, goes_on, stops}
use Rattle.pool_script.specs.Played.{PlaysLine, SaysNothing}
use Rattle.pool_script.proofs.playing.play.Goals as goal

pub loop-rest-init : goal.loop-rest-init
loop-rest-init g c =
    starts (PlaysLine c.args.config) [] c.args.script (λ (history : List Entry). Stands c.args.config history c.new-pool.result)
    (g.O.Write.contents c.args.output.now) c.new-pool.ensures

pub loop-rest-preserved : goal.loop-rest-preserved
loop-rest-preserved g c =
    let held = g.O.Write.contents in
    let config = c.args.config in
    let at = rw c.in-Some.is at c.loop-rest.invariant in
    let played = c.in-Ok-true.ensures.played config at.to at.is_in (ap Ok c.in-Ok-true.field-0-test) in
    rw c.saturating_add-number.ensures (
    goes_on (PlaysLine config) [] c.args.script.now c.in-Some.texts (λ (history : List Entry). Stands config history c.loop-rest.pool)
    (λ (history : List Entry). Stands config history c.play_line.new.pool) (held c.args.output.now) (held c.loop-rest.output)
    (held c.play_line.new.output) c.loop-rest.number at c.first_line.result.0.now c.first_line.result.1
    (c.first_line.ensures.first, c.first_line.ensures.more, c.first_line.ensures.last) played.0 played.1 played.2 played.3 played.4)

pub returns-in-Ok-false-clause-refused : goal.returns-in-Ok-false-clause-refused
returns-in-Ok-false-clause-refused g c = λ number same.
    let held = g.O.Write.contents in
    let config = c.args.config in
    let at = rw c.in-Some.is at c.loop-rest.invariant in
    let nothing = c.in-Ok-false.ensures.refused (ap Ok c.in-Ok-false.field-0-test) in
    let counted : c.saturating_add-number.result ≡ number = cc in
    let it = stops (PlaysLine config) [] c.args.script.now c.in-Some.texts (λ (history : List Entry). Stands config history c.loop-rest.pool)
    SaysNothing (held c.args.output.now) (held c.loop-rest.output) (held c.play_line.new.output) c.loop-rest.number at
    c.first_line.result.0.now c.first_line.result.1 (c.first_line.ensures.first, c.first_line.ensures.more, c.first_line.ensures.last)
    nothing.1 nothing.0 in
    (it.0, it.1, it.2, it.3, it.4, it.5, it.6, it.7, sym counted ∙ c.saturating_add-number.ensures ∙ it.9)

pub returns-in-Err-clause-unwritten : goal.returns-in-Err-clause-unwritten
returns-in-Err-clause-unwritten g c = λ same.
    let at = rw c.in-Some.is at c.loop-rest.invariant in (
      at.lines,
      c.first_line.result.0.now,
      at.printed,
      at.to,
      has_line c.args.script.now at.lines c.in-Some.texts.now c.first_line.result.0.now c.first_line.result.1 at.left
          (c.first_line.ensures.first, c.first_line.ensures.more, c.first_line.ensures.last),
      c.in-Err.ensures.failed,
      at.plays,
    )
