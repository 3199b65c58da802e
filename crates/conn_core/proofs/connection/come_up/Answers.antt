use Rattle.std.proofs.Common.{◌≡◌, ◌-◌, ℕ, Bool, false, if◌then◌else◌, List, [], ◌∷◌, ◌++◌, length, take, drop, sym, ap, ◌∙◌, subst, arith}
use Rattle.std.proofs.lemmas.List.{append_assoc, take-append-drop, take_all, length-drop}
use Rattle.std.specs.Ordering.{nat_cmp}
use Rattle.std.specs.BTreeMap as tree
use Rattle.conn_log.specs.declared.event.ConnEvent.{ConnEvent}
use Rattle.conn_log.specs.declared.event.ConnEvent.TheVariants as event
use Rattle.conn_log.specs.Entries.{Entry}
use Rattle.conn_core.specs.declared.connection.Phase.TheVariants as phases
use Rattle.conn_core.specs.Connects.{Connects, IsUpWith, IsGrown}
use Rattle.conn_core.specs.Wanting.WroteOn.{Up}
use Rattle.conn_core.proofs.Growing.{stays}
use Rattle.conn_core.proofs.Waiting.{if_err, all_waits}
use Rattle.conn_core.proofs.Wanting.{wrote_behind}
use Rattle.conn_core.proofs.connection.come_up.Goals as goal

pub returns-in-Ok-true-clause-goes : goal.returns-in-Ok-true-clause-goes
returns-in-Ok-true-clause-goes g c = λ role own start input taken upw none.
    let H = g.P.H.Handler in
    let makes = g.P.Protocols in
    let piece = c.args.piece.now in
    let used = c.args.used in
    let first = input ++ take used piece in
    let told_is : c.tell.new.told.items ≡ event.Upgraded c.args.proven ∷ [] =
    c.in_ok-tell.ensures.told ∙ ap (λ (t : List (ConnEvent _)). t ++ event.Upgraded c.args.proven ∷ []) none in
    let rest_is : c.in-Ok.rest ≡ drop used piece =
    c.in-Ok.ensures.ok ∙ take_all (length piece - used) (drop used piece) (omega (arith, length-drop used piece)) in
    let all : first ++ c.in-Ok.rest ≡ input ++ piece =
    ap (λ (t : List ℕ). first ++ t) rest_is ∙ append_assoc input (take used piece) (drop used piece) ∙ ap (λ (t : List ℕ). input ++ t) (take-append-drop used piece) in
    let up = subst (λ (t : List (ConnEvent _)). IsUpWith H.steps H.fails H.is_closed H.is_finished makes.makes_inbound makes.makes_outbound makes.listed makes.is_eager makes.leads_inbound makes.leads_outbound start role own
    first [] t (taken ++ c.args.output.now.items) c.args.mux) (sym told_is) upw in
    subst (λ (t : List ℕ). (now : List (Entry _)) × IsGrown [] [] now × Connects H.steps H.fails H.is_closed H.is_finished makes.makes_inbound makes.makes_outbound makes.listed makes.is_eager makes.leads_inbound makes.leads_outbound start role own
    t false now c.go_on.new.told.items taken (phases.Up c.go_on.new.mux) [] c.go_on.new.output.items) all
    (subst (λ (b : Bool). (now : List (Entry _)) × IsGrown [] [] now × Connects H.steps H.fails H.is_closed H.is_finished makes.makes_inbound makes.makes_outbound makes.listed makes.is_eager makes.leads_inbound makes.leads_outbound start role own
    (first ++ c.in-Ok.rest) false now c.go_on.new.told.items taken (if b then phases.Up c.go_on.new.mux else phases.Over) [] c.go_on.new.output.items) c.in-Ok-true.field-0-test
    (c.in-Ok-true.ensures.goes role own start first taken [] [] up))

pub returns-in-Ok-false-clause-goes : goal.returns-in-Ok-false-clause-goes
returns-in-Ok-false-clause-goes g c = λ role own start input taken upw none.
    let H = g.P.H.Handler in
    let makes = g.P.Protocols in
    let piece = c.args.piece.now in
    let used = c.args.used in
    let first = input ++ take used piece in
    let told_is : c.tell.new.told.items ≡ event.Upgraded c.args.proven ∷ [] =
    c.in_ok-tell.ensures.told ∙ ap (λ (t : List (ConnEvent _)). t ++ event.Upgraded c.args.proven ∷ []) none in
    let rest_is : c.in-Ok.rest ≡ drop used piece =
    c.in-Ok.ensures.ok ∙ take_all (length piece - used) (drop used piece) (omega (arith, length-drop used piece)) in
    let all : first ++ c.in-Ok.rest ≡ input ++ piece =
    ap (λ (t : List ℕ). first ++ t) rest_is ∙ append_assoc input (take used piece) (drop used piece) ∙ ap (λ (t : List ℕ). input ++ t) (take-append-drop used piece) in
    let up = subst (λ (t : List (ConnEvent _)). IsUpWith H.steps H.fails H.is_closed H.is_finished makes.makes_inbound makes.makes_outbound makes.listed makes.is_eager makes.leads_inbound makes.leads_outbound start role own
    first [] t (taken ++ c.args.output.now.items) c.args.mux) (sym told_is) upw in
    subst (λ (t : List ℕ). (now : List (Entry _)) × IsGrown [] [] now × Connects H.steps H.fails H.is_closed H.is_finished makes.makes_inbound makes.makes_outbound makes.listed makes.is_eager makes.leads_inbound makes.leads_outbound start role own
    t false now c.go_on.new.told.items taken phases.Over [] c.go_on.new.output.items) all
    (subst (λ (b : Bool). (now : List (Entry _)) × IsGrown [] [] now × Connects H.steps H.fails H.is_closed H.is_finished makes.makes_inbound makes.makes_outbound makes.listed makes.is_eager makes.leads_inbound makes.leads_outbound start role own
    (first ++ c.in-Ok.rest) false now c.go_on.new.told.items taken (if b then phases.Up c.go_on.new.mux else phases.Over) [] c.go_on.new.output.items) c.in-Ok-false.field-0-test
    (c.in-Ok-false.ensures.goes role own start first taken [] [] up))

pub returns-in_err-tell-clause-waits : goal.returns-in_err-tell-clause-waits
returns-in_err-tell-clause-waits g c = if_err c.from_residual.result (all_waits c.args.output.now.items)

-- it is up already, by the upgrade's part of the piece
pub returns-in_err-tell-clause-wrote : goal.returns-in_err-tell-clause-wrote
returns-in_err-tell-clause-wrote g c = λ role own start input taken upw none.
    let H = g.P.H.Handler in
    let makes = g.P.Protocols in
    let mux = c.args.mux in
    if_err c.from_residual.result
    (Up (take c.args.used c.args.piece.now) (drop c.args.used c.args.piece.now) [] (event.Upgraded c.args.proven ∷ []) mux.session (tree.get nat_cmp mux.board.streams) mux.board.past.items
    (sym (take-append-drop c.args.used c.args.piece.now)) (stays []) upw.3.0)

pub returns-in_default-clause-wrote : goal.returns-in_default-clause-wrote
returns-in_default-clause-wrote g c = λ role own start input taken upw none.
    let H = g.P.H.Handler in
    let makes = g.P.Protocols in
    let mux = c.args.mux in
    Up (take c.args.used c.args.piece.now) (drop c.args.used c.args.piece.now) [] (event.Upgraded c.args.proven ∷ []) mux.session (tree.get nat_cmp mux.board.streams) mux.board.past.items
    (sym (take-append-drop c.args.used c.args.piece.now)) (stays []) upw.3.0

pub returns-clause-wrote : goal.returns-clause-wrote
returns-clause-wrote g c = λ role own start input taken upw none.
    let H = g.P.H.Handler in
    let makes = g.P.Protocols in
    let piece = c.args.piece.now in
    let used = c.args.used in
    let first = input ++ take used piece in
    let told_is : c.tell.new.told.items ≡ event.Upgraded c.args.proven ∷ [] =
    c.in_ok-tell.ensures.told ∙ ap (λ (t : List (ConnEvent _)). t ++ event.Upgraded c.args.proven ∷ []) none in
    let rest_is : c.in-Ok.rest ≡ drop used piece =
    c.in-Ok.ensures.ok ∙ take_all (length piece - used) (drop used piece) (omega (arith, length-drop used piece)) in
    let all : piece ≡ take used piece ++ c.in-Ok.rest = sym (ap (λ (t : List ℕ). take used piece ++ t) rest_is ∙ take-append-drop used piece) in
    let up = subst (λ (t : List (ConnEvent _)). IsUpWith H.steps H.fails H.is_closed H.is_finished makes.makes_inbound makes.makes_outbound makes.listed makes.is_eager makes.leads_inbound makes.leads_outbound start role own
    first [] t (taken ++ c.args.output.now.items) c.args.mux) (sym told_is) upw in
    wrote_behind H.steps H.fails H.is_closed H.is_finished makes.makes_inbound makes.makes_outbound makes.listed makes.is_eager makes.leads_inbound makes.leads_outbound start role own
    input (take used piece) c.in-Ok.rest piece [] [] (taken ++ c.go_on.new.output.items) all (c.in-Err.ensures.wrote role own start first taken [] [] up)
