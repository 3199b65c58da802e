use Rattle.std.proofs.Common.{inl, inr, ◌≡◌, ◌⊎◌, Option, Some, IsSome, refl, sym, ◌∙◌, subst, true, false}
use Rattle.std.specs.Prelude.{IfSome}
use Rattle.std.specs.Ordering.{nat_cmp}
use Rattle.std.specs.BTreeMap as tree
use Rattle.yamux_session.specs.Seen.{just_opened}
use Rattle.streams.specs.State.{Streaming}
use Rattle.conn_log.specs.Routes.{MayBeServed}
use Rattle.conn_log.proofs.Opening.{put_aside, is_fresh}
use Rattle.conn_log.proofs.Asking.{none_open_first}
use Rattle.serving.proofs.StageKinds.{served_talking}
use Rattle.board.proofs.Tables.{elsewhere, here}
use Rattle.board.proofs.board.Board.open.Goals as goal

-- no handler is held that may be asked
by_none : {A B C : Type 0} → A ⊎ B → C → A ⊎ (C × B)
by_none (inl a) none = inl a
by_none (inr b) none = inr (none, b)

pub returns-clause-routes : goal.returns-clause-routes
returns-clause-routes g c = λ log fed sent rest a no_data none theirs anew.
    let H = g.P.H.Handler in
    let makes = g.P.Protocols in
    let board = c.args.self.now in
    let n = c.args.number in
    let old = tree.get nat_cmp board.streams in
    let middle = tree.get nat_cmp c.put_aside.new.streams in
    let now = tree.get nat_cmp c.insert.new.streams in
    let updates = c.in_ok-insert.ensures in
    let stream = c.in-Ok.stream in
    let around = put_aside H.steps H.fails H.is_closed H.is_finished makes.makes_inbound makes.makes_outbound (makes.is_eager board.protocols) (makes.listed board.protocols) board.peer board.role log
    fed sent c.args.session.now old now board.past.items c.put_aside.new.past.items n rest a
    (λ m apart. elsewhere middle now n (Some stream) updates m apart ∙ c.put_aside.ensures.elsewhere m apart) c.in_ok-put_aside.ensures.aside in
    let fresh_one = is_fresh H.steps H.fails H.is_closed H.is_finished makes.makes_inbound makes.makes_outbound (makes.is_eager board.protocols) (makes.listed board.protocols) board.peer board.role log
    fed sent c.args.session.now old now board.past.items c.put_aside.new.past.items n rest a stream _ c.names.ensures.names c.in-Ok.ensures.stands c.in-Ok.ensures.talks.0 none theirs in
    let shut = none_open_first H.steps H.is_closed _ stream c.in-Ok.ensures.stands c.in-Ok.ensures.talks.0 in
    let placed : now n ≡ Some stream = here middle now n (Some stream) updates in
    c.serve.ensures.serves log fed sent just_opened rest around no_data
    (subst (λ (t : Option (Streaming _)). IfSome t (MayBeServed H.steps H.fails H.is_closed H.is_finished makes.makes_inbound makes.makes_outbound (makes.is_eager board.protocols) (makes.listed board.protocols) board.peer board.role log n just_opened rest)) (sym placed)
    (record { held = fresh_one; over_by_end = λ off. absurd (cc off); last = by_none anew shut; anew = λ open_still. absurd (let e : true ≡ false = sym open_still ∙ shut in cc e); handed = λ serves. absurd (let e : true ≡ false = sym c.in-Ok.ensures.talks.0 ∙ served_talking _ serves in cc e) }))
    (λ live. subst (λ (t : Option (Streaming _)). IsSome t) (sym placed) refl)
    (λ made going. subst (λ (t : Option (Streaming _)). IsSome t) (sym placed) refl)
    (λ reset going. subst (λ (t : Option (Streaming _)). IsSome t) (sym placed) refl)
