use Rattle.std.proofs.Common.{inl, ◌≡◌, ℕ, Bool, false, List, [], ◌∷◌, ◌++◌, Option, Some, Result, Ok, Err, refl, sym, ap, ◌∙◌, subst, true}
use Rattle.std.specs.Prelude.{OnOk, is_some}
use Rattle.std.specs.Ordering.{nat_cmp}
use Rattle.std.specs.BTreeMap as tree
use Rattle.handlers.specs.Calls.{HandlerCall, Asked}
use Rattle.yamux_session.specs.declared.event.Role.{Role}
use Rattle.yamux_session.specs.Seen.{Seen, just_opened}
use Rattle.yamux_session.specs.State.{State}
use Rattle.streams.specs.State.{Streaming}
use Rattle.routing.specs.declared.delivered.Outcome.{Outcome}
use Rattle.conn_log.specs.declared.earlier.Earlier.{Earlier}
use Rattle.conn_log.specs.declared.event.ConnEvent.{ConnEvent}
use Rattle.conn_log.specs.Asked.{told_of}
use Rattle.conn_log.specs.Entries.{Entry, items, is_over, made_of}
use Rattle.conn_log.specs.Entries.Entry.{Asks}
use Rattle.conn_log.specs.Routes.{Comes, Routed}
use Rattle.conn_log.proofs.Comes.{went}
use Rattle.conn_log.proofs.Settling.{routed_on}
use Rattle.conn_log.proofs.Asking.{anew_first, at_first, around_asked, held_asked, was_asked, gives_up_only}
use Rattle.serving.proofs.StageKinds.{served_talking}
use Rattle.board.proofs.Tables.{elsewhere, here}
use Rattle.board.specs.Boards.{MakesInOrder, MakesOnBoard}
use Rattle.board.proofs.Holding.{in_order_then, by_acts, held_still, asks_first, made_at_first}
use Rattle.board.proofs.board.Board.begin.Goals as goal

-- what a stream came to leads on, where the protocols are these
abbrev LeadsOn : {P H A E : Type 0} (step : H → HandlerCall → H → Type 0) (fails : H → Asked → ℕ → Type 0) (is_closed is_finished : H → Bool)
    (inbound_makes outbound_makes : P → ℕ → List ℕ → H → Type 0) (eager : ℕ → Bool) (names : List (List ℕ)) (peer : List ℕ) (role : Role) (log : List (Entry H))
    (making : List (Entry H) → List (Entry H) → Type 0) (before after : List (ConnEvent H)) (fed sent : List ℕ) (session later : State) (streams then : ℕ → Option (Streaming H)) (past aside : List (Earlier H)) (n : ℕ) (view : Seen) (outcome : Outcome H) (is_held : Bool)
    → Result A E → Type 0
LeadsOn step fails is_closed is_finished inbound_makes outbound_makes eager names peer role log making before after fed sent session later streams then past aside n view outcome is_held result =
    Comes step fails is_closed is_finished inbound_makes outbound_makes eager names peer role log fed sent session streams past n view [] outcome
    → (is_over role log n ≡ false → is_held ≡ is_some (made_of role log n)) → OnOk result (Routed step fails is_closed is_finished inbound_makes outbound_makes eager names peer role making log before after fed sent later then aside n [])

both : {A E P Q R : Type 0} (r : Result A E) → (P → Q → R) → OnOk r P → OnOk r Q → OnOk r R
both (Ok x) f p q = f p q
both (Err e) f p q = tt

pub returns-clause-begins : goal.returns-clause-begins
returns-clause-begins g c = λ log fed sent before r there.
    let H = g.P.H.Handler in
    let makes = g.P.Protocols in
    let board = c.args.self.now in
    let n = c.args.number in
    let handler = c.in_ok-handler.handler in
    let stream = c.in_ok-stream.stream in
    let asks = c.in_ok-stream.ensures.asks in
    let outcome = c.in_ok-outcome.outcome in
    let log_now : List (Entry _) = at_first n handler ++ Asks n c.args.index ∷ log in
    let old = tree.get nat_cmp board.streams in
    let table = tree.get nat_cmp c.insert.new.streams in
    let updates = c.in_ok-insert.ensures in
    let early = c.in_ok-handler.ensures.early in
    let around = around_asked H.steps H.fails H.is_closed H.is_finished makes.makes_inbound makes.makes_outbound (makes.is_eager board.protocols) (makes.listed board.protocols) board.peer board.role
    c.acts_tell.ensures.seen c.acts_tell.ensures.windows log fed sent before c.args.session.now old old board.past.items n c.args.index handler makes.leads_inbound makes.leads_outbound board.protocols c.early.new.protocols r there c.requires early
    (λ m apart. refl) in
    let held = held_asked H.steps H.fails H.is_closed H.is_finished makes.makes_inbound makes.makes_outbound (makes.is_eager board.protocols) (makes.listed board.protocols) board.peer board.role
    c.acts_tell.ensures.seen c.acts_tell.ensures.windows log fed sent before c.args.session.now old old board.past.items n c.args.index handler makes.leads_inbound makes.leads_outbound board.protocols c.early.new.protocols r there c.requires early
    stream asks.0 (ap (λ (t : List (List ℕ)). Rattle.std.specs.Prelude.slice_get t c.args.index) (sym c.in_ok-handler.ensures.names) ∙ asks.1) asks.3 asks.2 in
    let came = c.in_ok-outcome.ensures.came board.role (items log_now) fed sent held.so_far around.session_stands held.stands held.sent_is in
    let now = went H.steps H.fails H.is_closed H.is_finished makes.makes_inbound makes.makes_outbound (makes.is_eager board.protocols) (makes.listed board.protocols) board.peer board.role
    c.acts_tell.ensures.seen c.acts_tell.ensures.windows log_now fed sent c.args.session.now c.deliver_credit.new.session old table board.past.items n just_opened [] stream c.deliver_credit.new.stream
    around refl (record { held = held; over_by_end = λ off. absurd (cc off); last = inl tt; anew = anew_first H.steps H.is_closed board.role log n c.args.index handler asks.0 stream asks.3 asks.2; handed = λ serves. absurd (let e : true ≡ false = sym asks.2 ∙ served_talking _ serves in cc e) }) (elsewhere old table n (Some c.deliver_credit.new.stream) updates) (here old table n (Some c.deliver_credit.new.stream) updates) outcome came in
    let making = MakesInOrder makes.leads_inbound makes.leads_outbound board.peer board.role c.early.new.protocols c.settle.new.self.protocols c.make.new.order c.settle.new.self.order in
    let leads = subst
    (λ (e : ℕ → Bool). LeadsOn H.steps H.fails H.is_closed H.is_finished makes.makes_inbound makes.makes_outbound e (makes.listed board.protocols) board.peer board.role (now.newer ++ log_now)
    making c.args.owed.now.items c.settle.new.told.items fed sent c.deliver_credit.new.session c.settle.new.session table (tree.get nat_cmp c.settle.new.self.streams) board.past.items
    c.settle.new.self.past.items n now.seen_now outcome c.is_some-is_held.result c.settle.result)
    c.in_ok-handler.ensures.eager
    (subst
    (λ (names : List (List ℕ)). LeadsOn H.steps H.fails H.is_closed H.is_finished makes.makes_inbound makes.makes_outbound (makes.is_eager c.early.new.protocols) names board.peer board.role
    (now.newer ++ log_now) making c.args.owed.now.items c.settle.new.told.items fed sent c.deliver_credit.new.session c.settle.new.session table (tree.get nat_cmp c.settle.new.self.streams) board.past.items
    c.settle.new.self.past.items n now.seen_now outcome c.is_some-is_held.result c.settle.result)
    c.in_ok-handler.ensures.names
    (c.settle.ensures.settles (now.newer ++ log_now) fed sent now.seen_now [])) in
    both c.settle.result
    (λ routed told_is. was_asked H.steps H.fails H.is_closed H.is_finished makes.makes_inbound makes.makes_outbound (makes.is_eager board.protocols) (makes.listed board.protocols) board.peer board.role
    c.acts_tell.ensures.seen c.acts_tell.ensures.windows log fed sent before c.args.session.now old old board.past.items n c.args.index handler makes.leads_inbound makes.leads_outbound board.protocols c.early.new.protocols r there c.requires early
    (MakesOnBoard makes.leads_inbound makes.leads_outbound board c.settle.new.self) making
    (λ longer first_made made. in_order_then makes.leads_inbound makes.leads_outbound board.peer board.role board.protocols c.early.new.protocols c.settle.new.self.protocols board.order c.make.new.order c.settle.new.self.order log log_now longer
    (first_made, asks_first board.role log n c.args.index handler c.is_some-is_held.result board.order c.make.new.order c.in_ok-make.ensures c.is_some-is_held.ensures) made)
    c.args.owed.now.items c.settle.new.told.items c.settle.new.session (tree.get nat_cmp c.settle.new.self.streams) c.settle.new.self.past.items
    (routed_on H.steps H.fails H.is_closed H.is_finished makes.makes_inbound makes.makes_outbound (makes.is_eager board.protocols) (makes.listed board.protocols) board.peer board.role log_now
    now.newer c.args.owed.now.items c.settle.new.told.items fed sent c.settle.new.session (tree.get nat_cmp c.settle.new.self.streams) c.settle.new.self.past.items n [] making making
    (λ longer made. in_order_then makes.leads_inbound makes.leads_outbound board.peer board.role c.early.new.protocols c.early.new.protocols c.settle.new.self.protocols c.make.new.order c.make.new.order c.settle.new.self.order log_now (now.newer ++ log_now) longer
    (by_acts makes.leads_inbound makes.leads_outbound board.peer board.role c.early.new.protocols c.make.new.order log_now now.newer now.unmade now.none_said) made)
    now.none_said now.untold now.same_turn routed)
    (told_of n outcome) told_is
    (gives_up_only H.steps H.fails H.is_closed H.is_finished board.role (items log_now) fed sent n held.so_far stream c.args.session.now outcome c.deliver_credit.new.session c.deliver_credit.new.stream
    asks.2 came))
    (leads now.comes (held_still H.steps H.fails H.is_closed H.is_finished makes.makes_inbound makes.makes_outbound (makes.is_eager board.protocols) (makes.listed board.protocols) board.peer board.role log_now n
    now.newer fed sent c.deliver_credit.new.session table board.past.items now.seen_now [] outcome now.comes now.same_turn now.unmade c.is_some-is_held.result
    (λ going. c.is_some-is_held.ensures ∙ made_at_first board.role log n c.args.index handler)))
    c.settle.ensures.tells
