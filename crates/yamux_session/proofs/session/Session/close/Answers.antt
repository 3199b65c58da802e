use Rattle.std.proofs.Common.{Some, true, false, not, refl, sym, ap, ◌∙◌, subst}
use Rattle.yamux_session.specs.History.Act.{Close}
use Rattle.yamux_session.specs.Table.{Table, Forgets, table_of}
use Rattle.yamux_session.proofs.Written.{rewritten, looked_at, as_before}
use Rattle.yamux_session.specs.State.{State, Stands}
use Rattle.yamux_session.proofs.Refusals.{no_direction, a_direction, on_ok, on_err, row_of}
use Rattle.yamux_session.proofs.Keeping.{did, forgotten, replaced, close_ends, close_stays, closing}
use Rattle.yamux_session.proofs.session.Session.close.Goals as goal

pub returns-in_default-clause-refused : goal.returns-in_default-clause-refused
returns-in_default-clause-refused c = λ role past fed sent stands.
    let at = subst (λ (s : State). Stands role past fed sent s) (sym c.self.view_is) stands in
    no_direction role past (table_of c.self.inside.streams) c.args.stream at.table (sym c.in_default.ensures.value)

pub returns-then-row-clause-refused : goal.returns-then-row-clause-refused
returns-then-row-clause-refused c = λ role past fed sent stands.
    let at = subst (λ (s : State). Stands role past fed sent s) (sym c.self.view_is) stands in
    a_direction role past (table_of c.self.inside.streams) c.args.stream c.in-Some.row.now true at.table (sym c.in-Some.ensures.value) c.if-row.true

pub returns-then-is_err-clause-refused : goal.returns-then-is_err-clause-refused
returns-then-is_err-clause-refused c = λ role past fed sent stands.
    let at = subst (λ (s : State). Stands role past fed sent s) (sym c.self.view_is) stands in
    a_direction role past (table_of c.self.inside.streams) c.args.stream c.in-Some.row.now false at.table (sym c.in-Some.ensures.value) c.if-row.false

pub returns-then-row-2-clause-ok : goal.returns-then-row-2-clause-ok
returns-then-row-2-clause-ok c = λ role past fed sent stands.
    let at = subst (λ (s : State). Stands role past fed sent s) (sym c.self.view_is) stands in
    let found = sym c.in-Some.ensures.value in
    let row = row_of role past (table_of c.self.inside.streams) c.args.stream (Some c.in-Some.row.now) at.table found in
    did role past fed sent (Close c.args.stream) _ _ at (a_direction role past (table_of c.self.inside.streams) c.args.stream c.in-Some.row.now false at.table found c.if-row.false)
    (forgotten role past (Close c.args.stream) c.args.stream c.in-Some.row.now (table_of c.self.inside.streams) (table_of c.forget.new.self) at.answered at.table found
    (subst (λ (t : Table). Forgets t c.args.stream (table_of c.forget.new.self)) (looked_at c.self.inside.streams c.get_mut.follows.lender c.args.stream c.in-Some.row.now found c.get_mut.follows.holds) c.forget.ensures) (λ k. refl)
    (close_ends role past c.args.stream (sym row.1.finished_is ∙ c.if-row-2.true)) (λ m. refl) refl refl)
    refl c.if-self.false
    (on_ok c.append_frame.result c.append_frame.ensures.ok (c.is_err.ensures.negation ∙ ap not c.if-is_err.false))

pub returns-else-row-2-clause-ok : goal.returns-else-row-2-clause-ok
returns-else-row-2-clause-ok c = λ role past fed sent stands.
    let at = subst (λ (s : State). Stands role past fed sent s) (sym c.self.view_is) stands in
    let found = sym c.in-Some.ensures.value in
    let row = row_of role past (table_of c.self.inside.streams) c.args.stream (Some c.in-Some.row.now) at.table found in
    did role past fed sent (Close c.args.stream) _ _ at (a_direction role past (table_of c.self.inside.streams) c.args.stream c.in-Some.row.now false at.table found c.if-row.false)
    (replaced role past (Close c.args.stream) c.args.stream c.in-Some.row.now (record c.in-Some.row.now { closed = true }) (table_of c.self.inside.streams) _ at.table found
    (rewritten c.self.inside.streams c.get_mut.follows.lender c.args.stream c.in-Some.row.now (record c.in-Some.row.now { closed = true }) found c.get_mut.follows.holds)
    (closing role past c.args.stream c.in-Some.row.now (close_stays role past c.args.stream (sym row.1.finished_is ∙ c.if-row-2.false))) (λ k. refl)
    (close_stays role past c.args.stream (sym row.1.finished_is ∙ c.if-row-2.false)) (λ m. refl) refl refl)
    refl c.if-self.false
    (on_ok c.append_frame.result c.append_frame.ensures.ok (c.is_err.ensures.negation ∙ ap not c.if-is_err.false))

pub returns-then-row-clause-err : goal.returns-then-row-clause-err
returns-then-row-clause-err c =
    as_before _ _ (looked_at c.self.inside.streams c.get_mut.follows.lender c.args.stream c.in-Some.row.now (sym c.in-Some.ensures.value) c.get_mut.follows.holds)
    refl refl refl refl ∙ c.self.view_is

pub returns-then-is_err-clause-err : goal.returns-then-is_err-clause-err
returns-then-is_err-clause-err c =
    let refused = sym c.is_err.ensures.value ∙ c.if-is_err.true in
    as_before _ _ (looked_at c.self.inside.streams c.get_mut.follows.lender c.args.stream c.in-Some.row.now (sym c.in-Some.ensures.value) c.get_mut.follows.holds)
    refl (on_err c.append_frame.result c.append_frame.ensures.err refused) (on_err c.append_frame.result c.append_frame.ensures.room refused) refl ∙ c.self.view_is
