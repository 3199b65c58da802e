use Rattle.std.proofs.Common.{not, refl, sym, ap, ◌∙◌, subst}
use Rattle.yamux_session.specs.History.Act.{Reset}
use Rattle.yamux_session.specs.Table.{table_of}
use Rattle.yamux_session.specs.State.{State, Stands}
use Rattle.yamux_session.proofs.Refusals.{no_stream, a_stream, none_of, some_of, on_ok}
use Rattle.yamux_session.proofs.Keeping.{did, forgotten, reset_ends}
use Rattle.yamux_session.proofs.session.Session.reset.Goals as goal

pub returns-then-is_none-clause-refused : goal.returns-then-is_none-clause-refused
returns-then-is_none-clause-refused c = λ role past fed sent stands.
    let at = subst (λ (s : State). Stands role past fed sent s) (sym c.self.view_is) stands in
    no_stream role past (table_of c.self.inside.streams) c.args.stream at.table (sym c.row.ensures ∙ none_of c.row.result (c.is_none.ensures ∙ ap not c.if-is_none.true))

pub returns-then-is_err-clause-refused : goal.returns-then-is_err-clause-refused
returns-then-is_err-clause-refused c = λ role past fed sent stands.
    let at = subst (λ (s : State). Stands role past fed sent s) (sym c.self.view_is) stands in
    let some = some_of c.row.result (c.is_none.ensures ∙ ap not c.if-is_none.false) in
    a_stream role past (table_of c.self.inside.streams) c.args.stream some.0 at.table (sym c.row.ensures ∙ some.1)

pub returns-clause-ok : goal.returns-clause-ok
returns-clause-ok c = λ role past fed sent stands.
    let at = subst (λ (s : State). Stands role past fed sent s) (sym c.self.view_is) stands in
    let some = some_of c.row.result (c.is_none.ensures ∙ ap not c.if-is_none.false) in
    let found = sym c.row.ensures ∙ some.1 in
    did role past fed sent (Reset c.args.stream) _ _ at (a_stream role past (table_of c.self.inside.streams) c.args.stream some.0 at.table found)
    (forgotten role past (Reset c.args.stream) c.args.stream some.0 (table_of c.self.inside.streams) (table_of c.forget.new.self) at.answered at.table found c.forget.ensures (λ k. refl) (reset_ends role past c.args.stream) (λ m. refl) refl refl)
    refl c.if-self.false
    (on_ok c.append_frame.result c.append_frame.ensures.ok (c.is_err.ensures.negation ∙ ap not c.if-is_err.false))
