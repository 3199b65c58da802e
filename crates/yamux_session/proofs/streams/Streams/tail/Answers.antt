use Rattle.std.proofs.Common.{ℕ, ◌∙◌, ◌==◌, cond, Some, None, refl, sym, ap, subst}
use Rattle.std.specs.HashMap.{HashMap}
use Rattle.yamux_session.specs.declared.streams.Row.{Row}
use Rattle.yamux_session.specs.declared.streams.Streams.{Streams}
use Rattle.yamux_session.specs.Table.{Table, Forgets, table_of, row_at}
use Rattle.yamux_session.proofs.Written.{written, looked_at}
use Rattle.yamux_session.specs.History.{fin, rst}
use Rattle.yamux_session.proofs.Lists.{neither}
use Rattle.yamux_session.proofs.Tails.{tail_of_none, tail_plain, tail_absent, tail_forgets, tail_finished, tells_none, tells_plain, tells_absent, tells_row}
use Rattle.yamux_session.proofs.streams.Streams.tail.Goals as goal

pub returns-in_default-clause-keeps : goal.returns-in_default-clause-keeps
returns-in_default-clause-keeps c = λ role past answered whole keeps. tail_of_none role past (table_of c.args.self.now) _ whole keeps c.in_default.is refl

pub returns-in_default-clause-told : goal.returns-in_default-clause-told
returns-in_default-clause-told c = λ role past keeps. tells_none role past (table_of c.args.self.now) keeps c.in_default.is

pub returns-then-ends_nothing-clause-keeps : goal.returns-then-ends_nothing-clause-keeps
returns-then-ends_nothing-clause-keeps c = λ role past answered whole keeps.
    let none = neither (rst c.in-Some.header) (fin c.in-Some.header) (sym c.ends_nothing.ensures ∙ c.if-ends_nothing.true) in
    tail_plain role past c.in-Some.header (table_of c.args.self.now) _ whole keeps c.in-Some.is none.0 none.1 refl

pub returns-then-ends_nothing-clause-told : goal.returns-then-ends_nothing-clause-told
returns-then-ends_nothing-clause-told c = λ role past keeps.
    let none = neither (rst c.in-Some.header) (fin c.in-Some.header) (sym c.ends_nothing.ensures ∙ c.if-ends_nothing.true) in
    tells_plain role past (table_of c.args.self.now) keeps c.in-Some.header c.in-Some.is none.0 none.1

pub returns-in_default-get_mut-clause-keeps : goal.returns-in_default-get_mut-clause-keeps
returns-in_default-get_mut-clause-keeps c = λ role past answered whole keeps.
    tail_absent role past c.in-Some.header (table_of c.args.self.now) _ whole keeps c.in-Some.is (sym c.in_default-get_mut.ensures.value)
    (ap (λ (rows : HashMap ℕ Row _). record (table_of c.args.self.now) { rows = rows.entries; reading = None; taker = None }) c.get_mut.follows.holds-at-none)

pub returns-in_default-get_mut-clause-told : goal.returns-in_default-get_mut-clause-told
returns-in_default-get_mut-clause-told c = λ role past keeps.
    tells_absent role past (table_of c.args.self.now) keeps c.in-Some.header c.in-Some.is (sym c.in_default-get_mut.ensures.value)

pub returns-then-ends_stream-clause-keeps : goal.returns-then-ends_stream-clause-keeps
returns-then-ends_stream-clause-keeps c = λ role past answered whole keeps.
    let found = sym c.in-Some-get_mut.ensures.value in
    let between : Streams = record c.args.self.now { reading = None; taker = None } in
    let forgets = subst (λ (t : Table). Forgets t c.in-Some.header.stream (table_of c.forget.new.self))
    (looked_at between c.get_mut.follows.lender c.in-Some.header.stream c.in-Some-get_mut.row.now found c.get_mut.follows.holds) c.forget.ensures in
    tail_forgets role past c.in-Some.header c.in-Some-get_mut.row.now (table_of c.args.self.now) _ whole answered keeps c.in-Some.is found (sym c.ends_stream.ensures ∙ c.if-ends_stream.true)
    forgets.row_is forgets.rest

pub returns-then-ends_stream-clause-told : goal.returns-then-ends_stream-clause-told
returns-then-ends_stream-clause-told c = λ role past keeps.
    c.tail_effect-effect.ensures ∙ tells_row role past (table_of c.args.self.now) keeps c.in-Some.header c.in-Some-get_mut.row.now c.in-Some.is (sym c.in-Some-get_mut.ensures.value)

pub returns-clause-keeps : goal.returns-clause-keeps
returns-clause-keeps c = λ role past answered whole keeps.
    let n : ℕ = c.in-Some.header.stream in
    let found = sym c.in-Some-get_mut.ensures.value in
    tail_finished role past c.in-Some.header c.in-Some-get_mut.row.now (table_of c.args.self.now) _ whole keeps c.in-Some.is found (sym c.ends_stream.ensures ∙ c.if-ends_stream.false)
    (λ m. written c.args.self.now.rows (c.get_mut.follows.lender c.finished.result) n c.in-Some-get_mut.row.now c.finished.result found (c.get_mut.follows.holds c.finished.result) m
    ∙ ap (λ (r : Row). cond (n == m) (Some r) (row_at c.args.self.now.rows.entries m)) c.finished.ensures) refl

pub returns-clause-told : goal.returns-clause-told
returns-clause-told c = λ role past keeps.
    c.tail_effect-effect.ensures ∙ tells_row role past (table_of c.args.self.now) keeps c.in-Some.header c.in-Some-get_mut.row.now c.in-Some.is (sym c.in-Some-get_mut.ensures.value)
