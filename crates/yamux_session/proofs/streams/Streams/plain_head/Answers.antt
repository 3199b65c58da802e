use Rattle.std.proofs.Common.{◌≡◌, ℕ, List, None, false, ◌&&◌, ◌||◌, not, ◌==◌, cond, Some, refl, sym, ap, ◌∙◌, subst}
use Rattle.yamux_frames.specs.declared.header.Header.{Header}
use Rattle.std.specs.HashMap.{HashMap}
use Rattle.yamux_session.specs.declared.streams.Row.{Row}
use Rattle.yamux_session.specs.declared.heads.Effect.{Effect}
use Rattle.yamux_session.specs.History.{ack, is_own}
use Rattle.yamux_session.specs.Table.{Table, table_of, row_at}
use Rattle.yamux_session.specs.Heads.{HeadDone, charged}
use Rattle.yamux_session.proofs.HeadLemmas.{plain_absent, plain_finished, plain_faults, plain_done, stays_there}
use Rattle.yamux_session.proofs.Lists.{and_parts}
use Rattle.yamux_session.proofs.Written.{written, unwritten}
use Rattle.yamux_session.proofs.streams.Streams.plain_head.Goals as goal

abbrev no_effect : Effect
no_effect = record { opened = false; accepted = false; credited = false }

pub returns-in_default-clause-done : goal.returns-in_default-clause-done
returns-in_default-clause-done c = λ role past between keeps.
    subst (λ (rows : HashMap ℕ Row _). HeadDone role past c.args.header no_effect (record (table_of c.args.self.now) { rows = rows.entries; reading = None; taker = None })) (sym c.get_mut.follows.holds-at-none)
    (plain_absent role past c.args.header (table_of c.args.self.now) between c.requires.kind c.requires.plain (stays_there c.args.header c.requires.kind) keeps (sym c.in_default.ensures.value))

pub returns-then-is_skipped-clause-done : goal.returns-then-is_skipped-clause-done
returns-then-is_skipped-clause-done c = λ role past between keeps.
    let both = and_parts _ _ (sym c.is_skipped.ensures ∙ c.if-is_skipped.true) in
    let found = sym c.in-Some.ensures.value in
    subst (λ (rows : List (ℕ × Row)). HeadDone role past c.args.header no_effect (record (table_of c.args.self.now) { rows = rows; reading = Some c.args.header; taker = None }))
    (sym (unwritten c.args.self.now.rows (c.get_mut.follows.lender c.in-Some.row.now) c.args.header.stream c.in-Some.row.now found (c.get_mut.follows.holds c.in-Some.row.now)))
    (plain_finished role past c.args.header c.in-Some.row.now (table_of c.args.self.now) between both.0 c.requires.plain (stays_there c.args.header c.requires.kind) keeps found both.1)

pub returns-in-Err-clause-refused : goal.returns-in-Err-clause-refused
returns-in-Err-clause-refused c = λ role past keeps.
    plain_faults role past c.args.header c.in-Some.row.now _ (table_of c.args.self.now) c.requires.kind c.requires.plain keeps (sym c.in-Some.ensures.value)
    (sym c.is_skipped.ensures ∙ c.if-is_skipped.false) c.in-Err.ensures.fault

pub returns-clause-done : goal.returns-clause-done
returns-clause-done c = λ role past between keeps.
    let h : Header = c.args.header in
    let row : Row = c.in-Some.row.now in
    let found = sym c.in-Some.ensures.value in
    let put : c.acknowledged.result ≡ record (charged row h) { accepted = ack h || row.accepted } = c.acknowledged.ensures ∙ ap (λ (r : Row). record r { accepted = ack h || r.accepted }) c.in-Ok.ensures.windows in
    let new : Table = record (table_of c.args.self.now) { rows = (c.get_mut.follows.lender c.acknowledged.result).entries; reading = Some h; taker = c.payload_taker-self.result } in
    let done = plain_done role past h row (table_of c.args.self.now) new row.accepted between c.requires.kind c.requires.plain (stays_there h c.requires.kind) keeps found
    (sym c.is_skipped.ensures ∙ c.if-is_skipped.false) c.in-Ok.ensures.good refl
    (λ m. written c.args.self.now.rows (c.get_mut.follows.lender c.acknowledged.result) h.stream row c.acknowledged.result found (c.get_mut.follows.holds c.acknowledged.result) m
    ∙ ap (λ (r : Row). cond (h.stream == m) (Some r) (row_at c.args.self.now.rows.entries m)) put) (ap (λ t. record new { taker = t }) c.payload_taker-self.ensures) in
    subst (λ a. HeadDone role past h (record { opened = false; accepted = a; credited = c.is_crediting.result }) new)
    (ap (λ r. (ack h && is_own r h.stream) && not row.accepted) (sym keeps.role_is) ∙ sym c.is_accepting.ensures)
    (subst (λ a. HeadDone role past h (record { opened = false; accepted = (ack h && is_own role h.stream) && not row.accepted; credited = a }) new)
    (sym c.is_crediting.ensures) done)
