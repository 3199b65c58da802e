use Rattle.std.proofs.Common.{true, false, ◌+◌, ◌==◌, cond, Some, None, sym, ap, ◌∙◌, subst}
use Rattle.yamux_frames.specs.declared.header.Header.{Header}
use Rattle.yamux_session.specs.declared.streams.Row.{Row}
use Rattle.yamux_session.specs.Table.{Table, table_of, row_at}
use Rattle.yamux_session.specs.Heads.{HeadDone}
use Rattle.yamux_session.proofs.HeadLemmas.{wrong_parity, duplicate, opening_refused, opening_faults, opening_opens, opening_done, stays_there}
use Rattle.yamux_session.proofs.Refusals.{none_of, some_of}
use Rattle.yamux_session.proofs.streams.Streams.opening_head.Goals as goal

pub returns-then-not-is_remote_number-clause-refused : goal.returns-then-not-is_remote_number-clause-refused
returns-then-not-is_remote_number-clause-refused c = λ role past answered keeps.
    wrong_parity role past c.args.header c.requires.kind c.requires.opening
    (ap (λ r. Rattle.yamux_session.specs.History.is_remote r c.args.header.stream) (sym keeps.role_is) ∙ sym c.is_remote_number.ensures ∙ c.if-not-is_remote_number.true)

pub returns-then-is_some-clause-refused : goal.returns-then-is_some-clause-refused
returns-then-is_some-clause-refused c = λ role past answered keeps.
    let found = some_of c.row.result (sym c.is_some.ensures ∙ c.if-is_some.true) in
    duplicate role past c.args.header found.0 (table_of c.args.self.now) c.requires.kind c.requires.opening
    (ap (λ r. Rattle.yamux_session.specs.History.is_remote r c.args.header.stream) (sym keeps.role_is) ∙ sym c.is_remote_number.ensures ∙ c.if-not-is_remote_number.false)
    keeps (sym c.row.ensures ∙ found.1)

pub returns-then-not-has_room-clause-done : goal.returns-then-not-has_room-clause-done
returns-then-not-has_room-clause-done c = λ role past answered between keeps.
    opening_refused role past c.args.header (table_of c.args.self.now) between c.requires.kind c.requires.opening (stays_there c.args.header c.requires.kind)
    (ap (λ r. Rattle.yamux_session.specs.History.is_remote r c.args.header.stream) (sym keeps.role_is) ∙ sym c.is_remote_number.ensures ∙ c.if-not-is_remote_number.false)
    keeps (sym c.row.ensures ∙ none_of c.row.result (sym c.is_some.ensures ∙ c.if-is_some.false)) (sym c.has_room.ensures ∙ c.if-not-has_room.true)

pub returns-in-Err-clause-refused : goal.returns-in-Err-clause-refused
returns-in-Err-clause-refused c = λ role past answered keeps.
    opening_faults role past c.args.header (Some c.in-Err.fault) (table_of c.args.self.now) c.requires.kind c.requires.opening
    (ap (λ r. Rattle.yamux_session.specs.History.is_remote r c.args.header.stream) (sym keeps.role_is) ∙ sym c.is_remote_number.ensures ∙ c.if-not-is_remote_number.false)
    keeps (sym c.row.ensures ∙ none_of c.row.result (sym c.is_some.ensures ∙ c.if-is_some.false)) (sym c.has_room.ensures ∙ c.if-not-has_room.false) c.in-Err.ensures.fault

pub returns-in-Err-add-clause-refused : goal.returns-in-Err-add-clause-refused
returns-in-Err-add-clause-refused c = λ role past answered keeps.
    let remote = ap (λ r. Rattle.yamux_session.specs.History.is_remote r c.args.header.stream) (sym keeps.role_is) ∙ sym c.is_remote_number.ensures ∙ c.if-not-is_remote_number.false in
    let found = sym c.row.ensures ∙ none_of c.row.result (sym c.is_some.ensures ∙ c.if-is_some.false) in
    let room = sym c.has_room.ensures ∙ c.if-not-has_room.false in (
      opening_faults role past c.args.header None (table_of c.args.self.now) c.requires.kind c.requires.opening remote keeps found room c.in-Ok.ensures.good,
      opening_opens role past c.args.header (table_of c.args.self.now) c.requires.kind c.requires.opening remote keeps found room,
    )

pub returns-clause-done : goal.returns-clause-done
returns-clause-done c = λ role past answered between keeps.
    let h : Header = c.args.header in
    let new : Table = table_of (record c.add.new.self { remote = c.add.new.self.remote + 1; reading = Some h; taker = Some h.stream }) in
    let done = opening_done role past h (table_of c.args.self.now) new between c.requires.kind c.requires.opening (stays_there h c.requires.kind)
    (ap (λ r. Rattle.yamux_session.specs.History.is_remote r h.stream) (sym keeps.role_is) ∙ sym c.is_remote_number.ensures ∙ c.if-not-is_remote_number.false)
    keeps (sym c.row.ensures ∙ none_of c.row.result (sym c.is_some.ensures ∙ c.if-is_some.false)) (sym c.has_room.ensures ∙ c.if-not-has_room.false) c.in-Ok.ensures.good
    (λ n. c.in-Ok-add.ensures.ok.row_is n ∙ ap (λ (r : Row). cond (h.stream == n) (Some r) (row_at c.args.self.now.rows.entries n)) c.in-Ok.ensures.windows)
    (ap (λ (t : Table). record t { remote = t.remote + 1; reading = Some h; taker = Some h.stream }) c.in-Ok-add.ensures.ok.rest) in
    subst (λ b. HeadDone role past h (record { opened = true; accepted = false; credited = b }) new) (sym c.is_crediting.ensures) done
