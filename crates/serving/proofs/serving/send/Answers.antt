use Rattle.std.proofs.Common.{◌≡◌, inr, [], sym, ◌∙◌}
use Rattle.std.proofs.lemmas.Bool.{eqb-true}
use Rattle.serving.proofs.Sending.{whole, answers_on, gave, gave_none, unwritten, through, filled, none_of}
use Rattle.serving.proofs.Refusals.{open_with, open_for_memory}
use Rattle.serving.proofs.serving.send.Goals as goal

pub returns-in-Ok-clause-sends : goal.returns-in-Ok-clause-sends
returns-in-Ok-clause-sends g c = λ role past fed sent so_far at is_open stands.
    let it = c.in-Ok.ensures.ok role past fed sent at in
    let all = whole c.in_ok-bytes.bytes.items c.deref.result.now c.in-Ok.field-0 c.args.credit _ c.deref.ensures.value (c.in-Ok.ensures.count role past fed sent at)
    (open_with role past c.args.number c.args.credit is_open).credit_is c.in_ok-bytes.ensures.room in
    gave g.H.Handler.steps g.H.Handler.is_closed role past fed sent c.args.number c.args.credit so_far c.write.new.self c.args.stream.now c.give.new.self c.in_ok-bytes.bytes.items it.0
    (it.1 ∙ all) it.2 (record {
      asked = c.in_ok-bytes.ensures.asked so_far stands;
      answers = answers_on g.H.Handler.steps g.H.Handler.is_closed c.args.credit c.args.stream.now c.give.new.self c.in_ok-bytes.bytes.items c.in_ok-bytes.ensures.step;
      not_asked = c.in_ok-bytes.ensures.not_asked so_far stands;
      same = λ shut. (c.in_ok-bytes.ensures.same shut).0;
      full = c.in_ok-bytes.ensures.full;
    }) is_open

pub returns-then-is_empty-clause-sends : goal.returns-then-is_empty-clause-sends
returns-then-is_empty-clause-sends g c = λ role past fed sent so_far at is_open stands.
    let size : c.in_ok-bytes.bytes.len ≡ 0 = eqb-true c.in_ok-bytes.bytes.len 0 (sym c.is_empty.ensures ∙ c.if-is_empty.true) in
    let none : c.in_ok-bytes.bytes.items ≡ [] = none_of c.in_ok-bytes.bytes.items (sym c.in_ok-bytes.bytes.ok.0 ∙ size) in
    gave_none g.H.Handler.steps g.H.Handler.is_closed role past fed sent c.args.number c.args.credit so_far c.args.session.now c.args.stream.now c.give.new.self c.in_ok-bytes.bytes.items
    none at (record {
      asked = c.in_ok-bytes.ensures.asked so_far stands;
      answers = answers_on g.H.Handler.steps g.H.Handler.is_closed c.args.credit c.args.stream.now c.give.new.self c.in_ok-bytes.bytes.items c.in_ok-bytes.ensures.step;
      not_asked = c.in_ok-bytes.ensures.not_asked so_far stands;
      same = λ shut. (c.in_ok-bytes.ensures.same shut).0;
      full = c.in_ok-bytes.ensures.full;
    }) is_open

pub returns-clause-runs_out : goal.returns-clause-runs_out
returns-clause-runs_out g c = λ role past fed sent so_far at is_open stands e.
    let amount = (open_with role past c.args.number c.args.credit is_open).credit_is in
    let wants = open_for_memory role past c.args.number c.args.credit c.in-Err.field-0 (c.in-Err.ensures.refused role past fed sent at) is_open in
    let bytes = c.in_ok-bytes.bytes.items in (
      c.in-Err.ensures.err,
      inr (
        c.in_ok-bytes.ensures.kind,
        unwritten g.H.Handler.steps g.H.Handler.is_closed role past c.args.number c.args.credit c.args.session.now.room so_far c.args.stream.now c.give.new.self bytes
            (filled bytes _ _ c.in_ok-bytes.bytes.ok.0 (sym c.is_empty.ensures) c.if-is_empty.false) c.in_ok-bytes.ensures.room
            (through bytes c.deref.result.now _ c.args.credit _ c.deref.ensures.value amount c.in_ok-bytes.ensures.room (c.in-Err.ensures.room wants role past fed sent at))
            (record {
              asked = c.in_ok-bytes.ensures.asked so_far stands;
              answers = answers_on g.H.Handler.steps g.H.Handler.is_closed c.args.credit c.args.stream.now c.give.new.self c.in_ok-bytes.bytes.items c.in_ok-bytes.ensures.step;
              not_asked = c.in_ok-bytes.ensures.not_asked so_far stands;
              same = λ shut. (c.in_ok-bytes.ensures.same shut).0;
              full = c.in_ok-bytes.ensures.full;
            }) is_open,
      ),
    )
