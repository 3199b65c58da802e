use Rattle.std.proofs.lemmas.Result.{err_from_is_err_and}
use Rattle.talks.specs.Hearing.{Hears as HearsTalk}
use Rattle.streams.proofs.Hearing.{Keeps, told, no_room, same_told}
use Rattle.streams.proofs.talking.hear_talk.Goals as goal

pub returns-in_err-keep_output-clause-hears : goal.returns-in_err-keep_output-clause-hears
returns-in_err-keep_output-clause-hears c = λ side got output w.
    let p = err_from_is_err_and c.from_residual.result c.from_residual.ensures.1 in
    let e = c.hear-heard.ensures in
    let h : HearsTalk c.args.talk.now c.hear-heard.new.self c.args.piece.now c.hear-heard.result = record {
      side = e.side;
      decided = e.decided;
      failed = e.failed;
      answer = e.answer;
      fails = e.fails;
      within = e.within;
      all_used = e.all_used;
      stands = e.stands;
      talks = e.talks;
      fault = e.fault;
      memory = e.memory;
      only = e.only;
    } in
    let k = c.in_err-keep_output.ensures in
    rw (p.1, p.2) (no_room side c.args.talk.now c.hear-heard.new.self c.keep_output.new.talk got output c.args.waiting.now.items c.args.piece.now c.keep_output.new.waiting.items c.hear-heard.result w h
    k.waits k.some k.err)

pub returns-clause-hears : goal.returns-clause-hears
returns-clause-hears c = λ side got output w.
    let e = c.hear-heard.ensures in
    let h : HearsTalk c.args.talk.now c.hear-heard.new.self c.args.piece.now c.hear-heard.result = record {
      side = e.side;
      decided = e.decided;
      failed = e.failed;
      answer = e.answer;
      fails = e.fails;
      within = e.within;
      all_used = e.all_used;
      stands = e.stands;
      talks = e.talks;
      fault = e.fault;
      memory = e.memory;
      only = e.only;
    } in
    let o = c.in_ok-keep_output.ensures in
    let k : Keeps c.hear-heard.new.self c.keep_output.new.talk c.args.waiting.now.items c.keep_output.new.waiting.items = record {
      side_is = o.side;
      answer_is = o.answer;
      none_waits = o.none_waits;
      stands = o.stands;
      now_is = o.ok;
    } in
    let t = told side c.args.talk.now c.hear-heard.new.self c.keep_output.new.talk got output c.args.waiting.now.items c.args.piece.now c.keep_output.new.waiting.items c.hear-heard.result w h k in
    rw c.told.ensures (same_told side c.keep_output.new.talk got output c.args.waiting.now.items c.args.piece.now c.keep_output.new.waiting.items c.hear-heard.result c.in_ok-step.step c.in_ok-step.was t)
