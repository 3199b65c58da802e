use Rattle.std.proofs.Common.{◌≡◌, ◌-◌, ℕ, List, length, take, drop, Some, None, sym, ◌∙◌, arith}
use Rattle.std.proofs.lemmas.List.{length-take-le, length-drop}
use Rattle.yamux_session.specs.Table.{table_of}
use Rattle.yamux_session.proofs.Arriving.{arrived, taker_is}
use Rattle.yamux_session.proofs.Telling.{bytes_arrive, tells_nothing, tells_payload}
use Rattle.yamux_session.proofs.Growing.{on_err, payload_tells}
use Rattle.yamux_session.proofs.arrivals.take_payload.Goals as goal

pub returns-in_default-clause-ok : goal.returns-in_default-clause-ok
returns-in_default-clause-ok c = λ role past output keeps fits.
    let bytes : List ℕ = take (c.args.to - c.args.from) (drop c.args.from c.args.piece.now) in
    let size : length bytes ≡ c.args.to - c.args.from = length-take-le (c.args.to - c.args.from) (drop c.args.from c.args.piece.now) (let within = c.requires.within in omega (arith, length-drop c.args.from c.args.piece.now)) in
    bytes_arrive role past bytes (table_of c.args.streams.now) None c.args.told.now.items c.args.told.now.items output
    (arrived role past bytes (table_of c.args.streams.now) keeps (omega arith)) (sym c.in_default.is ∙ taker_is role past (table_of c.args.streams.now) keeps) (tells_nothing c.args.told.now.items)

pub returns-clause-ok : goal.returns-clause-ok
returns-clause-ok c = λ role past output keeps fits.
    let bytes : List ℕ = take (c.args.to - c.args.from) (drop c.args.from c.args.piece.now) in
    let size : length bytes ≡ c.args.to - c.args.from = length-take-le (c.args.to - c.args.from) (drop c.args.from c.args.piece.now) (let within = c.requires.within in omega (arith, length-drop c.args.from c.args.piece.now)) in
    bytes_arrive role past bytes (table_of c.args.streams.now) (Some c.in-Some.stream) c.args.told.now.items c.push.new.self.items output
    (arrived role past bytes (table_of c.args.streams.now) keeps (omega arith)) (sym c.in-Some.is ∙ taker_is role past (table_of c.args.streams.now) keeps)
    (tells_payload c.args.told.now.items c.push.new.self.items c.in-Some.stream bytes c.in_ok-bytes.bytes c.in_ok-bytes.ensures.ok (let some = c.requires.some in omega arith) c.in_ok-push.ensures.items)

pub returns-in_err-bytes-clause-memory : goal.returns-in_err-bytes-clause-memory
returns-in_err-bytes-clause-memory c = on_err c.from_residual.result λ role past keeps.
    payload_tells role past (take (c.args.to - c.args.from) (drop c.args.from c.args.piece.now)) c.in-Some.stream (sym (taker_is role past (table_of c.args.streams.now) keeps) ∙ c.in-Some.is)
    (let size = c.requires in omega (arith, length-take-le (c.args.to - c.args.from) (drop c.args.from c.args.piece.now) (let within = c.requires.within in omega (arith, length-drop c.args.from c.args.piece.now))))

pub returns-in_err-push-clause-memory : goal.returns-in_err-push-clause-memory
returns-in_err-push-clause-memory c = on_err c.from_residual-in_err-push.result λ role past keeps.
    payload_tells role past (take (c.args.to - c.args.from) (drop c.args.from c.args.piece.now)) c.in-Some.stream (sym (taker_is role past (table_of c.args.streams.now) keeps) ∙ c.in-Some.is)
    (let size = c.requires in omega (arith, length-take-le (c.args.to - c.args.from) (drop c.args.from c.args.piece.now) (let within = c.requires.within in omega (arith, length-drop c.args.from c.args.piece.now))))
