use Rattle.std.proofs.Common.{[], ◌∷◌, ◌++◌, arith}
use Rattle.yamux_frames.specs.Frames.Arrival.{Head, Tail}
use Rattle.yamux_session.specs.History.Item.{Came}
use Rattle.yamux_session.specs.Table.{table_of}
use Rattle.yamux_session.specs.Arrives.{written_header}
use Rattle.yamux_session.proofs.Telling.{arrives_then, begins_whole, begins_bare}
use Rattle.yamux_session.proofs.Growing.{bare_tells}
use Rattle.yamux_session.proofs.arrivals.take_frame.Goals as goal

pub returns-then-payload_length-gt0-clause-done : goal.returns-then-payload_length-gt0-clause-done
returns-then-payload_length-gt0-clause-done c = λ role past output answered between keeps.
    begins_whole role past c.args.header (table_of c.take_head.new.streams) _ _ output (output ++ written_header c.in-Ok.answer) c.payload_length.result c.payload_length.ensures c.if-payload_length-gt0.true
    (c.in-Ok.ensures.done role past output answered between keeps)

pub returns-in-Ok-take_tail-clause-done : goal.returns-in-Ok-take_tail-clause-done
returns-in-Ok-take_tail-clause-done c = λ role past output answered between keeps.
    let head = c.in-Ok.ensures.done role past output answered between keeps in
    begins_bare role past c.args.header (table_of c.take_tail.new.streams) _ _ output (output ++ written_header c.in-Ok.answer) c.payload_length.result c.payload_length.ensures c.if-payload_length-gt0.false
    (arrives_then role past (Came (Head c.args.header) ∷ past) (Came Tail ∷ Came (Head c.args.header) ∷ past) _ _ _ _ _ output (output ++ written_header c.in-Ok.answer) (output ++ written_header c.in-Ok.answer)
    head (c.in-Ok-take_tail.ensures.ok role (Came (Head c.args.header) ∷ past) (output ++ written_header c.in-Ok.answer) answered
    (let size = c.payload_length.ensures in let none = c.if-payload_length-gt0.false in omega arith) head.keeps))

pub returns-in-Err-take_tail-clause-refused : goal.returns-in-Err-take_tail-clause-refused
returns-in-Err-take_tail-clause-refused c = λ role past good answered between keeps.
    let head = c.in-Ok.ensures.done role past [] answered between keeps in (
      (head.no_fault good).0,
      bare_tells role past c.args.header c.payload_length.result c.payload_length.ensures c.if-payload_length-gt0.false
          (c.in-Err-take_tail.ensures.memory role (Came (Head c.args.header) ∷ past) head.keeps),
    )
