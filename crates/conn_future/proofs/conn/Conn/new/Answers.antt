use Rattle.std.proofs.Common.{[], false, refl}
use Rattle.conn_future.proofs.Standing.{fresh_follows}
use Rattle.conn_future.proofs.conn.Conn.new.Goals as goal

pub returns-in-Ok-clause-follows : goal.returns-in-Ok-clause-follows
returns-in-Ok-clause-follows g c start role own stands =
    fresh_follows g.L.Link g.P.Protocols g.P.H.Handler start role own g.met.L.Link.moves_nothing c.args.link c.args.core c.take_output.new.self c.take_output.result.items
    c.from_vec-unsent.result.items c.new.result.items c.from_vec-unsent.ensures c.new.ensures.items
    (λ stood. c.take_output.ensures.stands role own start [] [] false [] [] stood)
    c.take_output.ensures.over c.take_output.ensures.none_waits stands

pub returns-in-Ok-clause-link : goal.returns-in-Ok-clause-link
returns-in-Ok-clause-link g c = refl

pub returns-in-Ok-clause-going : goal.returns-in-Ok-clause-going
returns-in-Ok-clause-going g c = (refl, c.new.ensures.items)

pub returns-in-Err-clause-memory : goal.returns-in-Err-clause-memory
returns-in-Err-clause-memory g c = refl
