use Rattle.std.proofs.Common.{arith}
use Rattle.clients.proofs.Conversing.{are_bytes}
use Rattle.clients.proofs.Stopping.{fed_stops, out_stops}
use Rattle.clients.proofs.sessions.hear_or_stop.Goals as goal

pub returns-in-Ok : goal.returns-in-Ok
returns-in-Ok c going =
    fed_stops c.sessions_stay_joined.ensures.feed c.args.session.now c.feed.new.self c.args.piece.now c.in-Ok.told.items
    (are_bytes c.args.piece.now (λ i. omega (arith, c.type_inv.piece i))) c.in-Ok.ensures.fed

pub returns-in-Err : goal.returns-in-Err
returns-in-Err c going =
    out_stops c.sessions_stay_joined.ensures.memory c.args.session.now c.feed.new.self c.args.piece.now
    (are_bytes c.args.piece.now (λ i. omega (arith, c.type_inv.piece i))) (c.in-Err.ensures.refused going).2
