use Rattle.std.proofs.Common.{arith}
use Rattle.std.specs.Global.{Vec}
use Rattle.std.proofs.lemmas.Result.{IfOk-weaker}
use Rattle.yamux_session.specs.declared.event.Event.{Event}
use Rattle.yamux_session.specs.Arrives.{tellings}
use Rattle.yamux_session.specs.State.{Feeds}
use Rattle.clients.specs.Sessions.{Hears}
use Rattle.clients.proofs.Conversing.{are_bytes, hears}
use Rattle.clients.proofs.sessions.hear.Goals as goal

pub returns : goal.returns
returns c =
    IfOk-weaker c.feed.result
    (λ (told : Vec Event). Feeds c.args.session.now c.args.piece.now told.items c.feed.new.self)
    (λ (told : Vec Event). Hears c.args.session.now c.args.piece.now (tellings told.items) c.feed.new.self)
    (λ told.
    hears c.sessions_stay_joined.ensures.feed c.they_go_on.ensures.both_go_on c.one_reading.ensures c.args.session.now c.feed.new.self c.args.piece.now told.items
    (are_bytes c.args.piece.now (λ i. omega (arith, c.type_inv.piece i))))
    c.feed.ensures.fed
