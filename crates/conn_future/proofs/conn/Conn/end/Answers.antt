use Rattle.std.proofs.Common.{[], refl, true}
use Rattle.conn_future.proofs.Standing.{joins_ended, parts_heard, goes_unended}
use Rattle.conn_future.proofs.conn.Conn.end.Goals as goal

pub returns-in-Ok-clause-follows : goal.returns-in-Ok-clause-follows
returns-in-Ok-clause-follows g c start role own first log gave before goes moved reached =
    c.tell.ensures.follows start role own first log gave true
    (joins_ended g.L.Link g.P.Protocols g.P.H.Handler start role own g.met.L.Link.moves_on first log gave before c.args.self.now.link c.args.self.now.core c.ended.new.self c.args.self.now.unsent.items c.in-Ok.events.items
    (λ input taken told stood live. c.in-Ok.ensures.ends role own start input taken log told stood live) goes moved reached) (λ _. c.ended.ensures.over)
    (goes_unended g.L.Link g.P.Protocols g.P.H.Handler start role own first log gave before c.args.self.now.core c.args.self.now.unsent.items goes)

pub returns-in-Err-clause-follows : goal.returns-in-Err-clause-follows
returns-in-Err-clause-follows g c start role own first log gave before goes moved reached =
    c.starve.ensures.follows start role own first log gave
    (parts_heard g.L.Link g.P.Protocols g.P.H.Handler start role own g.met.L.Link.moves_on first log gave before c.args.self.now.link c.args.self.now.link c.args.self.now.core c.ended.new.self c.args.self.now.unsent.items
    [] c.args.self.now.held.items refl c.requires.none_held (λ unspent. let spent = (c.in-Err.ensures.refused goes.goes_on).1 in absurd (cc (unspent, spent))) goes moved)
