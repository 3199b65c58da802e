use Rattle.std.proofs.Common.{◌≡◌, [], ◌∷◌, arith}
use Rattle.conn_log.specs.declared.event.ConnEvent.TheVariants as event
use Rattle.conn_log.specs.declared.event.ConnFault.TheVariants as fault
use Rattle.conn_future.proofs.Lists.{none_of}
use Rattle.conn_future.proofs.Standing.{stays_give, held_links_not, gives_refused}
use Rattle.conn_future.proofs.conn.Conn.give.Goals as goal

pub returns-in-Some-clause-follows : goal.returns-in-Some-clause-follows
returns-in-Some-clause-follows g c start role own first log gave stays =
    stays_give g.L.Link g.P.Protocols g.P.H.Handler start role own first log gave c.args.self.now.link c.args.self.now.core c.args.self.now.unsent.items
    c.in-Some.event c.pop_front.new.self.items c.args.self.now.held.items c.args.self.now.stage c.in-Some.ensures.items stays

pub returns-in-Some-clause-not_link : goal.returns-in-Some-clause-not_link
returns-in-Some-clause-not_link g c start role own first log gave stays is =
    let linked : c.args.self.now.held.items ≡ event.Fault fault.Link ∷ c.pop_front.new.self.items = cc (c.in-Some.ensures.items, is) in
    held_links_not g.L.Link g.P.Protocols g.P.H.Handler start role own first log gave c.args.self.now.link c.args.self.now.core c.args.self.now.unsent.items
    c.pop_front.new.self.items c.args.self.now.held.items c.args.self.now.stage linked stays

pub returns-in-Starved-clause-follows : goal.returns-in-Starved-clause-follows
returns-in-Starved-clause-follows g c start role own first log gave stays =
    let same : c.args.self.now.held.items ≡ c.pop_front.new.self.items = cc c.in_default.ensures.items in
    let none : c.args.self.now.held.items ≡ [] = none_of _ (omega (arith, c.in_default.ensures.cases, c.args.self.now.held.ok)) in
    gives_refused g.L.Link g.P.Protocols g.P.H.Handler start role own first log gave c.args.self.now.link c.args.self.now.core c.args.self.now.unsent.items
    c.args.self.now.held.items c.pop_front.new.self.items c.args.self.now.stage c.in-Starved.is same none stays
