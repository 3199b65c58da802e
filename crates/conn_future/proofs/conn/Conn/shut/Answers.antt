use Rattle.conn_future.proofs.Standing.{stays_shut}
use Rattle.conn_future.proofs.conn.Conn.shut.Goals as goal

pub returns-in-Going-clause-follows : goal.returns-in-Going-clause-follows
returns-in-Going-clause-follows g c start role own first log gave stays =
    stays_shut g.L.Link g.P.Protocols g.P.H.Handler start role own first log gave c.args.self.now.link c.args.self.now.core c.args.self.now.unsent.items c.args.self.now.held.items
    c.args.self.now.stage c.in-Going.is stays
