use Rattle.std.proofs.Common.{ap, ◌∙◌}
use Rattle.conn_future.specs.Stages.{is_live}
use Rattle.conn_log.specs.declared.event.ConnEvent.TheVariants as event
use Rattle.conn_log.specs.declared.event.ConnFault.TheVariants as fault
use Rattle.conn_future.proofs.Lists.{given_any}
use Rattle.conn_core.proofs.Growing.{stays}
use Rattle.conn_future.proofs.Standing.{parts_stay}
use Rattle.conn_future.proofs.conn.Conn.starve.Goals as goal

pub returns-clause-follows : goal.returns-clause-follows
returns-clause-follows g c start role own first log gave parts =
    let standing =
    parts_stay g.L.Link g.P.Protocols g.P.H.Handler start role own first log gave c.args.self.now.link c.stop.new.self.link c.args.self.now.core c.stop.new.self.core c.stop.new.self.unsent.items
    c.args.self.now.held.items c.stop.new.self.held.items c.stop.new.self.stage c.stop.ensures.stage c.stop.ensures.link c.stop.ensures.core (ap (λ h. h.items) c.stop.ensures.held) parts in record {
      now = log;
      grown = stays log;
      follows = c.give.ensures.follows start role own first log gave standing;
      not_link = λ is. c.give.ensures.not_link start role own first log gave standing (cc is);
      not_none = λ is.
          given_any c.stop.new.self.held.items c.give.result (event.Fault fault.OutOfMemory) (λ x rest held. (c.give.ensures.held x rest held).0)
          (λ none. (c.give.ensures.starved none c.stop.ensures.stage).0) (cc is);
    }

pub returns-clause-stage : goal.returns-clause-stage
returns-clause-stage g c = c.give.ensures.live ∙ ap is_live c.stop.ensures.stage
