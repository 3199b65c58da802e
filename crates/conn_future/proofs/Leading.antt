-- A turn leads on, by a list that has grown.
use Rattle.std.proofs.Common.{List, []}
use Rattle.conn_link.specs.declared.link.Link.{Ghosts as LinkGhosts}
use Rattle.handlers.specs.declared.handler.Handler.{Ghosts as HandlerGhosts}
use Rattle.handlers.specs.declared.protocols.Protocols.{Ghosts as ProtocolsGhosts}
use Rattle.peer_ids.specs.Key.{Key}
use Rattle.upgrade.specs.declared.role.ConnRole.{ConnRole}
use Rattle.conn_log.specs.declared.event.ConnEvent.{ConnEvent}
use Rattle.conn_log.specs.Entries.{Entry}
use Rattle.conn_core.specs.Connects.{IsGrown}
use Rattle.conn_core.proofs.Growing.{stays, grown_on}
use Rattle.conn_future.specs.declared.conn.Conn.{Conn}
use Rattle.conn_future.specs.declared.turns.Turn.{Turn}
use Rattle.conn_future.specs.Follows.{Carries, Gives}
use Rattle.conn_future.specs.Turning.{Leads}

module _ {L P H : Type 0} (link : LinkGhosts L) (protocols : ProtocolsGhosts P H) (handler : HandlerGhosts H) where
  -- from a list that had grown before
  pub leads_behind : (start : P) (role : ConnRole) (own : Key) (first : L) (log between : List (Entry H)) (gave : List (ConnEvent H)) (result : Turn H) (new : Conn L P H link protocols handler)
      → IsGrown [] log between → Leads link protocols handler start role own first between gave result new → Leads link protocols handler start role own first log gave result new
  leads_behind start role own first log between gave result new grown leads = record {
    now = leads.now;
    grown = grown_on [] [] log between leads.now grown leads.grown;
    follows = leads.follows;
    not_link = leads.not_link;
    not_none = leads.not_none;
  }

  -- by the same list is by one that has grown by nothing
  pub gives_carries : (old : Conn L P H link protocols handler) (events : List (ConnEvent H)) (new : Conn L P H link protocols handler)
      → Gives link protocols handler old events new → Carries link protocols handler old events new
  gives_carries old events new gives start role own first log gave follows = (log, stays log, gives start role own first log gave follows)
