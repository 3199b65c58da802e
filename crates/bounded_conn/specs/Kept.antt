-- What a bounded connection keeps from one call to the next.
-- Source: this project's profile.
use Rattle.std.specs.Prelude.{◌≡◌}
use Rattle.handlers.specs.declared.handler.Handler.{Ghosts as HandlerGhosts}
use Rattle.handlers.specs.declared.protocols.Protocols.{Ghosts as ProtocolsGhosts}
use Rattle.conn_link.specs.declared.link.Link.{Ghosts as LinkGhosts}
use Rattle.bounded_conn.specs.declared.bounded.BoundedConn.{BoundedConn}

-- the connection, unless it was dropped, and nothing else
abbrev pub KeepsFields : {L P H : Type 0} → LinkGhosts L → ProtocolsGhosts P H → HandlerGhosts H → Type 0
KeepsFields {L} {P} {H} link protocols handler = (bounded : BoundedConn L P H link protocols handler)
    → bounded ≡ record { conn = bounded.conn; bounded = bounded.bounded }
