use Rattle.peer_ids.specs.Key.{Key}
use Rattle.upgrade.specs.declared.role.ConnRole.{ConnRole}
use Rattle.script_lines.proofs.Lefts.{left_len}
use Rattle.script_lines.proofs.Standing.{Standing}
use Rattle.trace_script.specs.Played.{Place, PlaysLine, IsIn}
use Rattle.trace_script.proofs.playing.play.Given as goal

abbrev pub invariant-loop-rest : goal.invariant-loop-rest
invariant-loop-rest g l = (start : g.row.P.Denot) (role : ConnRole) (own : Key) (from : Place g.row.P-H.Denot)
    → IsIn g.P.H.Handler.steps g.P.H.Handler.fails g.P.H.Handler.is_closed g.P.H.Handler.is_finished g.P.Protocols.makes_inbound g.P.Protocols.makes_outbound g.P.Protocols.listed
    g.P.Protocols.is_eager g.P.Protocols.leads_inbound g.P.Protocols.leads_outbound start role own from l.fn.core
    → Standing (PlaysLine g.P.H.Handler.steps g.P.H.Handler.fails g.P.H.Handler.is_closed g.P.H.Handler.is_finished g.P.Protocols.makes_inbound g.P.Protocols.makes_outbound g.P.Protocols.listed
    g.P.Protocols.is_eager g.P.Protocols.leads_inbound g.P.Protocols.leads_outbound start role own) from l.script l.rest
    (λ (place : Place g.row.P-H.Denot). IsIn g.P.H.Handler.steps g.P.H.Handler.fails g.P.H.Handler.is_closed g.P.H.Handler.is_finished g.P.Protocols.makes_inbound g.P.Protocols.makes_outbound g.P.Protocols.listed
    g.P.Protocols.is_eager g.P.Protocols.leads_inbound g.P.Protocols.leads_outbound start role own place l.core)
    (g.O.Write.contents l.fn.output) (g.O.Write.contents l.output) l.number

abbrev pub decreases-loop-rest : goal.decreases-loop-rest
decreases-loop-rest g l = left_len l.rest
