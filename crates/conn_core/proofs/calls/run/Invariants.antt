use Rattle.std.proofs.Common.{false, [], take}
use Rattle.conn_core.specs.Runs.{Point, IsAt, AnswersAll}
use Rattle.conn_core.specs.Runs.Point.{At}
use Rattle.conn_core.proofs.calls.run.Given as goal

abbrev pub invariant-loop-act : goal.invariant-loop-act
invariant-loop-act g l = record {
  led : (point : Point g.row.P-H.Denot)
      × AnswersAll g.P.H.Handler.steps g.P.H.Handler.fails g.P.H.Handler.is_closed g.P.H.Handler.is_finished g.P.Protocols.makes_inbound g.P.Protocols.makes_outbound g.P.Protocols.listed
      g.P.Protocols.is_eager g.P.Protocols.leads_inbound g.P.Protocols.leads_outbound l.fn.protocols l.fn.role l.fn.key (At [] false [] [] []) (take l.act-index l.acts) l.answers.items point
      × IsAt g.P.H.Handler.steps g.P.H.Handler.fails g.P.H.Handler.is_closed g.P.H.Handler.is_finished g.P.Protocols.makes_inbound g.P.Protocols.makes_outbound g.P.Protocols.listed
      g.P.Protocols.is_eager g.P.Protocols.leads_inbound g.P.Protocols.leads_outbound l.fn.protocols l.fn.role l.fn.key [] point l.core;
}
