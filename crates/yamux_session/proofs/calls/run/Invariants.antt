use Rattle.std.proofs.Common.{[], take}
use Rattle.yamux_session.specs.Runs.{Point, Stands, AnswersAll}
use Rattle.yamux_session.specs.Runs.Point.{At}
use Rattle.yamux_session.proofs.calls.run.Given as goal

abbrev pub invariant-loop-act : goal.invariant-loop-act
invariant-loop-act l = record {
  led : (point : Point) × AnswersAll l.fn.role (At [] []) (take l.act-index l.acts) l.answers.items point × Stands l.fn.role point l.session;
}
