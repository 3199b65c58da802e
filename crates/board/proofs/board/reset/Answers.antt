use Rattle.std.proofs.Common.{inl, inr, subst}
use Rattle.yamux_session.specs.declared.event.ActRefused.{ActRefused}
use Rattle.yamux_session.specs.Acts.{stream_refusal, IsRefusedFor}
use Rattle.serving.proofs.Refusals.{not_live}
use Rattle.board.proofs.board.reset.Goals as goal

pub returns-in-Ok : goal.returns-in-Ok
returns-in-Ok c = λ role past fed sent at. inl (c.in-Ok.ensures.ok role past fed sent at)

pub returns-in-Err-NoStream : goal.returns-in-Err-NoStream
returns-in-Err-NoStream c = λ role past fed sent at. inr (
  c.in-Err-NoStream.ensures.err,
  not_live role past c.args.number
      (subst (λ (r : ActRefused). IsRefusedFor (stream_refusal role past c.args.number) r) c.in-Err-NoStream.field-0-is (c.in-Err-NoStream.ensures.refused role past fed sent at)),
)
