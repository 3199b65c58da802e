use Rattle.std.proofs.Common.{[], sym, ◌∙◌, inr}
use Rattle.std.proofs.lemmas.List.{append-nil}
use Rattle.std.proofs.lemmas.Result.{err_from_is_err_and}
use Rattle.upgrade.proofs.Hearing.{loses, turned_down}
use Rattle.upgrade.proofs.stages.hear.Goals as goal

pub returns-in_err-keep_output-clause-heard : goal.returns-in_err-keep_output-clause-heard
returns-in_err-keep_output-clause-heard c = λ side input before w.
    let p = err_from_is_err_and c.from_residual.result c.from_residual.ensures.1 in
    let h = c.hear-heard.ensures in
    rw (p.1, p.2) (
      [],
      c.in_err-keep_output.ensures.refused ∙ sym (append-nil c.args.output.now.items),
      inr (loses c.keep_output.new.output.items (λ e. c.in_err-keep_output.ensures.waits (sym c.in_err-keep_output.ensures.refused ∙ e)) side c.args.talk.now input c.args.piece.now before c.hear-heard.new.self.pending c.hear-heard.result w c.in_err-keep_output.ensures.some
          (h.talks input before w.stands) (h.fault w.going input before w.stands) (h.memory w.going input before w.stands)),
    )

pub returns-in-NoneLeft-clause-heard : goal.returns-in-NoneLeft-clause-heard
returns-in-NoneLeft-clause-heard c = λ side input before w. (
  c.hear-heard.new.self.pending,
  c.in_ok-keep_output.ensures.kept,
  turned_down c.keep_output.new.output.items side c.args.talk.now c.keep_output.new.talk input c.args.piece.now before c.hear-heard.new.self.pending c.in_ok-step.step.used c.in_ok-step.step.answer w c.in-NoneLeft.is
      (c.in_ok-step.ensures.talks input before w.stands),
)
