use Rattle.std.proofs.Common.{ap, sym, ◌∙◌}
use Rattle.std.specs.Result.{result_ok}
use Rattle.pool_texts.proofs.Words.{number_known}
use Rattle.node_lines.proofs.script.index_of.Goals as goal

pub returns-in_err-index-clause-only : goal.returns-in_err-index-clause-only
returns-in_err-index-clause-only c = λ number is small.
    let read = rw c.in_ok-digits.ensures.same at c.parse.ensures.value.0 in
    let known = c.ok.ensures.value ∙ ap result_ok (number_known 8 c.args.word.now c.parse.result read number is) in
    c.from_residual-in_err-index.ensures ∙ sym c.in_err-index.was ∙ known
