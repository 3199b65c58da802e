use Rattle.std.proofs.Common.{ap, sym, ◌∙◌}
use Rattle.std.specs.Result.{result_ok}
use Rattle.pool_texts.proofs.Words.{number_known}
use Rattle.node_words.proofs.values.number_32.Goals as goal

pub returns-clause-only : goal.returns-clause-only
returns-clause-only c = λ number is.
    let read = rw c.in_ok-digits.ensures.same at c.parse.ensures.value.0 in
    c.ok.ensures.value ∙ ap result_ok (number_known 32 c.word_or.result.now c.parse.result read number (rw (sym c.word_or.ensures) at is))
