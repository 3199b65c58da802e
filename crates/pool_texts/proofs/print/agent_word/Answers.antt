use Rattle.std.proofs.Common.{◌∙◌}
use Rattle.pool_texts.proofs.Printed.{name_read}
use Rattle.pool_texts.proofs.print.agent_word.Goals as goal

pub returns : goal.returns
returns c = rw c.unwrap_or.ensures (name_read _ c.as_bytes.result.now c.from_utf8.result _ c.as_bytes.ensures.name c.from_utf8.ensures.cases ∙ c.as_bytes.ensures.value)
