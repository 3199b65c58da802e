use Rattle.std.proofs.Common.{Err, ap, ◌∙◌}
use Rattle.node_words.proofs.Keys.{no_key}
use Rattle.node_words.proofs.trace_options.key_option.Goals as goal

pub returns-in-Err-Key-clause-no_key : goal.returns-in-Err-Key-clause-no_key
returns-in-Err-Key-clause-no_key c = λ h. no_key c.args.hex.now c.in-Err-Key.field-0-0 (c.key_of.ensures.no_key c.in-Err-Key.field-0-0 (c.in-Err-Key.is ∙ ap Err c.in-Err-Key.field-0-is))
