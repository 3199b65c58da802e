use Rattle.std.proofs.Common.{◌≡◌, Err, ap, ◌∙◌}
use Rattle.node_words.specs.declared.options.BadOption.TheVariants.{Key}
use Rattle.node_words.proofs.trace_options.traced_of.Goals as goal

pub returns-in-Err-clause-no_key : goal.returns-in-Err-clause-no_key
returns-in-Err-clause-no_key c = λ h.
    let bad : c.in-Err.bad ≡ Key = cc h in
    c.key_option.ensures.no_key (c.in-Err.is ∙ ap Err bad)
