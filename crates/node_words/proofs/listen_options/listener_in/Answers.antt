use Rattle.std.proofs.Common.{◌≡◌, Err, ap, ◌∙◌}
use Rattle.node_words.specs.declared.options.BadOption.TheVariants.{Key}
use Rattle.node_words.proofs.listen_options.listener_in.Goals as goal

pub returns-in-Err-clause-no_key : goal.returns-in-Err-clause-no_key
returns-in-Err-clause-no_key c = λ h.
    let bad : c.in-Err.bad ≡ Key = cc h in
    c.key_in.ensures.no_key (c.in-Err.is ∙ ap Err bad)
