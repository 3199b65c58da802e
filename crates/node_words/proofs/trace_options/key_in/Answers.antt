use Rattle.node_words.proofs.trace_options.key_in.Goals as goal

pub returns-clause-no_key : goal.returns-clause-no_key
returns-clause-no_key c = rw c.word_or.ensures at c.key_option.ensures.no_key
