use Rattle.node_words.proofs.options.config_of.Goals as goal

pub returns-in_default-number_64-clause-no_number : goal.returns-in_default-number_64-clause-no_number
returns-in_default-number_64-clause-no_number c = λ is limits conn front has first second.
    c.in_default-number_64.not-Some front (c.number_64.ensures.only front second)
