use Rattle.node_words.proofs.trace_options.traced_in.Goals as goal

pub returns-clause-key : goal.returns-clause-key
returns-clause-key c = rw c.word_or-key.ensures at c.traced_of.ensures.key

pub returns-clause-no_role : goal.returns-clause-no_role
returns-clause-no_role c = rw c.word_or.ensures at c.traced_of.ensures.no_role

pub returns-clause-no_key : goal.returns-clause-no_key
returns-clause-no_key c = rw c.word_or-key.ensures at c.traced_of.ensures.no_key

pub returns-clause-no_payload : goal.returns-clause-no_payload
returns-clause-no_payload c = rw c.word_or-2.ensures at (rw c.word_or-key.ensures at c.traced_of.ensures.no_payload)

pub returns-clause-memory : goal.returns-clause-memory
returns-clause-memory c = rw c.word_or-key.ensures at c.traced_of.ensures.memory
