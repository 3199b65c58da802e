use Rattle.pool_state.proofs.pool.Pool.apply.Goals as goal

pub returns-clause-moved : goal.returns-clause-moved
returns-clause-moved c config history caller at not_spent =
    c.commit.ensures.moved config history caller at (c.reply-reply.ensures config history at) not_spent
