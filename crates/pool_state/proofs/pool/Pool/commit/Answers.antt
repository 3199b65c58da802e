use Rattle.std.proofs.Common.{refl}
use Rattle.pool_state.proofs.Replies.{moved}
use Rattle.pool_state.proofs.pool.Pool.commit.Goals as goal

pub returns-clause-moved : goal.returns-clause-moved
returns-clause-moved c config history caller at reply_is not_spent =
    moved config history caller c.args.self.now _ c.args.call.now c.args.reply.now at reply_is not_spent refl c.add_entry.ensures c.number_after-self.ensures
