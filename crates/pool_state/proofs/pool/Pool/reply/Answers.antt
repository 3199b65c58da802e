use Rattle.std.proofs.Common.{◌∙◌, sym, arith}
use Rattle.pool_state.proofs.Replies.{replied, few_at, low}
use Rattle.pool_state.proofs.pool.Pool.reply.Goals as goal

pub returns-in-None : goal.returns-in-None
returns-in-None c config history at =
    replied config history c.args.self.now at c.args.call c.answer.result (low c.args.self.now.listing.front (omega arith)) (sym c.refusal.ensures ∙ c.in-None.is) (c.answer.ensures (few_at config history c.args.self.now at))
