use Rattle.pool_state.proofs.Legal.{legal_less}
use Rattle.pool_state.proofs.laws.last_reply.Goals as goal

pub returns : goal.returns
returns c config history last legal =
    let is = (legal_less config history last legal).1 in
    (is.reply_is, is.not_spent)
