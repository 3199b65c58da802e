use Rattle.pool_texts.proofs.Words.{pair_parted, pair_known}
use Rattle.pool_texts.proofs.line.pair_of.Goals as goal

pub returns-clause-parted : goal.returns-clause-parted
returns-clause-parted c = pair_parted c.args.words.now c.split_once.result c.split_once.ensures.cases

pub returns-clause-only : goal.returns-clause-only
returns-clause-only c = λ first second. pair_known c.args.words.now first second c.split_once.result c.split_once.ensures.cases
