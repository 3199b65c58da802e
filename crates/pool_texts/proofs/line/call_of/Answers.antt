use Rattle.std.proofs.Common.{Some, ap, sym, ◌∙◌, rules}
use Rattle.pool_texts.proofs.Lines.{dial_alone}
use Rattle.pool_texts.proofs.line.call_of.Goals as goal

pub returns-in-dial-clause-only : goal.returns-in-dial-clause-only
returns-in-dial-clause-only c = λ other named rest. ap Some (dial_alone c.args.words.now other (search rules) (sym c.in-dial.is ∙ named) rest)
