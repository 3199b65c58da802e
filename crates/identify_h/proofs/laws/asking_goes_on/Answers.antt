use Rattle.std.proofs.Common.{[], inr}
use Rattle.identify_h.proofs.laws.asking_goes_on.Goals as goal

pub returns : goal.returns
returns c = λ input asks. record { bodies = asks.0; rest = asks.1; begins = asks.2; part = inr (asks.3, inr (asks.4.0, [], asks.4.1, asks.4.2)) }
