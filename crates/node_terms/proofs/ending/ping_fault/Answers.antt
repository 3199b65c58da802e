use Rattle.ping_h.specs.declared.fault.PingFault.TheVariants.{WrongEcho, Cut, OutOfMemory}
use Rattle.node_terms.proofs.Numbers.{of_ping}
use Rattle.node_terms.proofs.ending.ping_fault.Goals as goal

pub returns-in-2 : goal.returns-in-2
returns-in-2 c = of_ping c.args.number WrongEcho c.in-2.is

pub returns-in-3 : goal.returns-in-3
returns-in-3 c = of_ping c.args.number Cut c.in-3.is

pub returns-in-4 : goal.returns-in-4
returns-in-4 c = of_ping c.args.number OutOfMemory c.in-4.is
