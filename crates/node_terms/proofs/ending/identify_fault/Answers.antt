use Rattle.identify_h.specs.declared.fault.IdentifyFault.TheVariants.{TooLong, TooMany, Wire, OtherKey, Cut, OutOfMemory}
use Rattle.node_terms.proofs.Numbers.{of_identify}
use Rattle.node_terms.proofs.ending.identify_fault.Goals as goal

pub returns-in-2 : goal.returns-in-2
returns-in-2 c = of_identify c.args.number TooLong c.in-2.is

pub returns-in-3 : goal.returns-in-3
returns-in-3 c = of_identify c.args.number TooMany c.in-3.is

pub returns-in-4 : goal.returns-in-4
returns-in-4 c = of_identify c.args.number Wire c.in-4.is

pub returns-in-5 : goal.returns-in-5
returns-in-5 c = of_identify c.args.number OtherKey c.in-5.is

pub returns-in-6 : goal.returns-in-6
returns-in-6 c = of_identify c.args.number Cut c.in-6.is

pub returns-in-7 : goal.returns-in-7
returns-in-7 c = of_identify c.args.number OutOfMemory c.in-7.is
