use Rattle.std.proofs.Common.{refl}
use Rattle.swarm_calls.proofs.Prefixes.{prefix_self}
use Rattle.node_check.proofs.frozen_tests.FrozenLooking.renew.Goals as goal

pub returns-clause-later : goal.returns-clause-later
returns-clause-later g c = record {
  number = refl;
  legal = c.listing.ensures.legal;
  begins = prefix_self _;
  callers_are = c.listing.ensures.callers;
}
