use Rattle.node_place.proofs.OnePlace.{one_place, one_fault, either}
use Rattle.node_place.proofs.Printed.{printed_names}
use Rattle.node_place.proofs.laws.one_place.Goals as goal

pub returns : goal.returns
returns c = record { place = one_place; fault = one_fault; either = either; printed = printed_names }
