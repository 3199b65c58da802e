use Rattle.multiaddr.proofs.OneAddress.{one_address, one_fault, address_or_fault}
use Rattle.multiaddr.proofs.laws.one_reading.Goals as goal

pub returns : goal.returns
returns c = record { address = one_address; fault = one_fault; either = address_or_fault }
