use Rattle.multiaddr.proofs.TextParts.{address_of as address_in_text}
use Rattle.multiaddr.proofs.address.address_of.Goals as goal

pub invariant_of-result : goal.invariant_of-result
invariant_of-result c =
    let found = c.in_ok-bytes.ensures.found in
    address_in_text _ _ found.0 found.1 found.2
