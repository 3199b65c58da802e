use Rattle.std.proofs.Common.{ap, ◌≡◌, sym, subst, ◌∙◌}
use Rattle.std.specs.Net.Addr.{IsV6And, ipv6_segments, segments_of}
use Rattle.std.specs.declared.net.ip_addr.IpAddr.{IpAddr}
use Rattle.node_place.proofs.Bytes.{segments_again}
use Rattle.node_place.proofs.place.ip_of.Goals as goal

pub returns-in-V6-clause-same : goal.returns-in-V6-clause-same
returns-in-V6-clause-same c =
    subst (λ (host : IpAddr). IsV6And host (λ ip. ipv6_segments ip ≡ segments_of c.octets-in-V6.result)) (sym c.in-V6.is)
    (sym (ap segments_of c.octets-in-V6.ensures ∙ segments_again (ipv6_segments c.in-V6.ip)))
