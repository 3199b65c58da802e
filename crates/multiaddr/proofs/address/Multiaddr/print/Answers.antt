use Rattle.std.proofs.Common.{rules, ◌≡◌, ◌∙◌, string_bytes}
use Rattle.multiaddr.specs.Text.{PrintsParts}
use Rattle.multiaddr.proofs.Printed.{only_opaque}
use Rattle.multiaddr.proofs.address.Multiaddr.print.Goals as goal

pub returns-clause-opaque : goal.returns-clause-opaque
returns-clause-opaque c = λ a spelt opaque.
    let same : c.deref.result.now ≡ c.args.self.now = search rules in
    only_opaque (λ text b. PrintsParts (string_bytes text) b.parts) c.deref.result.now c.print.result a c.print.ensures.found c.print.ensures.fault (spelt.0, same ∙ spelt.1) opaque
