use Rattle.std.proofs.Common.{◌≡◌, ℕ, [], ◌∷◌, string_bytes, subst, ◌∙◌}
use Rattle.std.proofs.lemmas.Result.{err_from_is_err_and, IfOk-weaker, IfErr-weaker}
use Rattle.multiaddr.specs.declared.fault.AddrFault.TheVariants.{OutOfMemory}
use Rattle.multiaddr.specs.Part.{SpellsAddress}
use Rattle.multiaddr.specs.Given.{host_part, port_part}
use Rattle.multiaddr.specs.Text.{PrintsParts}
use Rattle.node_place.specs.Places.{IsHost}
use Rattle.node_place.proofs.Spelt.{socket_address, is_spelt, read_fault, printed, print_fault}
use Rattle.node_place.proofs.place.addr_text.Goals as goal

pub returns-in_err-read-in-Ok-clause-memory : goal.returns-in_err-read-in-Ok-clause-memory
returns-in_err-read-in-Ok-clause-memory c =
    let p = err_from_is_err_and c.from_residual.result c.from_residual.ensures.1 in
    let spelt : SpellsAddress c.deref.result.now (socket_address c.ip_of.result c.port.result) =
    is_spelt c.ip_of.result c.port.result c.deref.result.now c.ip_of.ensures.value (c.deref.ensures.value ∙ c.in-Ok.ensures) in
    let fault : c.in_err-read-in-Ok.field-0.0 ≡ OutOfMemory = read_fault c.deref.result.now c.read.result c.in_err-read-in-Ok.field-0.0
    (c.read.ensures.only_address (socket_address c.ip_of.result c.port.result) spelt) c.in_err-read-in-Ok.was in
    rw (p.1, p.2) fault

pub returns-in_ok-read-in-Ok-clause-found : goal.returns-in_ok-read-in-Ok-clause-found
returns-in_ok-read-in-Ok-clause-found c =
    let spelt : SpellsAddress c.in_ok-read-in-Ok.field-0 (socket_address c.ip_of.result c.port.result) =
    is_spelt c.ip_of.result c.port.result c.in_ok-read-in-Ok.field-0 c.ip_of.ensures.value
    (c.in_ok-read-in-Ok.ensures.found ∙ c.deref.ensures.value ∙ c.in-Ok.ensures) in
    IfOk-weaker c.print-in-Ok.result _ _ (λ text h. (
      c.ip_of.result,
      subst (IsHost c.ip_of.result) c.ip.ensures c.ip_of.ensures.same,
      subst (λ (port : ℕ). PrintsParts (string_bytes text) (host_part c.ip_of.result ∷ port_part port ∷ [])) c.port.ensures
          (printed c.ip_of.result c.port.result c.in_ok-read-in-Ok.field-0 (string_bytes text) h.0 spelt h.1 h.3),
    )) c.print-in-Ok.ensures.found

pub returns-in_ok-read-in-Ok-clause-memory : goal.returns-in_ok-read-in-Ok-clause-memory
returns-in_ok-read-in-Ok-clause-memory c =
    let spelt : SpellsAddress c.in_ok-read-in-Ok.field-0 (socket_address c.ip_of.result c.port.result) =
    is_spelt c.ip_of.result c.port.result c.in_ok-read-in-Ok.field-0 c.ip_of.ensures.value
    (c.in_ok-read-in-Ok.ensures.found ∙ c.deref.ensures.value ∙ c.in-Ok.ensures) in
    IfErr-weaker c.print-in-Ok.result _ _ (print_fault c.ip_of.result c.port.result c.in_ok-read-in-Ok.field-0 spelt)
    c.print-in-Ok.ensures.fault
