use Rattle.std.proofs.Common.{◌≡◌, ℕ, List, sym, subst, ◌∙◌}
use Rattle.multiaddr.specs.Part.{SpellsAddress}
use Rattle.node_place.specs.Places.{IsHost}
use Rattle.node_place.proofs.place.place_of.Goals as goal

pub returns-in-Err-clause-only_fault : goal.returns-in-Err-clause-only_fault
returns-in-Err-clause-only_fault c = λ fault h. let e = c.in-Err.ensures.only_fault fault h in cc

pub returns-in-Some-clause-found : goal.returns-in-Some-clause-found
returns-in-Some-clause-found c =
    let found = c.in-Ok.ensures.found in
    let a = c.address.invariant.0 in
    let same : c.address.inside.bytes.items ≡ c.in-Ok.address = cc in
    let spelt : SpellsAddress c.in-Ok.address a = subst (λ (b : List ℕ). SpellsAddress b a) same c.address.invariant.1 in (
      found.0,
      found.1,
      record {
        address = a;
        spelt = subst (λ (b : List ℕ). SpellsAddress b a) found.2 spelt;
        host = c.in-Some.ip;
        port = c.in-Some.port;
        socket = c.in-Some.ensures a spelt;
        same = subst (IsHost c.in-Some.ip) (sym c.new.ensures.ip) c.host_of.ensures;
        plain = (c.new.ensures.port, c.new.ensures.flowinfo, c.new.ensures.scope_id);
        peer = c.peer.ensures a spelt;
      },
    )

pub returns-in-Some-clause-only_fault : goal.returns-in-Some-clause-only_fault
returns-in-Some-clause-only_fault c = λ fault h. absurd (let e = c.in-Ok.ensures.only_fault fault h in cc)

pub returns-in-None-clause-only_fault : goal.returns-in-None-clause-only_fault
returns-in-None-clause-only_fault c = λ fault h. absurd (let e = c.in-Ok.ensures.only_fault fault h in cc)

pub returns-clause-only_fault : goal.returns-clause-only_fault
returns-clause-only_fault c = λ fault h. absurd (let e = c.in-Ok.ensures.only_fault fault h in cc)

pub returns-clause-fault : goal.returns-clause-fault
returns-clause-fault c =
    let found = c.in-Ok.ensures.found in
    let a = c.address.invariant.0 in
    let same : c.address.inside.bytes.items ≡ c.in-Ok.address = cc in
    let spelt : SpellsAddress c.in-Ok.address a = subst (λ (b : List ℕ). SpellsAddress b a) same c.address.invariant.1 in (
      found.0,
      found.1,
      (a, subst (λ (b : List ℕ). SpellsAddress b a) found.2 spelt, c.in-None-2.ensures a spelt),
      c.if-is_named.ensures found.0 (c.bytes.ensures.value ∙ found.2),
    )
