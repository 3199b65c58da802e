use Rattle.std.proofs.Common.{◌≡◌, false, true, refl}
use Rattle.multiaddr.proofs.Sockets.{other_host, no_port, other_port, other_end, socket_is}
use Rattle.multiaddr.proofs.socket.socket_of.Goals as goal

pub returns-in_default-host : goal.returns-in_default-host
returns-in_default-host c = let first = c.in-Some.ensures.found in other_host c.args.bytes.now c.in-Some.behind_host.now c.in-Some.host_value.now c.in-Some.host_protocol first.0 first.1 c.in_default-host.ensures.none

pub returns-in_default-known_part : goal.returns-in_default-known_part
returns-in_default-known_part c = let first = c.in-Some.ensures.found in no_port c.args.bytes.now c.in-Some.behind_host.now c.in-Some.host_value.now c.in-Some.host_protocol first.0 first.1 c.in_default-known_part.ensures.none

pub returns-in_default-port : goal.returns-in_default-port
returns-in_default-port c =
    let first = c.in-Some.ensures.found in
    let second = c.in-Some-known_part.ensures.found in
    other_port c.args.bytes.now c.in-Some.behind_host.now c.in-Some-known_part.behind_port.now c.in-Some.host_value.now c.in-Some-known_part.port_value.now c.in-Some.host_protocol c.in-Some-known_part.port_protocol first.0 first.1 second.0 second.1 c.in_default-port.ensures.none

pub returns-then-not-ends : goal.returns-then-not-ends
returns-then-not-ends c =
    let first = c.in-Some.ensures.found in
    let second = c.in-Some-known_part.ensures.found in
    other_end c.args.bytes.now c.in-Some.behind_host.now c.in-Some-known_part.behind_port.now c.in-Some.host_value.now c.in-Some-known_part.port_value.now c.in-Some.host_protocol c.in-Some-known_part.port_protocol first.0 first.1 second.0 second.1 (λ h. let impossible : false ≡ true = c.if-not-ends.ensures.1 h in absurd cc)

pub returns : goal.returns
returns c =
    let first = c.in-Some.ensures.found in
    let second = c.in-Some-known_part.ensures.found in
    socket_is c.args.bytes.now c.in-Some.behind_host.now c.in-Some-known_part.behind_port.now c.in-Some.host_value.now c.in-Some-known_part.port_value.now c.in-Some.host_protocol c.in-Some-known_part.port_protocol c.in-Some-host.ip c.in-Some-port.number first.0 first.1 c.in-Some-host.ensures.found second.0 second.1 c.in-Some-port.ensures.found (c.if-not-ends.ensures.0 refl)
