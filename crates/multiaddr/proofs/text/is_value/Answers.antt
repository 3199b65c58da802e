use Rattle.std.proofs.Common.{◌∙◌, sym}
use Rattle.multiaddr.proofs.Values.{some_ip4, none_ip4, some_port, some_ip6, none_ip6, some_name, some_id, none_id}
use Rattle.multiaddr.proofs.text.is_value.Goals as goal

pub returns-in-Ip4-clause-found : goal.returns-in-Ip4-clause-found
returns-in-Ip4-clause-found c = λ e. rw c.in-Ip4.is (some_ip4 c.args.text.now c.parse.result c.parse.ensures.value (sym c.is_ok.ensures.value ∙ e))

pub returns-in-Ip4-clause-none : goal.returns-in-Ip4-clause-none
returns-in-Ip4-clause-none c = λ e. rw c.in-Ip4.is (none_ip4 c.args.text.now c.parse.result c.parse.ensures.value (sym c.is_ok.ensures.value ∙ e))

pub returns-in-Tcp-clause-found : goal.returns-in-Tcp-clause-found
returns-in-Tcp-clause-found c = λ e.
    rw c.in-Tcp.is (some_port c.args.text.now c.read_port.result c.read_port.ensures.fits c.read_port.ensures.found (sym c.is_some.ensures ∙ e))

pub returns-in-Ip6-clause-found : goal.returns-in-Ip6-clause-found
returns-in-Ip6-clause-found c = λ e. rw c.in-Ip6.is (some_ip6 c.args.text.now c.read_ip6.result c.read_ip6.ensures.found (sym c.is_some-in-Ip6.ensures ∙ e))

pub returns-in-Ip6-clause-none : goal.returns-in-Ip6-clause-none
returns-in-Ip6-clause-none c = λ e. rw c.in-Ip6.is (none_ip6 c.args.text.now c.read_ip6.result c.read_ip6.ensures.none (sym c.is_some-in-Ip6.ensures ∙ e))

pub returns-in-Dns-clause-found : goal.returns-in-Dns-clause-found
returns-in-Dns-clause-found c = λ e. some_name c.args.protocol c.args.text.now c.in-Dns.is (rw c.as_bytes.ensures.value at (c.is_name.ensures.0 e))

pub returns-in-P2p-clause-found : goal.returns-in-P2p-clause-found
returns-in-P2p-clause-found c = λ e. rw c.in-P2p.is (some_id c.args.text.now c.from_text.result c.from_text.ensures.reads (sym c.is_ok-in-P2p.ensures.value ∙ e))

pub returns-in-P2p-clause-none : goal.returns-in-P2p-clause-none
returns-in-P2p-clause-none c = λ e. rw c.in-P2p.is (none_id c.args.text.now c.from_text.result c.from_text.ensures.only (sym c.is_ok-in-P2p.ensures.value ∙ e))
