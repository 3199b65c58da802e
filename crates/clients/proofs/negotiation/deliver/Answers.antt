use Rattle.std.proofs.Common.{ap}
use Rattle.ms_select.specs.Sides.{Negotiating}
use Rattle.clients.proofs.Agreeing.{goes_on}
use Rattle.clients.proofs.negotiation.deliver.Goals as goal

pub returns : goal.returns
returns c joined =
    let names = λ (x : Negotiating). x.names in
    goes_on c.args.dialer.now c.take_output-said.new.self c.feed-2.new.self c.args.listener.now c.feed.new.self c.take_output-replied.new.self
    c.take_output-said.result.items c.deref.result.now c.take_output-replied.result.items c.deref-2.result.now c.in_ok-heard.heard c.in_ok-told.told
    c.deref.ensures.value c.deref-2.ensures.value
    (ap names c.take_output-said.ensures.kept) c.take_output-said.ensures.stands
    c.in_ok-heard.ensures.names c.in_ok-heard.ensures.stands c.in_ok-heard.ensures.listens
    c.take_output-replied.ensures.output (ap names c.take_output-replied.ensures.kept) c.take_output-replied.ensures.stands
    c.in_ok-told.ensures.names c.in_ok-told.ensures.stands c.in_ok-told.ensures.dials joined
