use Rattle.std.proofs.Common.{Some}
use Rattle.pool_state.specs.declared.call.Call.TheVariants.{Dial}
use Rattle.clients.proofs.Dialing.{shows_call}
use Rattle.clients.proofs.swarm.dial_then_list.Goals as goal

pub returns : goal.returns
returns g c made =
    shows_call g.J.Identity.config g.J.Identity.callers (Dial (Some c.args.peer)) c.dial-reply.result c.list-listing.result c.args.pass.now c.dial-reply.new.pass c.list-listing.new.pass
    c.dial-reply.ensures.later (c.dial-reply.ensures.made made) c.list-listing.ensures.later c.list-listing.ensures.shown
