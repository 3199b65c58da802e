use Rattle.std.proofs.Common.{◌≡◌, sym, subst}
use Rattle.pool_state.specs.declared.limits.Config.{Config}
use Rattle.clients.specs.Swarm.{ShowsBoth}
use Rattle.clients.proofs.swarm.two_callers.Goals as goal

pub returns-clause-listed : goal.returns-clause-listed
returns-clause-listed g c n m is is' =
    subst (λ (config : Config). ShowsBoth config c.dial_list_close.result.0.listing n c.args.a m c.args.b) (sym c.requires.config) (c.dial_list_close.ensures.listed n m is is')

pub returns-clause-closed : goal.returns-clause-closed
returns-clause-closed g c n m is is' =
    subst (λ (config : Config). ShowsBoth config c.dial_list_close.result.1.listing n c.args.a m c.args.b × (c.dial_list_close.result.1.calls ≡ 2)) (sym c.requires.config) (c.dial_list_close.ensures.closed n m is is')
