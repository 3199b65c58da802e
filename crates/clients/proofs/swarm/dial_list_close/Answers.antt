use Rattle.std.proofs.Common.{◌≡◌, ◌∷◌, [], List, length, rules, sym, subst, ◌∙◌}
use Rattle.pool_state.specs.declared.listing.Listing.{Listing}
use Rattle.pool_state.specs.History.{Entry}
use Rattle.pool_state.specs.Shown.{Shown}
use Rattle.swarm_calls.specs.Calls.{IsWhole}
use Rattle.clients.specs.Swarm.{ShowsBoth}
use Rattle.clients.proofs.Dialing.{all_here, closed_is}
use Rattle.clients.proofs.swarm.dial_list_close.Goals as goal

pub unreachable-requires-in_default-close : goal.unreachable-requires-in_default-close
unreachable-requires-in_default-close g c =
    let passes_are : c.push-2.new.self.items ≡ c.dial_and_list-dials.new.first ∷ c.dial_and_list-dials.new.second ∷ [] = search rules in
    c.in_default-close.ensures.missing
    (all_here c.args.swarm c.push-2.new.self.items c.dial_and_list-dials.new.first c.dial_and_list-dials.new.second c.requires.callers passes_are c.dial_and_list-dials.ensures.numbers.0 c.dial_and_list-dials.ensures.numbers.1)

pub returns-clause-closed : goal.returns-clause-closed
returns-clause-closed g c n m is is' =
    let config = g.J.Identity.config in
    let a = c.args.a in
    let b = c.args.b in
    let passes_are : c.push-2.new.self.items ≡ c.dial_and_list-dials.new.first ∷ c.dial_and_list-dials.new.second ∷ [] = search rules in
    let closed : (h : List Entry) × (IsWhole config c.args.swarm c.push-2.new.self.items h × ((c.in-Ok-close.closed.listing ≡ Shown config h) × (c.in-Ok-close.closed.calls ≡ length h))) = search rules in
    let whole = closed_is c.calls_add_up.ensures c.beginning_is_legal.ensures c.last_reply.ensures c.next_number_is_given.ensures c.added_is_shown.ensures config
    c.args.swarm c.push-2.new.self.items c.dial_and_list-dials.new.first c.dial_and_list-dials.new.second closed.0 n m a b c.requires.callers passes_are
    (c.dial_and_list-dials.ensures.first n is) (c.dial_and_list-dials.ensures.second m is') closed.1.0 in
    (subst (λ (l : Listing). ShowsBoth config l n a m b) (sym closed.1.1.0) whole.1, closed.1.1.1 ∙ whole.0)
