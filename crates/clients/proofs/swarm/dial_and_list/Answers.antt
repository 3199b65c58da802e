use Rattle.std.proofs.Common.{ℕ, ap, sym, subst, ◌∙◌}
use Rattle.pool_state.specs.declared.listing.Listing.{Listing}
use Rattle.swarm_calls.specs.History.{mine, IsOf}
use Rattle.clients.specs.Swarm.{ShowsBoth, HasDialed}
use Rattle.clients.proofs.Dialing.{is_made, has_dialed, still, seen_is}
use Rattle.clients.proofs.swarm.dial_and_list.Goals as goal

pub returns-clause-listed : goal.returns-clause-listed
returns-clause-listed g c n m is is' =
    let config = g.J.Identity.config in
    let callers = g.J.Identity.callers in
    let a = c.args.a in
    let b = c.args.b in
    let dialed : HasDialed 1 c.dial-one.new.pass n a =
    has_dialed config callers 1 n a c.dial-one.result c.args.first.now c.dial-one.new.pass c.requires.passes.0 c.dial-one.ensures.later (c.dial-one.ensures.made (is_made c.dial-one.result n is)) is in
    let dialed' : HasDialed 2 c.dial-other.new.pass m b =
    has_dialed config callers 2 m b c.dial-other.result c.args.second.now c.dial-other.new.pass c.requires.passes.1 c.dial-other.ensures.later (c.dial-other.ensures.made (is_made c.dial-other.result m is')) is' in
    let met = still config callers 1 n a c.dial-one.new.pass c.meet.new.one dialed c.meet.ensures.one.0 c.meet.ensures.one.1 in
    let met' = still config callers 2 m b c.dial-other.new.pass c.meet.new.other dialed' c.meet.ensures.other.0 c.meet.ensures.other.1 in
    let listed = still config callers 1 n a c.meet.new.one c.list-listing.new.pass met c.list-listing.ensures.later c.list-listing.ensures.own in
    let last = still config callers 1 n a c.list-listing.new.pass c.meet-2.new.one listed c.meet-2.ensures.one.0 c.meet-2.ensures.one.1 in
    let last' = still config callers 2 m b c.meet.new.other c.meet-2.new.other met' c.meet-2.ensures.other.0 c.meet-2.ensures.other.1 in
    let early : IsOf 2 c.meet.new.one.seen = subst (λ (k : ℕ). IsOf k c.meet.new.one.seen) c.requires.callers c.meet.ensures.one.0.callers_are in
    let late : IsOf 2 c.meet-2.new.one.seen = subst (λ (k : ℕ). IsOf k c.meet-2.new.one.seen) c.requires.callers c.meet-2.ensures.one.0.callers_are in
    let shown = seen_is c.calls_add_up.ensures c.beginning_is_legal.ensures c.last_reply.ensures c.next_number_is_given.ensures c.added_is_shown.ensures config
    c.meet.new.one.seen c.list-listing.new.pass.seen c.meet-2.new.one.seen n m a b early c.list-listing.ensures.later.begins c.meet-2.ensures.one.0.begins c.meet-2.ensures.one.0.legal late
    met.calls (ap (mine 2) c.meet.ensures.same ∙ met'.calls) last.calls (ap (mine 2) c.meet-2.ensures.same ∙ last'.calls) in
    subst (λ (l : Listing). ShowsBoth config l n a m b) (sym c.list-listing.ensures.shown) shown
