use Rattle.std.proofs.Common.{[], refl, ◌∙◌}
use Rattle.clients.proofs.Agreeing.{came_as, some_came, some_name}
use Rattle.clients.proofs.negotiation.negotiate.Goals as goal

pub rounds-init : goal.rounds-init
rounds-init c = record {
  dialed = refl;
  served = refl;
  joined = record { to_dialer = []; to_listener = []; used = 0; also = 0; dialer = c.in_ok-dialer.ensures.fresh.1; listener = c.in_ok-listener.ensures.fresh.2 };
  came = tt;
  none = refl;
}

pub rounds-preserved : goal.rounds-preserved
rounds-preserved c =
    let at = c.rounds.invariant in
    let next = c.in_ok-deliver.ensures at.joined in
    record {
      dialed = next.dialed ∙ at.dialed;
      served = next.served ∙ at.served;
      joined = next.joined;
      came = came_as c.in_ok-dialer.dialer.names c.in_ok-listener.listener.names c.rounds.dialer.names c.rounds.listener.names c.in_ok-deliver.field-0 at.dialed at.served next.came;
      none = tt;
    }

pub returns-clause-came : goal.returns-clause-came
returns-clause-came c =
    some_came _ _ c.in_ok-dialer.dialer.names c.in_ok-listener.listener.names c.rounds.ends c.in_ok-dialer.ensures.names c.in_ok-listener.ensures.names c.rounds.invariant.came

pub returns-clause-name : goal.returns-clause-name
returns-clause-name c =
    some_name c.one_name.ensures _ _ c.rounds.ends
    (some_came _ _ c.in_ok-dialer.dialer.names c.in_ok-listener.listener.names c.rounds.ends c.in_ok-dialer.ensures.names c.in_ok-listener.ensures.names c.rounds.invariant.came)
