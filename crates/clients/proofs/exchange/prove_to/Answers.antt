use Rattle.std.proofs.Common.{ℕ, List, [], ◌++◌}
use Rattle.std.proofs.lemmas.List.{append-nil}
use Rattle.clients.proofs.Proving.{runs_as, is_proven, is_wanting}
use Rattle.clients.proofs.exchange.prove_to.Goals as goal

pub returns-clause-proven : goal.returns-clause-proven
returns-clause-proven c key allowed is =
    let sent : List ℕ = c.args.sent.now in
    is_proven c.own_is_proven.ensures c.one_outcome.ensures key allowed sent is c.exchange_keys.result
    (runs_as sent (sent ++ []) c.exchange_keys.result (append-nil sent) (record { ok = c.exchange_keys.ensures.outcome; err = c.exchange_keys.ensures.fault }))

pub returns-clause-fault : goal.returns-clause-fault
returns-clause-fault c key allowed is =
    let sent : List ℕ = c.args.sent.now in
    is_wanting c.own_is_proven.ensures c.one_outcome.ensures key allowed sent is c.exchange_keys.result
    (runs_as sent (sent ++ []) c.exchange_keys.result (append-nil sent) (record { ok = c.exchange_keys.ensures.outcome; err = c.exchange_keys.ensures.fault }))
