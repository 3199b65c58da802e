use Rattle.std.proofs.Common.{◌+◌}
use Rattle.bench_swarm.proofs.shared.rate.Given as goal

abbrev pub ghosts-rate_of-J-Identity : goal.ghosts-rate_of-J-Identity
ghosts-rate_of-J-Identity g a = record { book = a.history; config = a.config; callers = a.plan.now.threads + 1 }

abbrev pub ghosts-rate_of-L1-Ledger : goal.ghosts-rate_of-L1-Ledger
ghosts-rate_of-L1-Ledger g a = record { name = a.ledgers.first.name; parts = a.ledgers.first.parts }

abbrev pub ghosts-rate_of-L2-Ledger : goal.ghosts-rate_of-L2-Ledger
ghosts-rate_of-L2-Ledger g a = record { name = a.ledgers.second.name; parts = a.ledgers.second.parts }

abbrev pub ghosts-rate_of-L3-Ledger : goal.ghosts-rate_of-L3-Ledger
ghosts-rate_of-L3-Ledger g a = record { name = a.ledgers.third.name; parts = a.ledgers.third.parts }

abbrev pub ghosts-rate_of-L4-Ledger : goal.ghosts-rate_of-L4-Ledger
ghosts-rate_of-L4-Ledger g a = record { name = a.ledgers.fourth.name; parts = a.ledgers.fourth.parts }

abbrev pub ghosts-rate_of-L5-Ledger : goal.ghosts-rate_of-L5-Ledger
ghosts-rate_of-L5-Ledger g a = record { name = a.ledgers.fifth.name; parts = a.ledgers.fifth.parts }

abbrev pub ghosts-rate_of-L6-Ledger : goal.ghosts-rate_of-L6-Ledger
ghosts-rate_of-L6-Ledger g a = record { name = a.ledgers.sixth.name; parts = a.ledgers.sixth.parts }

abbrev pub ghosts-rate_of-L7-Ledger : goal.ghosts-rate_of-L7-Ledger
ghosts-rate_of-L7-Ledger g a = record { name = a.ledgers.seventh.name; parts = a.ledgers.seventh.parts }

abbrev pub ghosts-rate_of-L8-Ledger : goal.ghosts-rate_of-L8-Ledger
ghosts-rate_of-L8-Ledger g a = record { name = a.ledgers.eighth.name; parts = a.ledgers.eighth.parts }
