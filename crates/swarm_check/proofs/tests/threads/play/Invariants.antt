use Rattle.swarm_check.proofs.tests.threads.play.Given as goal

abbrev pub ghosts-run-J-Identity : goal.ghosts-run-J-Identity
ghosts-run-J-Identity g a = record { book = a.history; config = a.config; callers = a.callers }

abbrev pub ghosts-run-L1-Ledger : goal.ghosts-run-L1-Ledger
ghosts-run-L1-Ledger g a = record { name = a.ledgers.first.name; parts = a.ledgers.first.parts }

abbrev pub ghosts-run-L2-Ledger : goal.ghosts-run-L2-Ledger
ghosts-run-L2-Ledger g a = record { name = a.ledgers.second.name; parts = a.ledgers.second.parts }

abbrev pub ghosts-run-L3-Ledger : goal.ghosts-run-L3-Ledger
ghosts-run-L3-Ledger g a = record { name = a.ledgers.third.name; parts = a.ledgers.third.parts }

abbrev pub ghosts-run-L4-Ledger : goal.ghosts-run-L4-Ledger
ghosts-run-L4-Ledger g a = record { name = a.ledgers.fourth.name; parts = a.ledgers.fourth.parts }

abbrev pub ghosts-run-L5-Ledger : goal.ghosts-run-L5-Ledger
ghosts-run-L5-Ledger g a = record { name = a.ledgers.fifth.name; parts = a.ledgers.fifth.parts }

abbrev pub ghosts-run-L6-Ledger : goal.ghosts-run-L6-Ledger
ghosts-run-L6-Ledger g a = record { name = a.ledgers.sixth.name; parts = a.ledgers.sixth.parts }

abbrev pub ghosts-run-L7-Ledger : goal.ghosts-run-L7-Ledger
ghosts-run-L7-Ledger g a = record { name = a.ledgers.seventh.name; parts = a.ledgers.seventh.parts }

abbrev pub ghosts-run-L8-Ledger : goal.ghosts-run-L8-Ledger
ghosts-run-L8-Ledger g a = record { name = a.ledgers.eighth.name; parts = a.ledgers.eighth.parts }
