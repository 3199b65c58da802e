use Rattle.swarm_check.proofs.tests.both.play.Given as goal

abbrev pub ghosts-two_callers-J-Identity : goal.ghosts-two_callers-J-Identity
ghosts-two_callers-J-Identity g a = record { book = a.history; config = a.config; callers = 2 }

abbrev pub ghosts-two_callers-L1-Ledger : goal.ghosts-two_callers-L1-Ledger
ghosts-two_callers-L1-Ledger g a = record { name = a.ledgers.first.name; parts = a.ledgers.first.parts }

abbrev pub ghosts-two_callers-L2-Ledger : goal.ghosts-two_callers-L2-Ledger
ghosts-two_callers-L2-Ledger g a = record { name = a.ledgers.second.name; parts = a.ledgers.second.parts }

abbrev pub ghosts-two_callers-L3-Ledger : goal.ghosts-two_callers-L3-Ledger
ghosts-two_callers-L3-Ledger g a = record { name = a.ledgers.third.name; parts = a.ledgers.third.parts }

abbrev pub ghosts-two_callers-L4-Ledger : goal.ghosts-two_callers-L4-Ledger
ghosts-two_callers-L4-Ledger g a = record { name = a.ledgers.fourth.name; parts = a.ledgers.fourth.parts }

abbrev pub ghosts-two_callers-L5-Ledger : goal.ghosts-two_callers-L5-Ledger
ghosts-two_callers-L5-Ledger g a = record { name = a.ledgers.fifth.name; parts = a.ledgers.fifth.parts }

abbrev pub ghosts-two_callers-L6-Ledger : goal.ghosts-two_callers-L6-Ledger
ghosts-two_callers-L6-Ledger g a = record { name = a.ledgers.sixth.name; parts = a.ledgers.sixth.parts }

abbrev pub ghosts-two_callers-L7-Ledger : goal.ghosts-two_callers-L7-Ledger
ghosts-two_callers-L7-Ledger g a = record { name = a.ledgers.seventh.name; parts = a.ledgers.seventh.parts }

abbrev pub ghosts-two_callers-L8-Ledger : goal.ghosts-two_callers-L8-Ledger
ghosts-two_callers-L8-Ledger g a = record { name = a.ledgers.eighth.name; parts = a.ledgers.eighth.parts }
