use Rattle.yamux_session.proofs.Limits.{room_for_the_other, room_for_own, exhausted_first, no_second_opening, no_wrong_opening}
use Rattle.yamux_session.proofs.laws.room_for_more.Goals as goal

pub returns-clause-the_other : goal.returns-clause-the_other
returns-clause-the_other c = room_for_the_other

pub returns-clause-own : goal.returns-clause-own
returns-clause-own c = room_for_own

pub returns-clause-exhausted : goal.returns-clause-exhausted
returns-clause-exhausted c = exhausted_first

pub returns-clause-opened_once : goal.returns-clause-opened_once
returns-clause-opened_once c = no_second_opening

pub returns-clause-own_numbers : goal.returns-clause-own_numbers
returns-clause-own_numbers c = no_wrong_opening
