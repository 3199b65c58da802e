use Rattle.identify_h.proofs.Stopping.{reader_gives, reader_failed, reader_ended}
use Rattle.identify_h.proofs.laws.reading_stops.Goals as goal

pub returns-clause-give : goal.returns-clause-give
returns-clause-give c = reader_gives

pub returns-clause-failed : goal.returns-clause-failed
returns-clause-failed c = reader_failed

pub returns-clause-ended : goal.returns-clause-ended
returns-clause-ended c = reader_ended
