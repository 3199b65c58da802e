use Rattle.yamux_session.proofs.Endings.{openings_are_told, opened_by_the_other, opened_anew}
use Rattle.yamux_session.proofs.laws.openings_are_told.Goals as goal

pub returns : goal.returns
returns c = record { told = openings_are_told; theirs = opened_by_the_other; anew = opened_anew }
