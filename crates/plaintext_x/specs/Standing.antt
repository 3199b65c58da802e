-- Where the reading of an exchange stands.
-- Inside: no public clause cites it but by the calls of an exchange.
use Rattle.std.specs.Prelude.{Option, Some, None}
use Rattle.peer_ids.specs.Key.{Key}
use Rattle.plaintext_x.specs.declared.exchange.Standing.{Standing}
use Rattle.plaintext_x.specs.declared.exchange.Standing.TheVariants.{Reading, Done, Failed}

abbrev pub answer_of : Standing → Option (Option Key)
answer_of Reading = Some None
answer_of (Done key) = Some (Some key)
answer_of Failed = None
