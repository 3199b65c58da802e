use Rattle.std.proofs.Common.{length, sym, ap}
use Rattle.peer_ids.specs.PeerId.{canonical_of}
use Rattle.identify_h.proofs.Lengths.{canonical_len, key_field_len}
use Rattle.identify_h.proofs.identify.key_len.Goals as goal

pub returns-in-Some : goal.returns-in-Some
returns-in-Some c =
    key_field_len c.args.key.now c.in-Some.key c.field_len-in-Some.result c.in-Some.is
    (c.field_len-in-Some.ensures.length (canonical_of c.in-Some.key)
    (canonical_len c.in-Some.key c.field_len.result (c.field_len.ensures.length c.in-Some.key.body (sym (ap length c.body.ensures)))))
