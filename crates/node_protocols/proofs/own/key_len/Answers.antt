use Rattle.std.proofs.Common.{length, sym, ap}
use Rattle.peer_ids.specs.PeerId.{canonical_of}
use Rattle.identify_h.proofs.Lengths.{canonical_len}
use Rattle.node_protocols.proofs.own.key_len.Goals as goal

pub returns : goal.returns
returns c =
    c.field_len-2.ensures.length (canonical_of c.args.key.now)
    (canonical_len c.args.key.now c.field_len.result (c.field_len.ensures.length c.args.key.now.body (sym (ap length c.body.ensures))))
