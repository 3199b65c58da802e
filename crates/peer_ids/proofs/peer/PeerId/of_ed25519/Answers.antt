use Rattle.std.proofs.Common.{sym, ap, ◌∙◌}
use Rattle.peer_ids.specs.PeerId.{multihash_of}
use Rattle.peer_ids.proofs.Written.{canonical_ed25519, id_of_ed25519}
use Rattle.peer_ids.proofs.peer.PeerId.of_ed25519.Goals as goal

pub returns-clause-id : goal.returns-clause-id
returns-clause-id c = c.multihash.ensures.value ∙ sym (ap multihash_of (canonical_ed25519 c.args.key.now c.told-key))

pub returns-clause-bytes : goal.returns-clause-bytes
returns-clause-bytes c = c.multihash.ensures.value ∙ id_of_ed25519 c.args.key.now c.told-key
