use Rattle.std.proofs.Common.{◌≤◌, ℕ, List, length, subst}
use Rattle.peer_ids.proofs.OneText.{hash_count}
use Rattle.peer_ids.proofs.peer.PeerId.as_bytes.Goals as goal

pub returns-clause-short : goal.returns-clause-short
returns-clause-short c = subst (λ (bytes : List ℕ). length bytes ≤ 44) c.self.view_is (hash_count c.self.inside.multihash c.self.invariant)
