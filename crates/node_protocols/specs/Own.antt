-- What a node says of itself.
-- Source: libp2p identify 1.0.0, "The Identify Message"; which fields a node fills, and with what, is this project's
-- profile.
use Rattle.std.specs.Prelude.{ℕ, List, [], ◌∷◌, Some, None, codes}
use Rattle.peer_ids.specs.Key.{Key}
use Rattle.identify_h.specs.Messages.{Message}

-- the names of a node's protocols, by their indexes
abbrev pub protocol_names : List (List ℕ)
protocol_names = codes "/ipfs/id/1.0.0" ∷ codes "/ipfs/id/push/1.0.0" ∷ codes "/ipfs/ping/1.0.0" ∷ []

-- its key, these names, the version of its protocols and its program; no addresses
abbrev pub own_message : Key → List ℕ → Message
own_message key agent = record {
  key = Some key;
  listen = [];
  protocols = protocol_names;
  observed = None;
  version = Some (codes "node/1.0.0");
  agent = Some agent;
}
