-- Worked rows of the definitions, each with its place in the standard, or in this project's profile.
use Rattle.std.specs.Prelude.{◌≡◌, ℕ, List, [], ◌∷◌, ◌++◌, Some, None, replicate, codes}
use Rattle.peer_ids.specs.declared.kind.KeyType.TheVariants.{Ed25519}
use Rattle.identify_h.specs.Messages.{Message, Spells, Refuses, written, merged}
use Rattle.identify_h.specs.declared.fault.IdentifyFault.TheVariants.{TooLong, TooMany, OtherKey, Cut}
use Rattle.identify_h.specs.Sending.{framed}
use Rattle.identify_h.specs.Streams.{HasFault, EndFails, Reads}

-- a message that says nothing, and one with a version `abc` and an agent `x`
abbrev pub nothing : Message
nothing = record { key = None; listen = []; protocols = []; observed = None; version = None; agent = None }

abbrev pub named : Message
named = record nothing { version = Some (codes "abc"); agent = Some (codes "x") }

-- of each field one, of the lists two
abbrev pub full : Message
full = record {
  key = Some (record { kind = Ed25519; body = replicate 32 7 });
  listen = (4 ∷ []) ∷ [] ∷ [];
  protocols = codes "/" ∷ codes "0" ∷ [];
  observed = Some (6 ∷ []);
  version = Some [];
  agent = Some (codes "y");
}

-- the spelling of the key of `full`
abbrev pub key_field : List ℕ
key_field = 10 ∷ 36 ∷ 8 ∷ 1 ∷ 18 ∷ 32 ∷ replicate 32 7

pub record WorkedRows : Type 0 where
  -- libp2p identify 1.0.0, "The Identify Message": publicKey 1, listenAddrs 2, protocols 3, observedAddr 4,
  -- protocolVersion 5, agentVersion 6
  pub fields_by_number : written full
      ≡ key_field ++ 18 ∷ 1 ∷ 4 ∷ 18 ∷ 0 ∷ 26 ∷ 1 ∷ 47 ∷ 26 ∷ 1 ∷ 48 ∷ 34 ∷ 1 ∷ 6 ∷ 42 ∷ 0 ∷ 50 ∷ 1 ∷ 121 ∷ []
  -- libp2p identify 1.0.0: a message follows its length; profile: a stream of several is read to its end
  pub message_that_is_sent : framed (written named) ≡ 8 ∷ 42 ∷ 3 ∷ 97 ∷ 98 ∷ 99 ∷ 50 ∷ 1 ∷ 120 ∷ []
  pub stream_of_two_messages : Reads [] (5 ∷ 42 ∷ 3 ∷ 97 ∷ 98 ∷ 99 ∷ 3 ∷ 50 ∷ 1 ∷ 120 ∷ []) named
  pub stream_without_its_last_byte : EndFails [] (5 ∷ 42 ∷ 3 ∷ 97 ∷ 98 ∷ 99 ∷ 3 ∷ 50 ∷ 1 ∷ []) Cut
  -- Protocol Buffers, "Encoding": the last of two versions counts, and an unknown field is skipped
  pub last_version_counts : Spells [] (42 ∷ 1 ∷ 97 ∷ 66 ∷ 0 ∷ 42 ∷ 1 ∷ 98 ∷ []) (record nothing { version = Some (codes "b") })
  -- libp2p identify 1.0.0, "identify/push": what a push doesn't name stays; profile: a list that it names replaces
  -- the known one
  pub push_of_an_agent : merged (record named { listen = (1 ∷ []) ∷ [] }) (record nothing { agent = Some (codes "y") })
      ≡ record named { listen = (1 ∷ []) ∷ []; agent = Some (codes "y") }
  pub push_of_an_empty_entry : merged (record named { listen = (1 ∷ []) ∷ [] }) (record nothing { listen = [] ∷ [] })
      ≡ record named { listen = [] ∷ [] }
  -- profile: the key is that of the peer, a stream has at most 10 messages and their bodies at most 16384 bytes together
  pub key_of_another_peer : Refuses (0 ∷ 36 ∷ 8 ∷ 1 ∷ 18 ∷ 32 ∷ replicate 32 9) key_field OtherKey
  pub ten_messages : Reads [] (replicate 10 0) nothing
  pub eleventh_message : HasFault (replicate 11 0) TooMany
  pub body_of_16385_bytes : HasFault (129 ∷ 128 ∷ 1 ∷ []) TooLong
  pub bodies_of_16385_bytes_together : HasFault (1 ∷ 8 ∷ 128 ∷ 128 ∷ 1 ∷ []) TooLong
