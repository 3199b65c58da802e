-- The identify message (libp2p identify 1.0.0, "The Identify Message"; Protocol Buffers, "Encoding": of a field that
-- may stand once the last counts). That texts and addresses are kept as bytes, and that a key must be that of the
-- connection's peer, is this project's profile.
use Rattle.std.specs.Prelude.{◌≡◌, ◌≢◌, ◌⊎◌, ℕ, ◌≤◌, ◌<◌, ◌^◌, List, [], ◌∷◌, ◌++◌, map, length, Option, Some, None}
use Rattle.std.specs.Prelude.{IsSome}
use Rattle.std.specs.List.{flat_map}
use Rattle.std.specs.Option.{option_map}
use Rattle.varint_proto.specs.declared.fault.WireFault.{WireFault}
use Rattle.varint_proto.specs.Message.{Entry, entry, Bytes, IsMessage, FaultIn, all_bodies, last_body, shortest_field}
use Rattle.peer_ids.specs.Key.{Key, IsAllowed}
use Rattle.peer_ids.specs.PeerId.{canonical_of, id_of}
use Rattle.peer_ids.specs.ReadsKey.{SpellsKey, RefusesKey}
use Rattle.peer_ids.specs.declared.fault.KeyFault.{KeyFault}
use Rattle.peer_ids.specs.declared.fault.KeyFault.TheVariants as keys
use Rattle.identify_h.specs.declared.fault.IdentifyFault.{IdentifyFault}
use Rattle.identify_h.specs.declared.fault.IdentifyFault.TheVariants.{Wire, OtherKey, OutOfMemory}

-- an Identify without where it lies in memory
pub record Message : Type 0 where
  pub key : Option Key
  pub listen : List (List ℕ)
  pub protocols : List (List ℕ)
  pub observed : Option (List ℕ)
  pub version : Option (List ℕ)
  pub agent : Option (List ℕ)

-- a key that is there is well spelt, and its id is the peer's
abbrev pub IsKeyOf : List ℕ → Option (List ℕ) → Option Key → Type 0
IsKeyOf peer (Some spelling) (Some key) = SpellsKey spelling key × (id_of key ≡ peer)
IsKeyOf peer None None = Unit {0}
IsKeyOf peer spelling key = ⊥

-- what the fields of a message say
pub record Says (peer : List ℕ) (fields : List Entry) (m : Message) : Type 0 where
  pub key : IsKeyOf peer (last_body 1 fields) m.key
  pub listen : m.listen ≡ all_bodies 2 fields
  pub protocols : m.protocols ≡ all_bodies 3 fields
  pub observed : m.observed ≡ last_body 4 fields
  pub version : m.version ≡ last_body 5 fields
  pub agent : m.agent ≡ last_body 6 fields

abbrev pub Spells : List ℕ → List ℕ → Message → Type 0
Spells peer bytes m = (fields : List Entry) × IsMessage bytes fields × Says peer fields m

-- a spelling of a key that isn't read, or of one that gives another id
abbrev pub IsOtherKey : List ℕ → List ℕ → Type 0
IsOtherKey peer spelling =
    ((fault : KeyFault) × (fault ≢ keys.OutOfMemory) × RefusesKey spelling fault)
    ⊎ ((key : Key) × SpellsKey spelling key × (id_of key ≢ peer))

-- a key that is there is well spelt
abbrev pub IsKeySpelt : Option (List ℕ) → Type 0
IsKeySpelt None = Unit {0}
IsKeySpelt (Some spelling) = (key : Key) × SpellsKey spelling key

-- why a spelling isn't that of the peer's key
abbrev pub RefusesKeyOf : List ℕ → List ℕ → IdentifyFault → Type 0
RefusesKeyOf peer spelling OtherKey = IsOtherKey peer spelling
RefusesKeyOf peer spelling OutOfMemory = IsKeySpelt (Some spelling)
RefusesKeyOf peer spelling fault = ⊥

-- a text is there that isn't empty
abbrev pub HasText : Option (List ℕ) → Type 0
HasText None = ⊥
HasText (Some bytes) = 0 < length bytes

-- there is a field that asks for memory: a key, an entry of a list, or a text that isn't empty
abbrev pub HasField : List Entry → Type 0
HasField fields =
    ((number : ℕ) × (1 ≤ number) × (number ≤ 3) × IsSome (last_body number fields))
    ⊎ ((number : ℕ) × (4 ≤ number) × (number ≤ 6) × HasText (last_body number fields))

-- Why bytes aren't read. Memory is asked for where they are a message, for a field that is kept; of the key it is known
-- then that it is well spelt
abbrev pub Refuses : List ℕ → List ℕ → IdentifyFault → Type 0
Refuses peer bytes Wire = (fault : WireFault) × FaultIn bytes fault
Refuses peer bytes OtherKey =
    (fields : List Entry) × IsMessage bytes fields
    × ((spelling : List ℕ) × (last_body 1 fields ≡ Some spelling) × IsOtherKey peer spelling)
Refuses peer bytes OutOfMemory =
    (fields : List Entry) × IsMessage bytes fields × IsKeySpelt (last_body 1 fields) × HasField fields
Refuses peer bytes fault = ⊥

-- the message has a key that isn't well spelt
abbrev pub HasBadKey : List ℕ → Type 0
HasBadKey bytes =
    (fields : List Entry) × IsMessage bytes fields
    × ((spelling : List ℕ) × (last_body 1 fields ≡ Some spelling) × ¬ IsKeySpelt (Some spelling))

-- ---- writing

abbrev pub body_if : ℕ → Option (List ℕ) → List Entry
body_if number None = []
body_if number (Some bytes) = entry number (Bytes bytes) ∷ []

abbrev pub bodies_of : ℕ → List (List ℕ) → List Entry
bodies_of number list = map (λ bytes. entry number (Bytes bytes)) list

-- the fields that are there, by rising number
abbrev pub fields_of : Message → List Entry
fields_of m =
    body_if 1 (option_map canonical_of m.key) ++ bodies_of 2 m.listen ++ bodies_of 3 m.protocols
    ++ body_if 4 m.observed ++ body_if 5 m.version ++ body_if 6 m.agent

-- some field is there
abbrev pub SaysSomething : Message → Type 0
SaysSomething m =
    IsSome m.key ⊎ (m.listen ≢ []) ⊎ (m.protocols ≢ []) ⊎ IsSome m.observed ⊎ IsSome m.version ⊎ IsSome m.agent

-- the body that is sent: the shortest spelling of the fields
abbrev pub written : Message → List ℕ
written m = flat_map shortest_field (fields_of m)

-- ---- merging a push

abbrev pub newer : {A : Type 0} → Option A → Option A → Option A
newer known (Some x) = Some x
newer known None = known

-- a list without entries is absent
abbrev pub newer_list : List (List ℕ) → List (List ℕ) → List (List ℕ)
newer_list known [] = known
newer_list known (x ∷ list) = x ∷ list

-- each field of the push that is there, else the known one
abbrev pub merged : Message → Message → Message
merged known push = record {
  key = newer known.key push.key;
  listen = newer_list known.listen push.listen;
  protocols = newer_list known.protocols push.protocols;
  observed = newer known.observed push.observed;
  version = newer known.version push.version;
  agent = newer known.agent push.agent;
}

-- ---- what holds of them

-- bytes spell one message
abbrev pub OneMessage : Type 0
OneMessage = (peer bytes : List ℕ) (m n : Message) → Spells peer bytes m → Spells peer bytes n → m ≡ n

-- a key that is there has the peer's id
abbrev pub HasKeyOf : List ℕ → Option Key → Type 0
HasKeyOf peer None = Unit {0}
HasKeyOf peer (Some key) = (id_of key ≡ peer) × IsAllowed key.kind (length key.body)

-- the key that bytes spell has the peer's id
abbrev pub KeyIsThePeers : Type 0
KeyIsThePeers = (peer bytes : List ℕ) (m : Message) → Spells peer bytes m → HasKeyOf peer m.key

-- What is written is read back, with a key whose id is the peer's
abbrev pub WrittenIsRead : Type 0
WrittenIsRead = (peer : List ℕ) (m : Message) → HasKeyOf peer m.key → length (written m) < 2 ^ 64
    → Spells peer (written m) m
