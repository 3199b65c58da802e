-- What holds of every key, id and text.
-- Source: libp2p peer ids, and this project's laws on them.
use Rattle.std.specs.Prelude.{◌≡◌, ◌≢◌, ◌⊎◌, ℕ, List, length}
use Rattle.peer_ids.specs.declared.fault.KeyFault.{KeyFault}
use Rattle.peer_ids.specs.declared.fault.KeyFault.TheVariants.{OutOfMemory}
use Rattle.peer_ids.specs.Key.{Key, IsAllowed}
use Rattle.peer_ids.specs.ReadsKey.{SpellsKey, RefusesKey}
use Rattle.peer_ids.specs.PeerId.{canonical_of, id_of, IsMultihash}
use Rattle.peer_ids.specs.Base32.{IsIdText, id_text}

-- Bytes spell at most one key, have at most one fault, and not both; want of memory is no fault of theirs.
pub record OneKey : Type 0 where
  pub key : (bytes : List ℕ) (key other : Key) → SpellsKey bytes key → SpellsKey bytes other → key ≡ other
  pub fault : (bytes : List ℕ) (fault other : KeyFault) → fault ≢ OutOfMemory → other ≢ OutOfMemory
      → RefusesKey bytes fault → RefusesKey bytes other → fault ≡ other
  pub either : (bytes : List ℕ) (key : Key) (fault : KeyFault) → fault ≢ OutOfMemory → SpellsKey bytes key
      → ¬ RefusesKey bytes fault

-- All bytes spell a key or are refused.
abbrev pub SomeKey : Type 0
SomeKey = (bytes : List ℕ) → ((key : Key) × SpellsKey bytes key)
    ⊎ ((fault : KeyFault) × (fault ≢ OutOfMemory) × RefusesKey bytes fault)

-- The canonical message of a key spells that key.
abbrev pub CanonicalIsRead : Type 0
CanonicalIsRead = (key : Key) → IsAllowed key.kind (length key.body) → SpellsKey (canonical_of key) key

-- The id of a key is a multihash that a peer id may be.
abbrev pub IdsAreMultihashes : Type 0
IdsAreMultihashes = (key : Key) → IsMultihash (id_of key)

-- An id has one text, which is that of the function, and a text is that of one id.
pub record OneText : Type 0 where
  pub text : (id text other : List ℕ) → IsIdText text id → IsIdText other id → text ≡ other
  pub id : (text id other : List ℕ) → IsIdText text id → IsIdText text other → id ≡ other
  pub function : (id text : List ℕ) → IsIdText text id → text ≡ id_text id
