-- The exchange of plaintext: each end sends one message with its peer id and its key.
-- Source: libp2p plaintext 2.0.0, "Exchange"; lengths and refusals are this project's profile.
use Rattle.std.specs.Prelude.{◌≡◌, ◌≢◌, ◌⊎◌, ℕ, ◌+◌, ◌<◌, List, ◌++◌, length, take, Option, Some, None, Result, Ok, Err}
use Rattle.std.specs.Prelude.{IsSome}
use Rattle.std.specs.Prelude.{Bool, true, false}
use Rattle.std.specs.List.{flat_map}
use Rattle.varint_proto.specs.declared.fault.WireFault.{WireFault}
use Rattle.varint_proto.specs.declared.fault.IncomingRefused.{IncomingRefused}
use Rattle.varint_proto.specs.declared.fault.IncomingRefused.TheVariants as framing
use Rattle.varint_proto.specs.Varint.{shortest}
use Rattle.varint_proto.specs.Incoming.{Arriving, ReadsFramed, Stands as Arrives, AsksMemory as AsksRoom}
use Rattle.varint_proto.specs.Message.{Entry, entry, Bytes, IsMessage, FaultIn, last_body, all_bodies, shortest_field}
use Rattle.peer_ids.specs.declared.fault.KeyFault.{KeyFault}
use Rattle.peer_ids.specs.declared.fault.KeyFault.TheVariants as key_faults
use Rattle.peer_ids.specs.Key.{Key, IsAllowed}
use Rattle.peer_ids.specs.ReadsKey.{SpellsKey, RefusesKey}
use Rattle.peer_ids.specs.PeerId.{canonical_of, id_of}
use Rattle.plaintext_x.specs.declared.fault.ExchangeFault.{ExchangeFault}
use Rattle.plaintext_x.specs.declared.fault.ExchangeFault.TheVariants.{Failed, TooLong, Wire, NoId, NoKey, BadKey}
use Rattle.plaintext_x.specs.declared.fault.ExchangeFault.TheVariants.{Differs, OutOfMemory}

-- ---- the message

-- The fields of an exchange message: id 1, key 2. A repeated key is the joined one.
abbrev pub last_id : List Entry → Option (List ℕ)
last_id fields = last_body 1 fields

abbrev pub last_key : List Entry → Option (List ℕ)
last_key fields = last_body 2 fields

abbrev pub joined_key : List Entry → List ℕ
joined_key fields = flat_map (λ body. body) (all_bodies 2 fields)

-- The last id is that of the key that the joined keys spell.
pub record Proves (fields : List Entry) (key : Key) : Type 0 where
  pub spells : SpellsKey (joined_key fields) key
  pub id : last_id fields ≡ Some (id_of key)

abbrev pub SpellsExchange : List ℕ → Key → Type 0
SpellsExchange body key = (fields : List Entry) × IsMessage body fields × Proves fields key

-- a fault of the key is BadKey
abbrev pub of_key_fault : KeyFault → ExchangeFault
of_key_fault key_faults.Wire = BadKey
of_key_fault key_faults.NoType = BadKey
of_key_fault key_faults.NoData = BadKey
of_key_fault key_faults.UnknownType = BadKey
of_key_fault key_faults.BadLength = BadKey
of_key_fault key_faults.OutOfMemory = OutOfMemory

-- a badly spelt length is Wire
abbrev pub of_refused : IncomingRefused → ExchangeFault
of_refused framing.Failed = Failed
of_refused framing.BadLength = Wire
of_refused framing.TooLong = TooLong
of_refused framing.OutOfMemory = OutOfMemory

-- What is wrong with the fields of a message that proves no key: the first of these.
abbrev pub FaultOf : List Entry → ExchangeFault → Type 0
FaultOf fields NoId = last_id fields ≡ None
FaultOf fields NoKey = IsSome (last_id fields) × (last_key fields ≡ None)
FaultOf fields BadKey =
    IsSome (last_id fields) × IsSome (last_key fields) × (fault : KeyFault) × (fault ≢ key_faults.OutOfMemory)
    × RefusesKey (joined_key fields) fault
FaultOf fields Differs =
    (id : List ℕ) × (key : Key) × (last_id fields ≡ Some id) × SpellsKey (joined_key fields) key
    × (id ≢ id_of key)
-- memory is asked for only where both fields are there
FaultOf fields OutOfMemory = IsSome (last_id fields) × IsSome (last_key fields)
FaultOf fields Failed = ⊥
FaultOf fields TooLong = ⊥
FaultOf fields Wire = ⊥

-- Why a message proves no key.
abbrev pub RefusesBody : List ℕ → ExchangeFault → Type 0
RefusesBody body Wire = (fault : WireFault) × FaultIn body fault
RefusesBody body fault = (fields : List Entry) × IsMessage body fields × FaultOf fields fault

-- The message of an end with this key.
abbrev pub body_of : Key → List ℕ
body_of key = shortest_field (entry 1 (Bytes (id_of key))) ++ shortest_field (entry 2 (Bytes (canonical_of key)))

abbrev pub message_of : Key → List ℕ
message_of key = shortest (length (body_of key)) ++ body_of key

-- ---- the input

-- The largest length of a message.
abbrev pub longest : ℕ
longest = 8192

abbrev pub HasFault : List ℕ → ExchangeFault → Type 0
HasFault input TooLong = ReadsFramed longest input (Err framing.TooLong)
HasFault input Wire =
    ReadsFramed longest input (Err framing.BadLength)
    ⊎ ((body : List ℕ) × (rest : List ℕ) × ReadsFramed longest input (Ok (Some (body, rest)))
    × RefusesBody body Wire)
HasFault input fault =
    (body : List ℕ) × (rest : List ℕ) × ReadsFramed longest input (Ok (Some (body, rest)))
    × RefusesBody body fault

-- An exchange that is told this whole input comes to this, and has used so many bytes of it.
abbrev pub Exchanges : List ℕ → Result (Option Key) ExchangeFault → ℕ → Type 0
-- more bytes are needed
Exchanges input (Ok None) used = ReadsFramed longest input (Ok None) × (used ≡ length input)
-- the other end has proven this key
Exchanges input (Ok (Some key)) used =
    (body : List ℕ) × (rest : List ℕ) × ReadsFramed longest input (Ok (Some (body, rest)))
    × SpellsExchange body key
    × (used + length rest ≡ length input)
Exchanges input (Err fault) used = HasFault input fault × (used ≡ length input)

-- Memory is asked for twice: at the last byte of the length, for a body that isn't empty; and where a message that has
-- both fields is whole, for reading its key. (More bytes may follow it: RunsOut says at which byte memory is refused.)
abbrev pub AsksMemory : List ℕ → Type 0
AsksMemory input = AsksRoom longest 0 input ⊎ HasFault input OutOfMemory

-- Behind this input memory is refused: a front of the piece was read, and the byte behind it asks for memory.
abbrev pub RunsOut : List ℕ → List ℕ → Type 0
RunsOut input piece =
    (n : ℕ) × (n < length piece) × Exchanges (input ++ take n piece) (Ok None) (length (input ++ take n piece))
    × AsksMemory (input ++ take (n + 1) piece)

-- ---- what an exchange is to its callers

pub record Exchanging : Type 0 where
  -- the message that comes in
  pub incoming : Arriving
  -- None after a fault, Some None while more bytes are needed
  pub answer : Option (Option Key)
  -- written, and not yet taken
  pub pending : List ℕ

-- what it has read of this input
abbrev pub HasRead : Option (Option Key) → Exchanging → List ℕ → ℕ → Type 0
HasRead None x input used = Unit {0}
HasRead (Some None) x input used =
    Arrives input x.incoming × (x.incoming.limit ≡ longest) × Exchanges input (Ok None) used
HasRead (Some (Some key)) x input used = Exchanges input (Ok (Some key)) used

-- The exchange of an end with the key `own` was told this whole input, of which it has used so many bytes, and `taken`
-- was taken of its output.
pub record Stands (own : Key) (x : Exchanging) (input : List ℕ) (used : ℕ) (taken : List ℕ) : Type 0 where
  pub read : HasRead x.answer x input used
  pub written : taken ++ x.pending ≡ message_of own

-- a fact of every input at which the exchange stands
abbrev pub Whenever : Exchanging → (List ℕ → ℕ → Type 0) → Type 0
Whenever x fact =
    (own : Key) (input : List ℕ) (used : ℕ) (taken : List ℕ) → Stands own x input used taken → fact input used

abbrev pub is_proven : Option (Option Key) → Bool
is_proven None = false
is_proven (Some None) = false
is_proven (Some (Some key)) = true

-- ---- one outcome

-- The input determines what an exchange comes to, and what it has used.
abbrev pub OneOutcome : Type 0
OneOutcome =
    (input : List ℕ) (a b : Result (Option Key) ExchangeFault) (m n : ℕ)
    → a ≢ Err OutOfMemory → b ≢ Err OutOfMemory
    → Exchanges input a m → Exchanges input b n → (a ≡ b) × (m ≡ n)

-- Each input comes to something.
abbrev pub SomeOutcome : Type 0
SomeOutcome = (input : List ℕ)
    → (outcome : Result (Option Key) ExchangeFault) × (used : ℕ) × (outcome ≢ Err OutOfMemory)
    × Exchanges input outcome used

-- ---- two ends

-- What an end with a key sends proves that key, all of it.
abbrev pub OwnIsProven : Type 0
OwnIsProven = (key : Key) → IsAllowed key.kind (length key.body)
    → Exchanges (message_of key) (Ok (Some key)) (length (message_of key))

-- ---- what follows isn't used

abbrev pub ProofStays : Type 0
ProofStays = (input more : List ℕ) (key : Key) (used : ℕ) → Exchanges input (Ok (Some key)) used
    → Exchanges (input ++ more) (Ok (Some key)) used

abbrev pub FaultStays : Type 0
FaultStays = (input more : List ℕ) (fault : ExchangeFault) (used : ℕ) → Exchanges input (Err fault) used
    → Exchanges (input ++ more) (Err fault) (length (input ++ more))

-- Nothing behind the bytes that are used matters: a proof holds by exactly them.
abbrev pub NothingBehind : Type 0
NothingBehind = (first rest : List ℕ) (outcome : Result (Option Key) ExchangeFault)
    → Exchanges (first ++ rest) outcome (length first)
    → Exchanges first outcome (length first)
