-- An identify stream (libp2p identify 1.0.0: the message stands behind its length, and may be sent in several; how many
-- there may be, how long they are together, and which fault comes first is this project's profile).
use Rattle.std.specs.Prelude.{◌≡◌, ◌≢◌, ◌⊎◌, ◌↔◌, ℕ, ◌-◌, ◌<◌, ◌≤◌, List, [], ◌∷◌, ◌++◌, length, take, None, Ok, Err}
use Rattle.std.specs.List.{concat}
use Rattle.varint_proto.specs.Incoming.{Announces, Frames, ReadsFramed}
use Rattle.varint_proto.specs.declared.fault.IncomingRefused.TheVariants as incoming
use Rattle.identify_h.specs.declared.fault.IdentifyFault.{IdentifyFault}
use Rattle.identify_h.specs.declared.fault.IdentifyFault.TheVariants.{TooLong, TooMany, Wire, Cut, OutOfMemory}
use Rattle.identify_h.specs.Sending.{most_bytes, framed}
use Rattle.identify_h.specs.Messages.{Message, Spells, Refuses, HasKeyOf, written}

-- how many messages a stream has at most
abbrev pub most_messages : ℕ
most_messages = 10

-- These bodies, each behind its length, stand at the front, and the rest follows them; together they have at most
-- `left` bytes
abbrev pub Lead : ℕ → List ℕ → List (List ℕ) → List ℕ → Type 0
Lead left input [] rest = input ≡ rest
Lead left input (body ∷ bodies) rest =
    (middle : List ℕ) × Frames left input body middle × Lead (left - length body) middle bodies rest

-- how many bytes the body behind these may have
abbrev pub left_behind : List (List ℕ) → ℕ
left_behind bodies = most_bytes - length (concat bodies)

-- the messages that have come whole, and what follows them
pub record Begins (input : List ℕ) (bodies : List (List ℕ)) (rest : List ℕ) : Type 0 where
  pub few : length bodies ≤ most_messages
  pub lead : Lead most_bytes input bodies rest

-- what follows is nothing, or a part of one more message
abbrev pub IsPart : List (List ℕ) → List ℕ → Type 0
IsPart bodies rest =
    (rest ≡ []) ⊎ ((length bodies < most_messages) × ReadsFramed (left_behind bodies) rest (Ok None))

-- the input has no fault so far
pub record GoesOn (input : List ℕ) : Type 0 where
  pub bodies : List (List ℕ)
  pub rest : List ℕ
  pub begins : Begins input bodies rest
  pub part : IsPart bodies rest

-- what is wrong behind these bodies
abbrev pub NextFault : List (List ℕ) → List ℕ → IdentifyFault → Type 0
NextFault bodies rest TooLong =
    (length bodies < most_messages) × ReadsFramed (left_behind bodies) rest (Err incoming.TooLong)
NextFault bodies rest Wire =
    (length bodies < most_messages) × ReadsFramed (left_behind bodies) rest (Err incoming.BadLength)
NextFault bodies rest TooMany = (length bodies ≡ most_messages) × (0 < length rest)
NextFault bodies rest fault = ⊥

-- the first fault of an input
abbrev pub HasFault : List ℕ → IdentifyFault → Type 0
HasFault input fault =
    (bodies : List (List ℕ)) × (rest : List ℕ) × Begins input bodies rest × NextFault bodies rest fault

-- Memory is asked for where the last byte of a length has come, for a body that isn't empty
abbrev pub AsksRoom : List ℕ → Type 0
AsksRoom input =
    (bodies : List (List ℕ)) × (rest : List ℕ) × Begins input bodies rest × (length bodies < most_messages)
    × ((len : ℕ) × Announces (left_behind bodies) rest len [] × (0 < len))

-- Why bytes behind an input aren't taken: the first fault of all of it; or memory is refused within them, where it is
-- asked for
abbrev pub TakeFails : List ℕ → List ℕ → IdentifyFault → Type 0
TakeFails input bytes OutOfMemory = (n : ℕ) × (0 < n) × (n ≤ length bytes) × AsksRoom (input ++ take n bytes)
TakeFails input bytes fault = HasFault (input ++ bytes) fault

-- the whole stream says this
abbrev pub Reads : List ℕ → List ℕ → Message → Type 0
Reads peer input m =
    (bodies : List (List ℕ)) × Begins input bodies [] × (0 < length bodies) × Spells peer (concat bodies) m

-- why the whole stream isn't read
abbrev pub EndFails : List ℕ → List ℕ → IdentifyFault → Type 0
EndFails peer input Cut =
    (bodies : List (List ℕ)) × (rest : List ℕ) × Begins input bodies rest × IsPart bodies rest
    × ((bodies ≡ []) ⊎ (0 < length rest))
EndFails peer input fault =
    (bodies : List (List ℕ)) × Begins input bodies [] × (0 < length bodies) × Refuses peer (concat bodies) fault

-- ---- what holds of every stream

-- an input has one first fault or none; a whole stream one message, or one fault at its end
pub record OneOutcome : Type 0 where
  pub fault : (input : List ℕ) (fault other : IdentifyFault) → HasFault input fault → HasFault input other
      → fault ≡ other
  pub goes : (input : List ℕ) (fault : IdentifyFault) → GoesOn input → ¬ HasFault input fault
  pub message : (peer input : List ℕ) (m n : Message) → Reads peer input m → Reads peer input n → m ≡ n
  pub end : (peer input : List ℕ) (fault other : IdentifyFault) → fault ≢ OutOfMemory → other ≢ OutOfMemory
      → EndFails peer input fault → EndFails peer input other → fault ≡ other
  pub either : (peer input : List ℕ) (m : Message) (fault : IdentifyFault) → fault ≢ OutOfMemory
      → Reads peer input m → ¬ EndFails peer input fault
  -- behind whole messages the end comes to what their bodies, joined, come to as one message
  pub whole : (peer input : List ℕ) (bodies : List (List ℕ)) → Begins input bodies [] → 0 < length bodies
      → ((m : Message) → Reads peer input m ↔ Spells peer (concat bodies) m)
      × ((fault : IdentifyFault) → EndFails peer input fault ↔ Refuses peer (concat bodies) fault)

-- each input goes on or has a fault, and where it goes on its end gives a message or has a fault
pub record SomeOutcome : Type 0 where
  pub input : (input : List ℕ) → GoesOn input ⊎ ((fault : IdentifyFault) × HasFault input fault)
  pub end : (peer input : List ℕ) → GoesOn input
      → ((m : Message) × Reads peer input m)
      ⊎ ((fault : IdentifyFault) × (fault ≢ OutOfMemory) × EndFails peer input fault)

-- A fault stays, whatever comes behind it
abbrev pub FaultsStay : Type 0
FaultsStay = (input more : List ℕ) (fault : IdentifyFault) → HasFault input fault → HasFault (input ++ more) fault

-- Where memory is asked for the input has no fault so far, so its want stands for none
abbrev pub AskingGoesOn : Type 0
AskingGoesOn = (input : List ℕ) → AsksRoom input → GoesOn input

-- A message that is written and sent behind its length is one stream, which says it
abbrev pub SentIsRead : Type 0
SentIsRead = (peer : List ℕ) (m : Message) → HasKeyOf peer m.key → length (written m) ≤ most_bytes
    → Reads peer (framed (written m)) m
