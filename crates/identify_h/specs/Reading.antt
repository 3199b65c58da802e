-- The end that asks, and the one that is pushed to (libp2p identify 1.0.0; this project's profile).
use Rattle.std.specs.Prelude.{◌≡◌, ◌↔◌, ℕ, List, [], ◌++◌, length, Bool, true, false, ◌||◌, Option, Some, None, is_some}
use Rattle.std.specs.List.{concat}
use Rattle.varint_proto.specs.Incoming as framed
use Rattle.varint_proto.specs.Incoming.{Arriving}
use Rattle.handlers.specs.Calls.{HandlerCall, Take, Give, End, Asked, ToTake, ToGive, ToEnd}
use Rattle.identify_h.specs.declared.fault.IdentifyFault.{IdentifyFault}
use Rattle.identify_h.specs.declared.fault.IdentifyFault.TheVariants.{Failed}
use Rattle.identify_h.specs.Faults.{number_of}
use Rattle.identify_h.specs.Messages.{Message}
use Rattle.identify_h.specs.Streams.{Begins, IsPart, left_behind, TakeFails, EndFails, Reads}

-- What comes: the bodies that are whole, joined, and the next message; and what was read, once the end has come
pub record Reader : Type 0 where
  pub peer : List ℕ
  pub count : ℕ
  pub joined : List ℕ
  pub next : Arriving
  pub message : Option Message
  pub failed : Bool

-- the reader is where this input leaves it
pub record Stands (input : List ℕ) (r : Reader) : Type 0 where
  pub going : r.failed ≡ false
  pub bodies : List (List ℕ)
  pub rest : List ℕ
  pub begins : Begins input bodies rest
  pub part : IsPart bodies rest
  pub count : r.count ≡ length bodies
  pub joined : r.joined ≡ concat bodies
  pub next : framed.Stands rest r.next
  pub limit : r.next.limit ≡ left_behind bodies

-- a fact of every input at which the reader stands
abbrev pub Whenever : Reader → (List ℕ → Type 0) → Type 0
Whenever r fact = (input : List ℕ) → Stands input r → fact input

-- nothing more may be handed over
abbrev pub is_over : Reader → Bool
is_over r = r.failed || is_some r.message

-- it has read nothing yet of this peer
pub record IsFresh (peer : List ℕ) (r : Reader) : Type 0 where
  pub peer_is : r.peer ≡ peer
  pub message : r.message ≡ None
  pub stands : Stands [] r

-- bytes that were taken
pub record Takes (bytes : List ℕ) (r s : Reader) : Type 0 where
  pub going : is_over r ≡ false
  pub peer : s.peer ≡ r.peer
  pub message : s.message ≡ None
  pub stands : Whenever r (λ input. Stands (input ++ bytes) s)

-- one call that is answered: nothing is given; at the end the whole stream is read
abbrev pub ReadStep : Reader → HandlerCall → Reader → Type 0
ReadStep r (Take bytes) s = Takes bytes r s
ReadStep r (Give room bytes) s = (r.failed ≡ false) × (bytes ≡ []) × (s ≡ r)
ReadStep r End s =
    (is_over r ≡ false)
    × ((m : Message) × (s ≡ record r { message = Some m }) × Whenever r (λ input. Reads r.peer input m))

-- why a call fails: the handler has failed, or the end was said before; else the fault of the stream
abbrev pub ReadFails : Reader → Asked → ℕ → Type 0
ReadFails r (ToTake bytes) n =
    (fault : IdentifyFault) × (n ≡ number_of fault)
    × (is_over r ≡ true → fault ≡ Failed)
    × (is_over r ≡ false → Whenever r (λ input. TakeFails input bytes fault))
ReadFails r (ToGive room) n = (n ≡ number_of Failed) × (r.failed ≡ true)
ReadFails r ToEnd n =
    (fault : IdentifyFault) × (n ≡ number_of fault)
    × (is_over r ≡ true → fault ≡ Failed)
    × (is_over r ≡ false → Whenever r (λ input. EndFails r.peer input fault))

-- No call tells two readers apart: they stand behind the same inputs
pub record Alike (r s : Reader) : Type 0 where
  pub peer : r.peer ≡ s.peer
  pub message : r.message ≡ s.message
  pub failed : r.failed ≡ s.failed
  pub stands : (input : List ℕ) → Stands input r ↔ Stands input s
