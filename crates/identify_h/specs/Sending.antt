-- The end that is asked, and the one that pushes: one message (libp2p identify 1.0.0; what is handed over is dropped:
-- this project's profile).
use Rattle.std.specs.Prelude.{◌≡◌, ℕ, ◌<◌, List, Bool, true, false, ◌||◌, ◌++◌, take, drop, length, min, if◌then◌else◌}
use Rattle.varint_proto.specs.Varint.{shortest}
use Rattle.handlers.specs.Calls.{HandlerCall, Take, Give, End, Asked, ToTake, ToGive, ToEnd}
use Rattle.identify_h.specs.declared.fault.IdentifyFault.TheVariants.{Failed, OutOfMemory}
use Rattle.identify_h.specs.Faults.{number_of}

-- how many bytes the bodies of a stream have together at most
abbrev pub most_bytes : ℕ
most_bytes = 16384

-- a body behind its length
abbrev pub framed : List ℕ → List ℕ
framed body = shortest (length body) ++ body

-- what is still to be sent, and whether the other end has ended
pub record Sending : Type 0 where
  pub unsent : List ℕ
  pub ended : Bool
  pub failed : Bool

abbrev pub sending : List ℕ → Sending
sending bytes = record { unsent = bytes; ended = false; failed = false }

abbrev pub is_over : Sending → Bool
is_over s = s.failed || s.ended

-- one call that is answered
abbrev pub SendStep : Sending → HandlerCall → Sending → Type 0
SendStep s (Take bytes) t = (is_over s ≡ false) × (t ≡ s)
SendStep s (Give room bytes) t =
    (s.failed ≡ false) × (bytes ≡ take room s.unsent) × (t ≡ record s { unsent = drop room s.unsent })
SendStep s End t = (is_over s ≡ false) × (t ≡ record s { ended = true })

-- Why a call fails: the handler has failed, or the end was said before; else memory may be wanting where bytes are to
-- be given
abbrev pub SendFails : Sending → Asked → ℕ → Type 0
SendFails s (ToTake bytes) n = (n ≡ number_of Failed) × (is_over s ≡ true)
SendFails s (ToGive room) n =
    (n ≡ number_of (if s.failed then Failed else OutOfMemory))
    × (s.failed ≡ false → 0 < min room (length s.unsent))
SendFails s ToEnd n = (n ≡ number_of Failed) × (is_over s ≡ true)
