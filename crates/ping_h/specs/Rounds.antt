-- The end that asks, for one round (libp2p ping 1.0.0: the dialer sends 32 bytes, and compares what comes back; one
-- round a stream is this project's profile).
use Rattle.std.specs.Prelude.{◌≡◌, ℕ, List, Bool, true, false, ◌||◌, ◌<◌}
use Rattle.std.specs.Prelude.{take, drop, length, min, if◌then◌else◌}
use mathlib.Core.List.{IsPrefix}
use Rattle.handlers.specs.Calls.{HandlerCall, Take, Give, End, Asked, ToTake, ToGive, ToEnd}
use Rattle.ping_h.specs.declared.fault.PingFault.TheVariants.{Failed, WrongEcho, Cut, OutOfMemory}
use Rattle.ping_h.specs.Faults.{number_of}

-- a round: what is still to be sent of the ping, what is still to come back of it, whether the other end has ended
pub record Round : Type 0 where
  pub unsent : List ℕ
  pub awaited : List ℕ
  pub ended : Bool
  pub failed : Bool

abbrev pub round : List ℕ → Round
round ping = record { unsent = ping; awaited = ping; ended = false; failed = false }

abbrev pub is_over : Round → Bool
is_over r = r.failed || r.ended

-- one call that is answered: what comes is what is awaited next
abbrev pub RoundStep : Round → HandlerCall → Round → Type 0
RoundStep r (Take bytes) s =
    (is_over r ≡ false) × IsPrefix bytes r.awaited × (s ≡ record r { awaited = drop (length bytes) r.awaited })
RoundStep r (Give room bytes) s =
    (r.failed ≡ false) × (bytes ≡ take room r.unsent) × (s ≡ record r { unsent = drop room r.unsent })
RoundStep r End s = (is_over r ≡ false) × (length r.awaited ≡ 0) × (s ≡ record r { ended = true })

-- Why a call fails: the handler has failed, or the end was said before; else bytes that aren't awaited are WrongEcho,
-- an end before the echo is whole is Cut, and memory may be wanting where bytes are to be given
abbrev pub RoundFails : Round → Asked → ℕ → Type 0
RoundFails r (ToTake bytes) n =
    (n ≡ number_of (if is_over r then Failed else WrongEcho)) × (is_over r ≡ false → ¬ IsPrefix bytes r.awaited)
RoundFails r (ToGive room) n =
    (n ≡ number_of (if r.failed then Failed else OutOfMemory))
    × (r.failed ≡ false → 0 < min room (length r.unsent))
RoundFails r ToEnd n = (n ≡ number_of (if is_over r then Failed else Cut))
    × (is_over r ≡ false → 0 < length r.awaited)
