-- The end that answers (libp2p ping 1.0.0: 32 bytes are echoed, again and again; the listener closes once the dialer
-- has).
use Rattle.std.specs.Prelude.{◌≡◌, ℕ, List, [], Bool, true, false, ◌||◌, ◌++◌, ◌+◌, ◌-◌, ◌*◌, ◌/◌, ◌%◌, ◌<◌}
use Rattle.std.specs.Prelude.{take, drop, length, min, if◌then◌else◌}
use Rattle.handlers.specs.Calls.{HandlerCall, Take, Give, End, Asked, ToTake, ToGive, ToEnd}
use Rattle.ping_h.specs.declared.fault.PingFault.TheVariants.{Failed, Cut, OutOfMemory}
use Rattle.ping_h.specs.Faults.{number_of}

-- the rounds that are whole: the longest first part of the input whose length is a multiple of 32
abbrev pub whole_rounds : List ℕ → List ℕ
whole_rounds input = take (length input / 32 * 32) input

-- an echo: the bytes that it was handed and hasn't given back, and how many of them, at the end, are of a round that
-- isn't whole
pub record Echo : Type 0 where
  pub owed : List ℕ
  pub begun : ℕ
  pub ended : Bool
  pub failed : Bool

abbrev pub fresh : Echo
fresh = record { owed = []; begun = 0; ended = false; failed = false }

-- how much of it may be given back now
abbrev pub whole : Echo → ℕ
whole e = length e.owed - e.begun

-- nothing more may be handed over
abbrev pub is_over : Echo → Bool
is_over e = e.failed || e.ended

-- one call that is answered
abbrev pub EchoStep : Echo → HandlerCall → Echo → Type 0
EchoStep e (Take bytes) f =
    (is_over e ≡ false) × (f ≡ record e { owed = e.owed ++ bytes; begun = (e.begun + length bytes) % 32 })
EchoStep e (Give room bytes) f =
    (e.failed ≡ false) × (bytes ≡ take (min room (whole e)) e.owed)
    × (f ≡ record e { owed = drop (min room (whole e)) e.owed })
EchoStep e End f = (is_over e ≡ false) × (e.begun ≡ 0) × (f ≡ record e { ended = true })

-- Why a call fails: the handler has failed, or the end was said before; else an end within a round is Cut, and memory
-- may be wanting where bytes are to be held or given
abbrev pub EchoFails : Echo → Asked → ℕ → Type 0
EchoFails e (ToTake bytes) n =
    (n ≡ number_of (if is_over e then Failed else OutOfMemory)) × (is_over e ≡ false → 0 < length bytes)
EchoFails e (ToGive room) n =
    (n ≡ number_of (if e.failed then Failed else OutOfMemory)) × (e.failed ≡ false → 0 < min room (whole e))
EchoFails e ToEnd n = (n ≡ number_of (if is_over e then Failed else Cut)) × (is_over e ≡ false → 0 < e.begun)
