-- A call that is answered is refused for want of memory alone.
use Rattle.std.proofs.Common.{◌≡◌, ℕ, Bool, false, List, ◌<◌, min, length, take, ◌∙◌, ap, arith}
use Rattle.std.specs.Prelude.{if◌then◌else◌}
use Rattle.std.proofs.lemmas.List.{length-take}
use Rattle.handlers.specs.Calls.{Take, Give, End, ToTake, ToGive, ToEnd}
use Rattle.ping_h.specs.declared.fault.PingFault.{PingFault}
use Rattle.ping_h.specs.declared.fault.PingFault.TheVariants.{Failed, OutOfMemory}
use Rattle.ping_h.specs.Faults.{number_of}
use Rattle.ping_h.specs.Echoes.{Echo, EchoStep, EchoFails, is_over, whole}
use Rattle.ping_h.specs.Rounds.{Round, RoundStep, RoundFails}

-- the number of what goes on
going_number : (over : Bool) (fault : PingFault) (n : ℕ) → over ≡ false → n ≡ number_of (if over then Failed else fault) → n ≡ number_of fault
going_number over fault n going is = is ∙ ap (λ (b : Bool). number_of (if b then Failed else fault)) going

-- bytes are given where there is room for some that are there
some_given : (room : ℕ) (bytes owed : List ℕ) → bytes ≡ take room owed → 0 < min room (length owed) → 0 < length bytes
some_given room bytes owed is some = let size = length-take room owed in let same = ap length is in omega arith

pub echo_take : (old new : Echo) (bytes : List ℕ) (n : ℕ) → EchoStep old (Take bytes) new → EchoFails old (ToTake bytes) n
    → (n ≡ number_of OutOfMemory) × (0 < length bytes)
echo_take old new bytes n step fails = (going_number (is_over old) OutOfMemory n step.0 fails.0, fails.1 step.0)

pub echo_give : (old new : Echo) (room : ℕ) (bytes : List ℕ) (n : ℕ) → EchoStep old (Give room bytes) new → EchoFails old (ToGive room) n
    → (n ≡ number_of OutOfMemory) × (0 < length bytes)
echo_give old new room bytes n step fails =
    let some : 0 < min room (whole old) = fails.1 step.0 in (
      going_number old.failed OutOfMemory n step.0 fails.0,
      some_given (min room (whole old)) bytes old.owed step.1 (omega arith),
    )

pub echo_end : (old new : Echo) (n : ℕ) → EchoStep old End new → EchoFails old ToEnd n → ⊥
echo_end old new n step fails = let some : 0 < old.begun = fails.1 step.0 in let none : old.begun ≡ 0 = step.1 in omega arith

pub round_take : (old new : Round) (bytes : List ℕ) (n : ℕ) → RoundStep old (Take bytes) new → RoundFails old (ToTake bytes) n → ⊥
round_take old new bytes n step fails = fails.1 step.0 step.1

pub round_give : (old new : Round) (room : ℕ) (bytes : List ℕ) (n : ℕ) → RoundStep old (Give room bytes) new → RoundFails old (ToGive room) n
    → (n ≡ number_of OutOfMemory) × (0 < length bytes)
round_give old new room bytes n step fails =
    (going_number old.failed OutOfMemory n step.0 fails.0, some_given room bytes old.unsent step.1 (fails.1 step.0))

pub round_end : (old new : Round) (n : ℕ) → RoundStep old End new → RoundFails old ToEnd n → ⊥
round_end old new n step fails = let some : 0 < length old.awaited = fails.1 step.0 in let none : length old.awaited ≡ 0 = step.1 in omega arith
