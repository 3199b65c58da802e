-- What the calls of a link answer, and the bytes that they move.
-- Source: POSIX.1-2017, `read`, `write` and `shutdown` on a socket: bytes are given in the order in which they came,
-- and taken in the order in which they are to go, a front part at a time, and a read of none is the end. That a call
-- may be pending, and that failures are counted, is this project's profile.
use Rattle.std.specs.Prelude.{ℕ, zero, suc, ◌+◌, ◌-◌, ◌^◌, ◌≡◌, ◌++◌, List, [], Bool, true, false, Result, Ok, Err}
use Rattle.std.specs.Prelude.{min, take}
use Rattle.futures.specs.declared.task.Poll.{Poll}
use Rattle.futures.specs.declared.task.Poll.TheVariants.{Ready, Pending}
use Rattle.conn_link.specs.declared.link.LinkFault.{LinkFault}

-- how many bytes the call moved
abbrev pub count_moved : Poll (Result ℕ LinkFault) → ℕ
count_moved (Ready (Ok count)) = count
count_moved (Ready (Err fault)) = 0
count_moved Pending = 0

-- which bytes of the buffer it moved: a front part
abbrev pub bytes_moved : Poll (Result ℕ LinkFault) → List ℕ → List ℕ
bytes_moved polled buffer = take (count_moved polled) buffer

-- A read finds the end where it moves none, and its buffer has room.
abbrev pub found_end : (room : ℕ) → Poll (Result ℕ LinkFault) → Bool
found_end zero polled = false
found_end (suc room) (Ready (Ok zero)) = true
found_end (suc room) (Ready (Ok (suc count))) = false
found_end (suc room) (Ready (Err fault)) = false
found_end (suc room) Pending = false

-- The count of failures behind the call: an error adds 1, and nothing else does. A count that is full stays.
abbrev pub counted : {A : Type 0} → ℕ → Poll (Result A LinkFault) → ℕ
counted failed (Ready (Ok answer)) = failed
counted failed (Ready (Err fault)) = min (failed + 1) (2 ^ 64 - 1)
counted failed Pending = failed

-- the fact, where the call succeeded
abbrev pub OnSuccess : {A : Type 0} → Poll (Result A LinkFault) → Type 0 → Type 0
OnSuccess (Ready (Ok answer)) P = P
OnSuccess (Ready (Err fault)) P = Unit {0}
OnSuccess Pending P = Unit {0}

-- each of the first sources is one of the second
abbrev pub Within : (ℕ → Type 0) → (ℕ → Type 0) → Type 0
Within some all = (source : ℕ) → some source → all source

module _ {L : Type 0} (moves : L → List ℕ → List ℕ → L → Type 0) where
  -- with no call, nothing is moved
  abbrev pub MovesNothing : Type 0
  MovesNothing = (link : L) → moves link [] [] link

  -- what is moved in turn is moved together, in order
  abbrev pub MovesOn : Type 0
  MovesOn =
      (first mid last : L) (given taken given_next taken_next : List ℕ)
      → moves first given taken mid → moves mid given_next taken_next last
      → moves first (given ++ given_next) (taken ++ taken_next) last

  -- behind the end nothing is given, and it stays the end
  abbrev pub StaysEnded : (L → Type 0) → Type 0
  StaysEnded has_ended =
      (first last : L) (given taken : List ℕ) → moves first given taken last → has_ended first
      → (given ≡ []) × has_ended last

  -- what was shut stays shut
  abbrev pub StaysShut : (L → Type 0) → Type 0
  StaysShut is_shut =
      (first last : L) (given taken : List ℕ) → moves first given taken last → is_shut first → is_shut last
