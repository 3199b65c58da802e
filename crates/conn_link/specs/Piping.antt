-- A pipe as its callers see it, and what its lists of steps make of a call: this project's profile.
use Rattle.std.specs.Prelude.{◌≡◌, ℕ, ◌≤◌, min, Bool, true, false, List, [], ◌∷◌, ◌++◌, drop, Result, Ok, Err}
use Rattle.futures.specs.declared.task.Poll.{Poll}
use Rattle.futures.specs.declared.task.Poll.TheVariants as polls
use Rattle.conn_link.specs.declared.link.LinkFault.{LinkFault}
use Rattle.conn_link.specs.declared.step.PipeStep.{PipeStep}
use Rattle.conn_link.specs.declared.step.PipeStep.TheVariants.{Upto, Pending, Fail}
use Rattle.conn_link.specs.Calling.{Kind, Call, is_pending}
use Rattle.conn_link.specs.Calling.Kind.{Reads, Writes, Shuts}

pub record Piped : Type 0 where
  -- the input that no read has given yet
  pub unread : List ℕ
  -- what all writes took
  pub written : List ℕ
  -- so many bytes can be written before memory is asked for
  pub room : ℕ
  -- the steps that no call has taken yet
  pub reads : List PipeStep
  pub writes : List PipeStep
  -- how many calls have failed
  pub failures : ℕ
  -- a read found the end of the input
  pub has_ended : Bool
  -- it was not shut yet
  pub is_open : Bool

-- A step that moves bytes moves one at least.
abbrev pub CanGo : PipeStep → Type 0
CanGo (Upto most) = 1 ≤ most
CanGo Pending = Unit {0}
CanGo Fail = Unit {0}

-- the answer of a call that fails
abbrev pub failure : {A : Type 0} → Poll (Result A LinkFault)
failure = polls.Ready (Err (record {}))

-- what a call answers that finds these steps, where so many bytes can be moved
abbrev pub answer_by : List PipeStep → ℕ → Poll (Result ℕ LinkFault)
answer_by [] able = polls.Ready (Ok able)
answer_by (Upto most ∷ steps) able = polls.Ready (Ok (min most able))
answer_by (Pending ∷ steps) able = polls.Pending
answer_by (Fail ∷ steps) able = failure

-- a call is pending that takes the first of these steps
abbrev pub is_first_pending : List PipeStep → Bool
is_first_pending [] = false
is_first_pending (Upto most ∷ steps) = false
is_first_pending (Pending ∷ steps) = true
is_first_pending (Fail ∷ steps) = false

-- a call of that kind is pending, where reads and writes take these steps
abbrev pub is_pending_by : Kind → (reads writes : List PipeStep) → Bool
is_pending_by Reads reads writes = is_first_pending reads
is_pending_by Writes reads writes = is_first_pending writes
is_pending_by Shuts reads writes = false

-- the steps that a call leaves to the reads behind it, and to the writes
abbrev pub reads_left : Kind → List PipeStep → List PipeStep
reads_left Reads reads = drop 1 reads
reads_left Writes reads = reads
reads_left Shuts reads = reads

abbrev pub writes_left : Kind → List PipeStep → List PipeStep
writes_left Reads writes = writes
writes_left Writes writes = drop 1 writes
writes_left Shuts writes = writes

-- These calls take those steps of reads and of writes one by one, up to the ones left. A call is pending exactly where
-- its step is, and none but a pending call asks for another poll.
abbrev pub GoesBy : (reads writes : List PipeStep) → List Call → (reads_then writes_then : List PipeStep) → Type 0
GoesBy reads writes [] reads_then writes_then = (reads ≡ reads_then) × (writes ≡ writes_then)
GoesBy reads writes (call ∷ log) reads_then writes_then =
    (is_pending call.answer ≡ is_pending_by call.kind reads writes)
    × (call.asks ≡ true → is_pending call.answer ≡ true)
    × GoesBy (reads_left call.kind reads) (writes_left call.kind writes) log reads_then writes_then

-- the calls from one state to another
abbrev pub PipeCalls : Piped → List Call → Piped → Type 0
PipeCalls first log last = GoesBy first.reads first.writes log last.reads last.writes

abbrev pub IsShut : Piped → Type 0
IsShut pipe = pipe.is_open ≡ false

-- From the first state to the second the front of the input was given, and what was taken was written behind the rest.
-- An end that was found stays found, and what was shut stays shut.
abbrev pub PipeMoves : Piped → List ℕ → List ℕ → Piped → Type 0
PipeMoves first given taken last = (first.unread ≡ given ++ last.unread) × (last.written ≡ first.written ++ taken)
    × (first.has_ended ≡ true → last.has_ended ≡ true) × (IsShut first → IsShut last)

-- a read found the end, and nothing is left behind it
abbrev pub HasEnded : Piped → Type 0
HasEnded pipe = (pipe.has_ended ≡ true) × (pipe.unread ≡ [])
