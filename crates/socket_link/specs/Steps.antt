-- What a call of a link over a socket does, step by step, and what it answers by its steps.
-- Source: POSIX.1-2017 (the specification of `read` and `write` on a socket that doesn't block): a try that moves
-- nothing yet fails with EAGAIN. That it is made again, once in a call, is this project's profile.
use Rattle.std.specs.Prelude.{◌≡◌, ◌≢◌, ◌≤◌, ◌⊎◌, ◌++◌, ◌||◌, ℕ, zero, suc, Bool, true, false, List, [], ◌∷◌, ⊤}
use Rattle.std.specs.Prelude.{Result, Ok, Err}
use Rattle.std.specs.IoError.{error_kind}
use Rattle.std.specs.declared.io.Error.{Error}
use Rattle.std.specs.declared.io.ErrorKind.TheVariants.{WouldBlock}
use Rattle.futures.specs.declared.task.Poll.{Poll}
use Rattle.futures.specs.declared.task.Poll.TheVariants.{Ready, Pending}
use Rattle.conn_link.specs.declared.link.LinkFault.{LinkFault}
use Rattle.conn_link.specs.Piping.{failure}
use Rattle.conn_link.specs.Moving.{found_end}
use Rattle.conn_link.specs.Calling.{Kind, Call}
use Rattle.conn_link.specs.Calling.Kind.{Reads, Writes, Shuts}

-- a direction of a socket
pub data Side : Type 0 where
  Reading : Side
  Writing : Side

-- One call of a socket, with its answer. All but a try may ask for another poll.
pub data Step : Type 0 where
  -- whether a try is worth a call
  Asked : Side → Poll (Result ⊤ Error) → (asks : Bool) → Step
  -- a try with so much room
  Tried : Side → (room : ℕ) → Result ℕ Error → Step
  Shut : Poll (Result ⊤ Error) → (asks : Bool) → Step

-- one of these asked for another poll
abbrev pub asks_some : List Step → Bool
asks_some [] = false
asks_some (Asked side answer asks ∷ steps) = asks || asks_some steps
asks_some (Tried side room answer ∷ steps) = asks_some steps
asks_some (Shut answer asks ∷ steps) = asks || asks_some steps

module _ {S : Type 0} (steps : S → List Step → S → Type 0) where
  -- with no call, none was made
  abbrev pub StepsNone : Type 0
  StepsNone = (socket : S) → steps socket [] socket

  -- what is called in turn is called together, in order
  abbrev pub StepsOn : Type 0
  StepsOn = (first mid last : S) (log next : List Step) → steps first log mid → steps mid next last
      → steps first (log ++ next) last

-- So often the socket said that it was ready, and the try would have blocked.
abbrev pub Blocked : Side → (room times : ℕ) → List Step → Type 0
Blocked side room zero steps = steps ≡ []
Blocked side room (suc times) steps = (before : List Step) × (asks : Bool) × (error : Error)
    × (error_kind error ≡ WouldBlock) × Blocked side room times before
    × (steps ≡ before ++ Asked side (Ready (Ok tt)) asks ∷ Tried side room (Err error) ∷ [])

-- What a call answers by its last steps: it is pending where the socket isn't ready, fails where the socket fails, and
-- otherwise moves what the try moves.
pub data Answers (side : Side) (room : ℕ) (steps : List Step) (answer : Poll (Result ℕ LinkFault)) : Type 0 where
  Waits : (asks : Bool) → steps ≡ Asked side Pending asks ∷ [] → answer ≡ Pending → Answers side room steps answer
  Breaks : (asks : Bool) (error : Error) → steps ≡ Asked side (Ready (Err error)) asks ∷ [] → answer ≡ failure
      → Answers side room steps answer
  Moves : (asks : Bool) (count : ℕ) → steps ≡ Asked side (Ready (Ok tt)) asks ∷ Tried side room (Ok count) ∷ []
      → answer ≡ Ready (Ok count) → Answers side room steps answer
  Fails : (asks : Bool) (error : Error) → error_kind error ≢ WouldBlock
      → steps ≡ Asked side (Ready (Ok tt)) asks ∷ Tried side room (Err error) ∷ [] → answer ≡ failure
      → Answers side room steps answer

-- A call answers by its first try, or by the second where the first would have blocked. Where both would have it is
-- pending, and may ask for another poll by itself.
pub data Takes (side : Side) (room : ℕ) (steps : List Step) (answer : Poll (Result ℕ LinkFault)) (may_ask : Bool)
    : Type 0 where
  Answered : (times : ℕ) (blocked last : List Step) → times ≤ 1 → Blocked side room times blocked
      → Answers side room last answer → steps ≡ blocked ++ last → may_ask ≡ false
      → Takes side room steps answer may_ask
  Yields : Blocked side room 2 steps → answer ≡ Pending → may_ask ≡ true → Takes side room steps answer may_ask

-- A read or a write: it answers by its steps, and asks for another poll only where one of them does, or behind two
-- tries that would have blocked.
pub record Tries (side : Side) (call : Call) (steps : List Step) : Type 0 where
  pub may_ask : Bool
  pub takes : Takes side call.room steps call.answer may_ask
  pub asked : call.asks ≡ true → (asks_some steps ≡ true) ⊎ (may_ask ≡ true)

-- what a link answers where its socket is shut
abbrev pub told : Poll (Result ⊤ Error) → Poll (Result ℕ LinkFault)
told (Ready (Ok done)) = Ready (Ok 0)
told (Ready (Err error)) = failure
told Pending = Pending

-- a call that shuts it
pub record Shutting (call : Call) (steps : List Step) : Type 0 where
  pub answer : Poll (Result ⊤ Error)
  pub asks : Bool
  pub one : steps ≡ Shut answer asks ∷ []
  pub same : call.answer ≡ told answer
  pub asked : call.asks ≡ true → asks ≡ true

-- A call takes these steps, before and behind which a read has found the end of the input or hasn't. Behind the end a
-- read takes none, and gives none.
abbrev pub By : Kind → (ended : Bool) → Call → List Step → (then : Bool) → Type 0
By Reads true call steps then = (steps ≡ []) × (call.answer ≡ Ready (Ok 0)) × (call.asks ≡ false) × (then ≡ true)
By Reads false call steps then = Tries Reading call steps × (then ≡ found_end call.room call.answer)
By Writes ended call steps then = Tries Writing call steps × (then ≡ ended)
By Shuts ended call steps then = Shutting call steps × (then ≡ ended)

-- These calls take those steps, one after the other.
abbrev pub AllBy : (ended : Bool) → List Call → List Step → (then : Bool) → Type 0
AllBy ended [] steps then = (steps ≡ []) × (ended ≡ then)
AllBy ended (call ∷ log) steps then = (own : List Step) × (rest : List Step) × (mid : Bool) × (steps ≡ own ++ rest)
    × By call.kind ended call own mid × AllBy mid log rest then
