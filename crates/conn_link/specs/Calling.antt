-- The calls that were made of a link, one by one: this project's profile of a link that is polled by hand.
-- Source: the crate `futures`, `Context` and `Poll`: a call that is pending has asked for another poll, or waits at a
-- source.
use Rattle.std.specs.Prelude.{◌≡◌, ◌≢◌, ◌≤◌, ◌⊎◌, ◌++◌, ◌||◌, ◌&&◌, not, ℕ, Bool, true, false, List, [], ◌∷◌, ⊤}
use Rattle.std.specs.Prelude.{Result, Ok, Err}
use Rattle.futures.specs.declared.task.Poll.{Poll}
use Rattle.futures.specs.declared.task.Poll.TheVariants.{Ready, Pending}
use Rattle.futures.specs.declared.task.context.Context.{Context}
use Rattle.conn_link.specs.declared.link.LinkFault.{LinkFault}

-- what a call is made for
pub data Kind : Type 0 where
  Reads : Kind
  Writes : Kind
  Shuts : Kind

-- A call: what it is made for, how many bytes it may move at most, its answer, and whether it asked for another poll
-- where none had been asked for. Where shutting succeeds the answer is 0.
pub record Call : Type 0 where
  pub kind : Kind
  pub room : ℕ
  pub answer : Poll (Result ℕ LinkFault)
  pub asks : Bool

abbrev pub is_pending : Poll (Result ℕ LinkFault) → Bool
is_pending (Ready answer) = false
is_pending Pending = true

-- the answer of shutting
abbrev pub shut_answer : Poll (Result ⊤ LinkFault) → Poll (Result ℕ LinkFault)
shut_answer (Ready (Ok done)) = Ready (Ok 0)
shut_answer (Ready (Err fault)) = Ready (Err fault)
shut_answer Pending = Pending

-- another poll was asked for between the two, and none before
abbrev pub asks_between : Context → Context → Bool
asks_between old new = not old.is_woken && new.is_woken

-- the call that was answered so
abbrev pub call_of : Kind → ℕ → Poll (Result ℕ LinkFault) → Context → Context → Call
call_of kind room answer old new = record {
  kind = kind;
  room = room;
  answer = answer;
  asks = asks_between old new;
}

module _ {L : Type 0} (calls : L → List Call → L → Type 0) where
  -- with no call, none was made
  abbrev pub CallsNone : Type 0
  CallsNone = (link : L) → calls link [] link

  -- what is called in turn is called together, in order
  abbrev pub CallsOn : Type 0
  CallsOn = (first mid last : L) (log next : List Call) → calls first log mid → calls mid next last
      → calls first (log ++ next) last

-- A call that moves bytes may move one at least.
abbrev pub IsAble : Call → Type 0
IsAble call = (call.kind ≡ Shuts) ⊎ (1 ≤ call.room)

-- no call of that kind is among these
abbrev pub HasNone : Kind → List Call → Type 0
HasNone kind [] = Unit {0}
HasNone kind (call ∷ log) = (call.kind ≢ kind) × HasNone kind log

-- Behind a call that is pending none of its kind is made.
abbrev pub IsOnce : List Call → Type 0
IsOnce [] = Unit {0}
IsOnce (call ∷ log) = (is_pending call.answer ≡ true → HasNone call.kind log) × IsOnce log

-- one of these asked for another poll
abbrev pub asks_some : List Call → Bool
asks_some [] = false
asks_some (call ∷ log) = call.asks || asks_some log
