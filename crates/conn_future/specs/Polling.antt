-- Of one poll: which calls it makes of its link, and where it asks for another.
-- Source: this project's profile of a connection.
use Rattle.std.specs.Prelude.{◌≡◌, ◌≤◌, ◌⊎◌, ◌-◌, ℕ, Bool, true, false, List, [], ◌∷◌, length, Result, Ok, Err}
use Rattle.std.specs.List.{All}
use Rattle.futures.specs.declared.task.Poll.{Poll}
use Rattle.futures.specs.declared.task.Poll.TheVariants.{Ready, Pending}
use Rattle.futures.specs.declared.task.context.Context.{Context}
use Rattle.conn_link.specs.declared.link.LinkFault.{LinkFault}
use Rattle.conn_link.specs.Calling.{Kind, Call, IsAble, IsOnce, asks_some, is_pending}
use Rattle.conn_link.specs.Calling.Kind.{Reads, Writes, Shuts}

-- For so many bytes of output a read has to wait behind a call that was answered so: for none, where the link took no
-- more.
abbrev pub left_by : Kind → Poll (Result ℕ LinkFault) → ℕ → ℕ
left_by Writes (Ready (Ok count)) left = left - count
left_by Writes (Ready (Err fault)) left = 0
left_by Writes Pending left = 0
left_by Reads answer left = left
left_by Shuts answer left = left

-- What waits is written first: a read comes only behind so many bytes, or behind a write that the link didn't take.
abbrev pub WritesFirst : ℕ → List Call → Type 0
WritesFirst left [] = Unit {0}
WritesFirst left (call ∷ log) =
    (call.kind ≡ Reads → left ≡ 0) × WritesFirst (left_by call.kind call.answer left) log

-- Shutting that was answered is the last call, and behind it the connection lives no more.
abbrev pub ShutsLast : Bool → List Call → Type 0
ShutsLast lives [] = Unit {0}
ShutsLast lives (call ∷ log) =
    (call.kind ≡ Shuts → is_pending call.answer ≡ false → (log ≡ []) × (lives ≡ false)) × ShutsLast lives log

module _ {L : Type 0} (calls : L → List Call → L → Type 0) where
  -- Between two states of a link these calls were made, each that moves bytes with room for one at least, and none
  -- behind one of its kind that was pending.
  pub record Called (first : L) (log : List Call) (last : L) : Type 0 where
    pub made : calls first log last
    pub able : All IsAble log
    pub once : IsOnce log

  -- A poll makes at most 32 calls, and those that write what waited come before one that reads. Behind it the
  -- connection lives, or not. It asks for another poll only where one of them did, or behind 32.
  pub record Polls (waiting : ℕ) (lives : Bool) (first : L) (old : Context) (last : L) (new : Context) : Type 0 where
    pub log : List Call
    pub called : Called first log last
    pub most : length log ≤ 32
    pub writes : WritesFirst waiting log
    pub shuts : ShutsLast lives log
    pub asked : new.is_woken ≡ true
        → (old.is_woken ≡ true) ⊎ ((asks_some log ≡ true) ⊎ (length log ≡ 32))
