-- What one turn of a poll leaves: this project's profile.
use Rattle.std.specs.Prelude.{◌≡◌, ◌≢◌, ◌≤◌, ◌⊎◌, ◌++◌, ℕ, Bool, true, false, List, [], ◌∷◌, length, Some, None}
use Rattle.futures.specs.declared.task.context.Context.{Context}
use Rattle.futures.specs.declared.task.Poll.TheVariants.{Ready}
use Rattle.futures.specs.Task.{Covers}
use Rattle.conn_link.specs.declared.link.Link.{Ghosts as LinkGhosts}
use Rattle.conn_link.specs.Calling.{Kind, Call, HasNone, asks_some, is_pending}
use Rattle.conn_link.specs.Calling.Kind.{Reads, Writes, Shuts}
use Rattle.handlers.specs.declared.handler.Handler.{Ghosts as HandlerGhosts}
use Rattle.handlers.specs.declared.protocols.Protocols.{Ghosts as ProtocolsGhosts}
use Rattle.peer_ids.specs.Key.{Key}
use Rattle.upgrade.specs.declared.role.ConnRole.{ConnRole}
use Rattle.conn_log.specs.declared.event.ConnEvent.{ConnEvent}
use Rattle.conn_log.specs.declared.event.ConnEvent.TheVariants as event
use Rattle.conn_log.specs.declared.event.ConnFault.TheVariants as fault
use Rattle.conn_log.specs.Entries.{Entry}
use Rattle.conn_core.specs.Connects.{IsGrown, is_over}
use Rattle.conn_future.specs.declared.stage.Stage.TheVariants.{Shutting, Over}
use Rattle.conn_future.specs.declared.conn.Conn.{Conn}
use Rattle.conn_future.specs.Stages.{Drains}
use Rattle.conn_future.specs.Follows.{Follows, given_by}
use Rattle.conn_future.specs.Polling.{Called, WritesFirst, ShutsLast, left_by}
use Rattle.conn_future.specs.declared.turns.Waits.{Waits}
use Rattle.conn_future.specs.declared.turns.Turn.{Turn}
use Rattle.conn_future.specs.declared.turns.Turn.TheVariants.{Again, Give, Failed, Wait}

-- the poll has registered where a call of the link was pending
pub record HasWaited (waits : Waits) (cx : Context) (reads_at writes_at : ℕ → Type 0) : Type 0 where
  pub reading : waits.reading ≡ true → Covers cx reads_at
  pub writing : waits.writing ≡ true → Covers cx writes_at

-- no call of that kind was pending
abbrev pub NoneWaited : Kind → List Call → Type 0
NoneWaited kind [] = Unit {0}
NoneWaited kind (call ∷ log) = (call.kind ≡ kind → is_pending call.answer ≡ false) × NoneWaited kind log

-- for so many bytes a read has to wait behind these calls
abbrev pub left_of : ℕ → List Call → ℕ
left_of left [] = left
left_of left (call ∷ log) = left_of (left_by call.kind call.answer left) log

-- A poll has made so many calls, of which none shuts; of those whose kind it doesn't wait for yet none was pending. Of
-- what waited before it no more is left to be written than waits now.
pub record Makes {L : Type 0} (calls : L → List Call → L → Type 0) (waits : Waits) (waited left : ℕ) (first : L)
    (old : Context) (last : L) (new : Context) (number : ℕ) : Type 0 where
  pub log : List Call
  pub called : Called calls first log last
  pub count : length log ≡ number
  pub asked : new.is_woken ≡ true → (old.is_woken ≡ true) ⊎ (asks_some log ≡ true)
  pub reading : waits.reading ≡ false → NoneWaited Reads log
  pub writing : waits.writing ≡ false → NoneWaited Writes log
  pub unshut : HasNone Shuts log
  pub writes : WritesFirst waited log
  pub is_left : waits.writing ≡ false → left_of waited log ≤ left
  pub untaken : waits.writing ≡ true → left_of waited log ≡ 0

-- A poll has made so many calls at most.
pub record MadeTo {L : Type 0} (calls : L → List Call → L → Type 0) (waited : ℕ) (lives : Bool) (first : L)
    (old : Context) (last : L) (new : Context) (limit : ℕ) : Type 0 where
  pub log : List Call
  pub called : Called calls first log last
  pub most : length log ≤ limit
  pub writes : WritesFirst waited log
  pub shuts : ShutsLast lives log
  pub asked : new.is_woken ≡ true → (old.is_woken ≡ true) ⊎ (asks_some log ≡ true)

-- the event that a turn gave
abbrev pub gave_by : {H : Type 0} → Turn H → List (ConnEvent H)
gave_by Again = []
gave_by (Give given) = given_by (Ready given)
gave_by Failed = event.Fault fault.Link ∷ []
gave_by Wait = []

-- 1 where a call of the link failed
abbrev pub faults_of : {H : Type 0} → Turn H → ℕ
faults_of Again = 0
faults_of (Give given) = 0
faults_of Failed = 1
faults_of Wait = 0

-- the fact, where the turn leads to another
abbrev pub OnAgain : {H : Type 0} → Turn H → Type 0 → Type 0
OnAgain Again P = P
OnAgain (Give given) P = Unit {0}
OnAgain Failed P = Unit {0}
OnAgain Wait P = Unit {0}

-- the fact, where the poll has to wait
abbrev pub OnWait : {H : Type 0} → Turn H → Type 0 → Type 0
OnWait Again P = Unit {0}
OnWait (Give given) P = Unit {0}
OnWait Failed P = Unit {0}
OnWait Wait P = P

-- the fact, where the turn gives nothing
abbrev pub OnGoing : {H : Type 0} → Turn H → Type 0 → Type 0
OnGoing Again P = P
OnGoing (Give given) P = Unit {0}
OnGoing Failed P = Unit {0}
OnGoing Wait P = P

module _ {L P H : Type 0} (link : LinkGhosts L) (protocols : ProtocolsGhosts P H) (handler : HandlerGhosts H) where
  -- The connection stands with what the turn gave behind those events, by a list that has grown. The turn gives no
  -- event by which a call of the link failed, nor that no more come.
  pub record Leads (start : P) (role : ConnRole) (own : Key) (first : L)
      (log : List (Entry H)) (gave : List (ConnEvent H)) (result : Turn H)
      (new : Conn L P H link protocols handler) : Type 0 where
    pub now : List (Entry H)
    pub grown : IsGrown [] log now
    pub follows : Follows link protocols handler start role own first now (gave ++ gave_by result) new
    pub not_link : result ≢ Give (Some (event.Fault fault.Link))
    pub not_none : result ≢ Give None

  -- wherever it stood, the turn leads on from there
  abbrev pub Turns : (old : Conn L P H link protocols handler) → Turn H → (new : Conn L P H link protocols handler)
      → Type 0
  Turns old result new =
      (start : P) (role : ConnRole) (own : Key) (first : L) (log : List (Entry H))
      (gave : List (ConnEvent H)) → Follows link protocols handler start role own first log gave old
      → Leads start role own first log gave result new

  -- It comes to its end only where the core does, a call of the link failed, or memory was refused.
  abbrev pub EndsFor : Turn H → (new : Conn L P H link protocols handler) → Type 0
  EndsFor result new = new.stage ≡ Over → (is_over new.core.phase ≡ true)
      ⊎ ((result ≡ Failed) ⊎ (result ≡ Give (Some (event.Fault fault.OutOfMemory))))

  -- Behind shut it ends by Shut, or where a call of the link failed.
  abbrev pub ClosesBy : Turn H → (new : Conn L P H link protocols handler) → Type 0
  ClosesBy result new = (new.stage ≡ Shutting)
      ⊎ ((new.stage ≡ Over) × ((result ≡ Failed) ⊎ (result ≡ Give (Some event.Shut))))

  -- What the link goes through behind shut. Where another turn follows, the rest is what is left then.
  abbrev pub DrainsBy : (old : Conn L P H link protocols handler) → Turn H → (new : Conn L P H link protocols handler)
      → Type 0
  DrainsBy old result new = (rest : List ℕ) × Drains link old.link old.unsent.items new.link rest
      × OnAgain result (rest ≡ new.unsent.items)
