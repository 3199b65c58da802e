-- The calls of one poll: a call behind others.
use Rattle.std.proofs.Common.{◌≡◌, ◌≢◌, ◌≤◌, ◌⊎◌, inl, inr, ◌||◌, ◌&&◌, ◌+◌, ℕ, Bool, true, false, not, List, [], ◌∷◌, ◌++◌, length, length-append, arith, refl, ap, sym, ◌∙◌}
use Rattle.std.proofs.lemmas.List.Elements.{All-append, All-cons, All-nil}
use Rattle.futures.specs.declared.task.context.Context.{Context}
use Rattle.conn_link.specs.Calling.{Kind, Call, IsAble, HasNone, IsOnce, CallsNone, CallsOn, asks_some, asks_between, is_pending}
use Rattle.conn_link.specs.Calling.Kind.{Reads, Writes, Shuts}
use Rattle.conn_future.specs.Polling.{Called, Polls, WritesFirst, ShutsLast, left_by}
use Rattle.conn_future.specs.declared.turns.Waits.{Waits}
use Rattle.conn_future.specs.Turning.{NoneWaited, Makes, MadeTo, left_of}

none_on : (kind : Kind) (log : List Call) (call : Call) → call.kind ≢ kind → HasNone kind log → HasNone kind (log ++ call ∷ [])
none_on kind [] call not none = (not, tt)
none_on kind (first ∷ log) call not none = (none.0, none_on kind log call not none.1)

once_on : (log : List Call) (call : Call) → NoneWaited call.kind log → IsOnce log → IsOnce (log ++ call ∷ [])
once_on [] call waited once = (λ is. tt, tt)
once_on (first ∷ log) call waited once = (
  λ is. none_on first.kind log call (λ same. let waits = waited.0 (sym same) in cc (is, waits)) (once.0 is),
  once_on log call waited.1 once.1,
)

pub waited_on : (kind : Kind) (log : List Call) (call : Call) → (call.kind ≡ kind → is_pending call.answer ≡ false) → NoneWaited kind log
    → NoneWaited kind (log ++ call ∷ [])
waited_on kind [] call not waited = (not, tt)
waited_on kind (first ∷ log) call not waited = (waited.0, waited_on kind log call not waited.1)

-- a call that was never made wasn't pending
pub none_waited : (kind : Kind) (log : List Call) → HasNone kind log → NoneWaited kind log
none_waited kind [] none = tt
none_waited kind (first ∷ log) none = (λ is. absurd (none.0 is), none_waited kind log none.1)

pub unshut_on : (lives : Bool) (log : List Call) → HasNone Shuts log → ShutsLast lives log
unshut_on lives [] none = tt
unshut_on lives (first ∷ log) none = (λ is answered. absurd (none.0 is), unshut_on lives log none.1)

-- where none shut before, the last call may
shuts_on : (lives : Bool) (log : List Call) (call : Call) → HasNone Shuts log
    → (call.kind ≡ Shuts → is_pending call.answer ≡ false → lives ≡ false) → ShutsLast lives (log ++ call ∷ [])
shuts_on lives [] call none over = (λ is answered. (refl, over is answered), tt)
shuts_on lives (first ∷ log) call none over = (λ is answered. absurd (none.0 is), shuts_on lives log call none.1 over)

or_behind : (asks before after : Bool) → (before ≡ true → after ≡ true) → (asks || before) ≡ true → (asks || after) ≡ true
or_behind true before after still is = refl
or_behind false before after still is = still is

asks_before : (log : List Call) (call : Call) → asks_some log ≡ true → asks_some (log ++ call ∷ []) ≡ true
asks_before [] call asks = absurd (cc asks)
asks_before (first ∷ log) call asks =
    or_behind first.asks (asks_some log) (asks_some (log ++ call ∷ [])) (asks_before log call) asks

or_last : (asks after : Bool) → after ≡ true → (asks || after) ≡ true
or_last true after is = refl
or_last false after is = is

asks_last : (log : List Call) (call : Call) → call.asks ≡ true → asks_some (log ++ call ∷ []) ≡ true
asks_last [] call asks = ap (λ b. b || false) asks
asks_last (first ∷ log) call asks = or_last first.asks (asks_some (log ++ call ∷ [])) (asks_last log call asks)

-- it was asked for before, or by this call
asks_by : (old new : Bool) → new ≡ true → (old ≡ true) ⊎ ((not old && new) ≡ true)
asks_by true new is = inl refl
asks_by false new is = inr is

length_on : (log : List Call) (call : Call) → length (log ++ call ∷ []) ≡ length log + 1
length_on log call = length-append log (call ∷ [])

asked_on : (log : List Call) (call : Call) (old cx new : Context) → call.asks ≡ asks_between cx new
    → (cx.is_woken ≡ true → (old.is_woken ≡ true) ⊎ (asks_some log ≡ true))
    → new.is_woken ≡ true → (old.is_woken ≡ true) ⊎ (asks_some (log ++ call ∷ []) ≡ true)
asked_on log call old cx new by before woken = elim (asks_by cx.is_woken new.is_woken woken) [
  | inl was ↦ elim (before was) [
    | inl first ↦ inl first
    | inr asks ↦ inr (asks_before log call asks)
  ]
  | inr asks ↦ inr (asks_last log call (by ∙ asks))
]

-- what is left behind a further call
pub left_on : (waited : ℕ) (log : List Call) (call : Call) → left_of waited (log ++ call ∷ []) ≡ left_by call.kind call.answer (left_of waited log)
left_on waited [] call = refl
left_on waited (first ∷ log) call = left_on (left_by first.kind first.answer waited) log call

writes_on : (waited : ℕ) (log : List Call) (call : Call) → (call.kind ≡ Reads → left_of waited log ≡ 0) → WritesFirst waited log
    → WritesFirst waited (log ++ call ∷ [])
writes_on waited [] call none writes = (none, tt)
writes_on waited (first ∷ log) call none writes = (writes.0, writes_on (left_by first.kind first.answer waited) log call none writes.1)

-- where no output waits that could be written, none is left of what waited before
pub none_left : {L : Type 0} (calls : L → List Call → L → Type 0) (waits : Waits) (waited left : ℕ) (first : L) (old : Context)
    (last : L) (new : Context) (count : ℕ) → (it : Makes calls waits waited left first old last new count)
    → (waits.writing ≡ false → left ≡ 0) → left_of waited it.log ≡ 0
none_left calls waits waited left first old last new count it none = by_writing waits.writing refl where
  by_writing : (b : Bool) → waits.writing ≡ b → left_of waited it.log ≡ 0
  by_writing true is = it.untaken is
  by_writing false is = let most = it.is_left is in let no_more = none is in omega (arith, most, no_more)

module _ {L : Type 0} (calls : L → List Call → L → Type 0) (on : CallsOn calls) where
  called_on : (first mid last : L) (log : List Call) (call : Call) → NoneWaited call.kind log → IsAble call
      → calls mid (call ∷ []) last → Called calls first log mid → Called calls first (log ++ call ∷ []) last
  called_on first mid last log call waited able next called = record {
    made = on first mid last log (call ∷ []) called.made next;
    able = All-append IsAble log (call ∷ []) called.able (All-cons IsAble call [] able (All-nil IsAble));
    once = once_on log call waited called.once;
  }

  -- the last call of a poll
  pub made_to : (waits : Waits) (before left : ℕ) (lives : Bool) (first mid last : L) (old cx new : Context) (count : ℕ) (call : Call)
      → (it : Makes calls waits before left first old mid cx count) → NoneWaited call.kind it.log → IsAble call
      → call.asks ≡ asks_between cx new → calls mid (call ∷ []) last → (call.kind ≡ Reads → left_of before it.log ≡ 0)
      → (call.kind ≡ Shuts → is_pending call.answer ≡ false → lives ≡ false)
      → MadeTo calls before lives first old last new (count + 1)
  made_to waits before left lives first mid last old cx new count call it waited able asks next none over = record {
    log = it.log ++ call ∷ [];
    called = called_on first mid last it.log call waited able next it.called;
    most = let same = length_on it.log call in let all = it.count in omega (arith, same, all);
    writes = writes_on before it.log call none it.writes;
    shuts = shuts_on lives it.log call it.unshut over;
    asked = asked_on it.log call old cx new asks it.asked;
  }

  -- one behind which others may follow
  pub made_on : (waits then : Waits) (before left less : ℕ) (first mid last : L) (old cx new : Context) (count : ℕ) (call : Call)
      → (it : Makes calls waits before left first old mid cx count) → NoneWaited call.kind it.log → IsAble call
      → call.asks ≡ asks_between cx new → calls mid (call ∷ []) last
      → (call.kind ≡ Reads → left_of before it.log ≡ 0)
      → (then.writing ≡ false → left_by call.kind call.answer (left_of before it.log) ≤ less)
      → (then.writing ≡ true → left_by call.kind call.answer (left_of before it.log) ≡ 0)
      → (then.reading ≡ false → (waits.reading ≡ false) × (call.kind ≡ Reads → is_pending call.answer ≡ false))
      → (then.writing ≡ false → (waits.writing ≡ false) × (call.kind ≡ Writes → is_pending call.answer ≡ false))
      → call.kind ≢ Shuts → Makes calls then before less first old last new (count + 1)
  made_on waits then before left less first mid last old cx new count call it waited able asks next none most untaken reading writing shutting = record {
    log = it.log ++ call ∷ [];
    called = called_on first mid last it.log call waited able next it.called;
    count = length_on it.log call ∙ ap (λ n. n + 1) it.count;
    asked = asked_on it.log call old cx new asks it.asked;
    reading = λ is. waited_on Reads it.log call (reading is).1 (it.reading (reading is).0);
    writing = λ is. waited_on Writes it.log call (writing is).1 (it.writing (writing is).0);
    unshut = none_on Shuts it.log call shutting it.unshut;
    writes = writes_on before it.log call none it.writes;
    is_left = λ is. let same = left_on before it.log call in let less = most is in omega (arith, same, less);
    untaken = λ is. left_on before it.log call ∙ untaken is;
  }

-- a call that was answered leaves what the poll waits for
pub answered_on : {L : Type 0} (calls : L → List Call → L → Type 0) → CallsOn calls → (waits : Waits) (before left less : ℕ)
    (first mid last : L) (old cx new : Context) (count : ℕ) (call : Call) → (it : Makes calls waits before left first old mid cx count)
    → NoneWaited call.kind it.log → IsAble call → is_pending call.answer ≡ false → call.kind ≢ Shuts → call.asks ≡ asks_between cx new
    → calls mid (call ∷ []) last → (call.kind ≡ Reads → left_of before it.log ≡ 0)
    → (waits.writing ≡ false → left_by call.kind call.answer (left_of before it.log) ≤ less)
    → (waits.writing ≡ true → left_by call.kind call.answer (left_of before it.log) ≡ 0)
    → Makes calls waits before less first old last new (count + 1)
answered_on calls on waits before left less first mid last old cx new count call it waited able answered unshut asks next none most untaken =
    made_on calls on waits waits before left less first mid last old cx new count call it waited able asks next none most untaken
    (λ is. (is, λ kind. answered)) (λ is. (is, λ kind. answered)) unshut

pub none_made : {L : Type 0} (calls : L → List Call → L → Type 0) → CallsNone calls → (first : L) → Called calls first [] first
none_made calls none first = record { made = none first; able = All-nil IsAble; once = tt }

-- a poll that made no call
pub polls_none : {L : Type 0} (calls : L → List Call → L → Type 0) → CallsNone calls → (waiting : ℕ) (lives : Bool) (first : L) (cx : Context)
    → Polls calls waiting lives first cx first cx
polls_none calls none waiting lives first cx = record {
  log = [];
  called = none_made calls none first;
  most = omega arith;
  writes = tt;
  shuts = tt;
  asked = λ woken. inl woken;
}

-- one that made all that it may
pub polls_all : {L : Type 0} (calls : L → List Call → L → Type 0) (waits : Waits) (before left : ℕ) (lives : Bool) (first last : L) (old cx new : Context) (count : ℕ)
    → count ≡ 32 → Makes calls waits before left first old last cx count → Polls calls before lives first old last new
polls_all calls waits before left lives first last old cx new count all it = record {
  log = it.log;
  called = it.called;
  most = let made = it.count in omega (arith, all, made);
  writes = it.writes;
  shuts = unshut_on lives it.log it.unshut;
  asked = λ woken. inr (inr (it.count ∙ all));
}

pub made_up_to : {L : Type 0} (calls : L → List Call → L → Type 0) (waits : Waits) (before left : ℕ) (lives : Bool) (first last : L) (old new : Context) (count : ℕ)
    → Makes calls waits before left first old last new count → MadeTo calls before lives first old last new count
made_up_to calls waits before left lives first last old new count it = record {
  log = it.log;
  called = it.called;
  most = let all = it.count in omega (arith, all);
  writes = it.writes;
  shuts = unshut_on lives it.log it.unshut;
  asked = it.asked;
}

pub made_all : {L : Type 0} (calls : L → List Call → L → Type 0) (waits : Waits) (before left : ℕ) (lives : Bool) (first last : L) (old new : Context) (count : ℕ)
    → Makes calls waits before left first old last new count → MadeTo calls before lives first old last new (count + 1)
made_all calls waits before left lives first last old new count it = record {
  log = it.log;
  called = it.called;
  most = let all = it.count in omega (arith, all);
  writes = it.writes;
  shuts = unshut_on lives it.log it.unshut;
  asked = it.asked;
}

-- a poll that made less than 32 calls, and then one more at most
pub polls_to : {L : Type 0} (calls : L → List Call → L → Type 0) (before : ℕ) (lives : Bool) (first last : L) (old new : Context) (most : ℕ) → most ≤ 32
    → MadeTo calls before lives first old last new most → Polls calls before lives first old last new
polls_to calls before lives first last old new most less it = record {
  log = it.log;
  called = it.called;
  most = let all = it.most in omega (arith, all, less);
  writes = it.writes;
  shuts = it.shuts;
  asked = λ woken. elim (it.asked woken) [
    | inl was ↦ inl was
    | inr asks ↦ inr (inl asks)
  ];
}
