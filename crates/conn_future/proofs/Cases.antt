-- Small facts by cases. Each is stated for itself: where it is cited it costs nothing, and `cc` there would read all that is known.
use Rattle.std.proofs.Common.{◌≡◌, ◌≢◌, ◌<◌, ◌≤◌, ◌+◌, ◌==◌, ◌∙◌, arith, ℕ, Bool, true, false, List, [], ◌∷◌, length, Option, Some, None, Result, Ok, Err, min, ◌-◌, ◌^◌, sym, ap, subst}
use Rattle.std.proofs.lemmas.Bool.{eqb-true, eq-eqb}
use Rattle.futures.specs.declared.task.Poll.{Poll}
use Rattle.futures.specs.declared.task.Poll.TheVariants.{Ready, Pending}
use Rattle.conn_link.specs.declared.link.LinkFault.{LinkFault}
use Rattle.conn_link.specs.Moving.{counted, OnSuccess}
use Rattle.conn_link.specs.Calling.Kind.{Reads, Writes, Shuts}
use Rattle.conn_log.specs.declared.event.ConnEvent.{ConnEvent}
use Rattle.conn_log.specs.declared.event.ConnEvent.TheVariants as event
use Rattle.conn_log.specs.declared.event.ConnFault.TheVariants as fault
use Rattle.conn_future.specs.declared.stage.Stage.{Stage}
use Rattle.conn_future.specs.declared.stage.Stage.TheVariants.{Going, Shutting, Starved, Over}
use Rattle.conn_future.specs.declared.turns.Turn.{Turn}
use Rattle.conn_future.specs.declared.turns.Turn.TheVariants.{Again, Give, Failed, Wait}
use Rattle.conn_future.specs.Turning.{OnAgain, OnGoing, OnWait}
use Rattle.conn_future.proofs.Lists.{none_of}

pub both_not : {b : Bool} → b ≡ true → b ≡ false → ⊥
both_not is not = cc (is, not)

pub false_not : false ≡ true → ⊥
false_not is = cc is

pub starved_not : {stage : Stage} → stage ≡ Over → stage ≡ Starved → ⊥
starved_not over starved = cc (over, starved)

pub going_not : {stage : Stage} → stage ≡ Going → stage ≡ Shutting → ⊥
going_not going shutting = cc (going, shutting)

pub some_not : {A : Type 0} {held rest : List A} {x : A} → held ≡ [] → held ≡ x ∷ rest → ⊥
some_not none some = cc (none, some)

-- ---- what a turn leads to

module _ {H : Type 0} where
  pub again_not : {given : Option (ConnEvent H)} → Again ≡ Give given → ⊥
  again_not is = cc is

  pub failed_not : {given : Option (ConnEvent H)} → Failed ≡ Give given → ⊥
  failed_not is = cc is

  pub wait_not : {given : Option (ConnEvent H)} → Wait ≡ Give given → ⊥
  wait_not is = cc is

  pub given_not : {given : Option (ConnEvent H)} → Give given ≡ Failed → ⊥
  given_not is = cc is

  pub none_not : {e : ConnEvent H} → Give (Some e) ≡ Give None → ⊥
  none_not is = cc is

  pub shut_not : ◌≡◌ {A = Turn H} (Give (Some event.Shut)) (Give (Some (event.Fault fault.Link))) → ⊥
  shut_not is = cc is

  pub of_give : {given other : Option (ConnEvent H)} → Give given ≡ Give other → given ≡ other
  of_give is = cc is

  -- the fact holds in any case
  pub always_again : (P : Type 0) (result : Turn H) → P → OnAgain result P
  always_again P Again is = is
  always_again P (Give given) is = tt
  always_again P Failed is = tt
  always_again P Wait is = tt

  -- no turn follows
  pub never_again : (P : Type 0) (result : Turn H) → OnAgain result ⊥ → OnAgain result P
  never_again P Again is = absurd is
  never_again P (Give given) is = tt
  never_again P Failed is = tt
  never_again P Wait is = tt

  -- nothing is waited for
  pub never_wait : (P : Type 0) (result : Turn H) → OnWait result ⊥ → OnWait result P
  never_wait P Again is = tt
  never_wait P (Give given) is = tt
  never_wait P Failed is = tt
  never_wait P Wait is = absurd is

  -- the turn gives something
  pub never_going : (P : Type 0) (result : Turn H) → OnGoing result ⊥ → OnGoing result P
  never_going P Again is = absurd is
  never_going P (Give given) is = tt
  never_going P Failed is = tt
  never_going P Wait is = absurd is

  pub gives_no_wait : (result : Turn H) → OnGoing result ⊥ → OnWait result ⊥
  gives_no_wait Again is = tt
  gives_no_wait (Give given) is = tt
  gives_no_wait Failed is = tt
  gives_no_wait Wait is = is

-- ---- what a poll answers

module _ {A : Type 0} where
  pub pending_not : {polled : Poll A} {x : A} → polled ≡ Pending → polled ≡ Ready x → ⊥
  pending_not pending ready = cc (pending, ready)

  pub of_ready : {x y : A} → Ready x ≡ Ready y → x ≡ y
  of_ready is = cc is

  pub ready_none_not : {x : A} → Ready (Some x) ≡ Ready None → ⊥
  ready_none_not is = cc is

-- where it succeeded
pub of_success : {A : Type 0} {polled : Poll (Result A LinkFault)} {answer : A} (P : Type 0) → polled ≡ Ready (Ok answer) → OnSuccess polled P → P
of_success P is holds = subst (λ polled. OnSuccess polled P) is holds

-- ---- what a call is made for

pub reads_write_not : Reads ≡ Writes → ⊥
reads_write_not is = cc is

pub reads_shut_not : Reads ≡ Shuts → ⊥
reads_shut_not is = cc is

pub writes_read_not : Writes ≡ Reads → ⊥
writes_read_not is = cc is

pub writes_shut_not : Writes ≡ Shuts → ⊥
writes_shut_not is = cc is

pub shuts_read_not : Shuts ≡ Reads → ⊥
shuts_read_not is = cc is

-- ---- how many calls failed

pub none_rose : {old mid new : ℕ} → new ≡ mid + 0 → mid ≡ old → new ≡ old
none_rose {old} {mid} {new} behind before = omega (arith, behind, before)

pub rose_not : {old new : ℕ} → new ≡ old → old < new → ⊥
rose_not {old} {new} same rose = omega (arith, same, rose)

pub none_more : (count : ℕ) → count ≡ count + 0
none_more count = omega arith

-- a call that was answered, failed or was pending
pub counted_ok : {A : Type 0} {new : ℕ} {polled : Poll (Result A LinkFault)} {answer : A} (old : ℕ) → new ≡ counted old polled → polled ≡ Ready (Ok answer) → new ≡ old + 0
counted_ok old counts is = counts ∙ ap (counted old) is ∙ none_more old

pub counted_pending : {A : Type 0} {new : ℕ} {polled : Poll (Result A LinkFault)} (old : ℕ) → new ≡ counted old polled → polled ≡ Pending → new ≡ old + 0
counted_pending old counts is = counts ∙ ap (counted old) is ∙ none_more old

pub counted_fault : {A : Type 0} {old new : ℕ} {polled : Poll (Result A LinkFault)} {fault : LinkFault} → new ≡ counted old polled → polled ≡ Ready (Err fault)
    → old < 2 ^ 64 - 1 → new ≡ old + 1
counted_fault {A} {old} {new} {polled} {fault} counts is can = let one : new ≡ min (old + 1) (2 ^ 64 - 1) = counts ∙ ap (counted old) is in omega (arith, one, can)

-- a call that was answered, and what the turn made of it
pub counted_heard : {mid new faults : ℕ} (old : ℕ) → new ≡ mid → mid ≡ old + 0 → faults ≡ 0 → new ≡ old + faults
counted_heard old same behind none = same ∙ behind ∙ sym (ap (λ n. old + n) none)

-- ---- how many calls were made

pub one_more : (count limit : ℕ) → count < limit → count + 1 ≤ limit
one_more count limit below = omega (arith, below)

pub just_all : (count limit : ℕ) → limit ≤ count → count ≤ limit → count ≡ limit
just_all count limit least most = omega (arith, least, most)

-- ---- how much is left

pub none_below : {count : ℕ} (left : ℕ) → count ≡ 0 → count ≤ left
none_below left none = omega (arith, none)

pub rest_below : {rest left : ℕ} (before waits count : ℕ) → rest ≡ before - count → before ≤ waits → left ≡ waits - count → rest ≤ left
rest_below {rest} {left} before waits count is most long = omega (arith, is, most, long)

-- ---- whether something is held or left

pub some_of : {A : Type 0} (len : ℕ) (held : List A) (empty : Bool) → len ≡ length held → empty ≡ (len == 0) → empty ≡ false → held ≢ []
some_of len held empty long is not none = both_not (is ∙ eq-eqb len 0 (long ∙ ap length none)) not

pub empty_of : {A : Type 0} (len : ℕ) (held : List A) (empty : Bool) → len ≡ length held → empty ≡ (len == 0) → empty ≡ true → held ≡ []
empty_of len held empty long is so = none_of held (sym long ∙ eqb-true len 0 (sym is ∙ so))
