-- What goes on is answered, and what has failed or ended is refused.
use Rattle.std.proofs.Common.{◌≡◌, ◌↔◌, ℕ, Bool, true, false, ◌||◌, List, [], min, length, take, refl, sym, ◌∙◌, ap}
use Rattle.std.specs.Prelude.{if◌then◌else◌}
use mathlib.Core.List.{IsPrefix}
use Rattle.handlers.specs.Calls.{HandlerCall, Take, Give, End, Asked, ToTake, ToGive, ToEnd, HasFailed, HasEnded}
use Rattle.ping_h.specs.declared.fault.PingFault.{PingFault}
use Rattle.ping_h.specs.declared.fault.PingFault.TheVariants.{Failed, WrongEcho, Cut, OutOfMemory}
use Rattle.ping_h.specs.Faults.{number_of}
use Rattle.ping_h.specs.Echoes.{Echo, EchoStep, EchoFails, is_over, whole}
use Rattle.ping_h.specs.Rounds.{Round, RoundStep, RoundFails}
use Rattle.ping_h.specs.Rounds as rounds

first_holds : (a b : Bool) → a ≡ true → (a || b) ≡ true
first_holds a b h = rw h refl

second_holds : (a b : Bool) → b ≡ true → (a || b) ≡ true
second_holds true b h = refl
second_holds false b h = h

pub neither : (a b : Bool) → a ≡ false → b ≡ false → (a || b) ≡ false
neither a b h k = rw (h, k) refl

not_both : (b : Bool) → b ≡ true → b ≡ false → ⊥
not_both b h k = let never : true ≡ false = sym h ∙ k in cc

-- what is over fails by that alone
over_refuses : {P : Type 0} (over : Bool) (fault : PingFault) (n : ℕ) → over ≡ true
    → ((n ≡ number_of (if over then Failed else fault)) × (over ≡ false → P)) ↔ (n ≡ number_of Failed)
over_refuses over fault n h = (
  λ fails. fails.0 ∙ ap (λ (b : Bool). number_of (if b then Failed else fault)) h,
  λ is. (is ∙ ap (λ (b : Bool). number_of (if b then Failed else fault)) (sym h), λ going. absurd (not_both over h going)),
)

-- ---- the end that answers

pub echo_takes : (e : Echo) (bytes : List ℕ) → e.failed ≡ false → e.ended ≡ false → (f : Echo) × EchoStep e (Take bytes) f
echo_takes e bytes going early = (_, (neither e.failed e.ended going early, refl))

pub echo_gives : (e : Echo) (room : ℕ) → e.failed ≡ false → (bytes : List ℕ) × (f : Echo) × EchoStep e (Give room bytes) f
echo_gives e room going = (take (min room (whole e)) e.owed, _, (going, refl, refl))

pub echo_ends : (e : Echo) → e.failed ≡ false → e.ended ≡ false → e.begun ≡ 0 → (f : Echo) × EchoStep e End f
echo_ends e going early between = (_, (neither e.failed e.ended going early, between, refl))

echo_is_over : (e : Echo) → e.failed ≡ true → is_over e ≡ true
echo_is_over e h = first_holds e.failed e.ended h

echo_stays : (e : Echo) (call : HandlerCall) (f : Echo) → e.failed ≡ true → ¬ EchoStep e call f
echo_stays e (Take bytes) f h step = not_both (is_over e) (echo_is_over e h) step.0
echo_stays e (Give room bytes) f h step = not_both e.failed h step.0
echo_stays e End f h step = not_both (is_over e) (echo_is_over e h) step.0

echo_refuses : (e : Echo) (asked : Asked) (n : ℕ) → e.failed ≡ true → EchoFails e asked n ↔ (n ≡ number_of Failed)
echo_refuses e (ToTake bytes) n h = over_refuses (is_over e) OutOfMemory n (echo_is_over e h)
echo_refuses e (ToGive room) n h = over_refuses e.failed OutOfMemory n h
echo_refuses e ToEnd n h = over_refuses (is_over e) Cut n (echo_is_over e h)

pub echo_failed : (e : Echo) → e.failed ≡ true → HasFailed EchoStep EchoFails (number_of Failed) e
echo_failed e h = record { answers = λ call next. echo_stays e call next h; refuses = λ asked n. echo_refuses e asked n h }

pub echo_ended : (e : Echo) → e.ended ≡ true → HasEnded EchoStep EchoFails (number_of Failed) e
echo_ended e h = let over : is_over e ≡ true = second_holds e.failed e.ended h in record {
  takes = λ bytes next step. not_both (is_over e) over step.0;
  ends = λ next step. not_both (is_over e) over step.0;
  refuses = λ bytes n. over_refuses (is_over e) OutOfMemory n over;
  refuses_an_end = λ n. over_refuses (is_over e) Cut n over;
}

-- ---- the end that asks

pub round_takes : (r : Round) (bytes : List ℕ) → r.failed ≡ false → r.ended ≡ false → IsPrefix bytes r.awaited
    → (s : Round) × RoundStep r (Take bytes) s
round_takes r bytes going early awaited = (_, (neither r.failed r.ended going early, awaited, refl))

pub round_gives : (r : Round) (room : ℕ) → r.failed ≡ false → (bytes : List ℕ) × (s : Round) × RoundStep r (Give room bytes) s
round_gives r room going = (take room r.unsent, _, (going, refl, refl))

pub round_ends : (r : Round) → r.failed ≡ false → r.ended ≡ false → r.awaited ≡ [] → (s : Round) × RoundStep r End s
round_ends r going early all = (_, (neither r.failed r.ended going early, ap length all, refl))

round_is_over : (r : Round) → r.failed ≡ true → rounds.is_over r ≡ true
round_is_over r h = first_holds r.failed r.ended h

round_stays : (r : Round) (call : HandlerCall) (s : Round) → r.failed ≡ true → ¬ RoundStep r call s
round_stays r (Take bytes) s h step = not_both (rounds.is_over r) (round_is_over r h) step.0
round_stays r (Give room bytes) s h step = not_both r.failed h step.0
round_stays r End s h step = not_both (rounds.is_over r) (round_is_over r h) step.0

round_refuses : (r : Round) (asked : Asked) (n : ℕ) → r.failed ≡ true → RoundFails r asked n ↔ (n ≡ number_of Failed)
round_refuses r (ToTake bytes) n h = over_refuses (rounds.is_over r) WrongEcho n (round_is_over r h)
round_refuses r (ToGive room) n h = over_refuses r.failed OutOfMemory n h
round_refuses r ToEnd n h = over_refuses (rounds.is_over r) Cut n (round_is_over r h)

pub round_failed : (r : Round) → r.failed ≡ true → HasFailed RoundStep RoundFails (number_of Failed) r
round_failed r h = record { answers = λ call next. round_stays r call next h; refuses = λ asked n. round_refuses r asked n h }

pub round_ended : (r : Round) → r.ended ≡ true → HasEnded RoundStep RoundFails (number_of Failed) r
round_ended r h = let over : rounds.is_over r ≡ true = second_holds r.failed r.ended h in record {
  takes = λ bytes next step. not_both (rounds.is_over r) over step.0;
  ends = λ next step. not_both (rounds.is_over r) over step.0;
  refuses = λ bytes n. over_refuses (rounds.is_over r) WrongEcho n over;
  refuses_an_end = λ n. over_refuses (rounds.is_over r) Cut n over;
}
