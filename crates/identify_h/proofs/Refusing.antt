-- A call that is answered is refused for want of memory alone.
use Rattle.std.proofs.Common.{◌≡◌, ℕ, Bool, true, false, ◌||◌, List, ◌++◌, ◌<◌, min, length, None, refl, sym, ◌∙◌, ap, subst, arith}
use Rattle.std.specs.Prelude.{if◌then◌else◌, is_some}
use Rattle.std.proofs.lemmas.List.{length-take}
use Rattle.handlers.specs.Calls.{HandlerCall, Take, Give, End, ToTake, ToGive, ToEnd, Arises, EndsAs, taken}
use Rattle.identify_h.specs.declared.fault.IdentifyFault.{IdentifyFault}
use Rattle.identify_h.specs.declared.fault.IdentifyFault.TheVariants.{Failed, TooLong, TooMany, Wire, OtherKey, Cut, OutOfMemory}
use Rattle.identify_h.specs.Faults.{number_of}
use Rattle.identify_h.specs.Messages.{Message}
use Rattle.identify_h.specs.Streams.{GoesOn, TakeFails, EndFails, Reads}
use Rattle.identify_h.specs.Sending.{Sending, SendStep, SendFails}
use Rattle.identify_h.specs.Reading.{Reader, Stands, IsFresh, ReadStep, ReadFails, is_over}
use Rattle.identify_h.proofs.Outcomes.{one_outcome}
use Rattle.identify_h.proofs.Read.{goes_after}

-- ---- the end that reads

goes_on : (input : List ℕ) (r : Reader) → Stands input r → GoesOn input
goes_on input r at = record { bodies = at.bodies; rest = at.rest; begins = at.begins; part = at.part }

taken_fails : (input bytes : List ℕ) (s : Reader) (fault : IdentifyFault) → Stands (input ++ bytes) s → TakeFails input bytes fault
    → number_of fault ≡ number_of OutOfMemory
taken_fails input bytes s OutOfMemory at fails = refl
taken_fails input bytes s Failed at fails = absurd (one_outcome.goes (input ++ bytes) Failed (goes_on (input ++ bytes) s at) fails)
taken_fails input bytes s TooLong at fails = absurd (one_outcome.goes (input ++ bytes) TooLong (goes_on (input ++ bytes) s at) fails)
taken_fails input bytes s TooMany at fails = absurd (one_outcome.goes (input ++ bytes) TooMany (goes_on (input ++ bytes) s at) fails)
taken_fails input bytes s Wire at fails = absurd (one_outcome.goes (input ++ bytes) Wire (goes_on (input ++ bytes) s at) fails)
taken_fails input bytes s OtherKey at fails = absurd (one_outcome.goes (input ++ bytes) OtherKey (goes_on (input ++ bytes) s at) fails)
taken_fails input bytes s Cut at fails = absurd (one_outcome.goes (input ++ bytes) Cut (goes_on (input ++ bytes) s at) fails)

pub reader_take : (input bytes : List ℕ) (r s : Reader) (n : ℕ) → Stands input r → ReadStep r (Take bytes) s → ReadFails r (ToTake bytes) n
    → n ≡ number_of OutOfMemory
reader_take input bytes r s n at step fails =
    fails.1 ∙ taken_fails input bytes s fails.0 (step.stands input at) (fails.3 step.going input at)

ended_fails : (peer input : List ℕ) (m : Message) (fault : IdentifyFault) → Reads peer input m → EndFails peer input fault
    → number_of fault ≡ number_of OutOfMemory
ended_fails peer input m OutOfMemory reads fails = refl
ended_fails peer input m Failed reads fails = absurd (one_outcome.either peer input m Failed (λ e. cc) reads fails)
ended_fails peer input m TooLong reads fails = absurd (one_outcome.either peer input m TooLong (λ e. cc) reads fails)
ended_fails peer input m TooMany reads fails = absurd (one_outcome.either peer input m TooMany (λ e. cc) reads fails)
ended_fails peer input m Wire reads fails = absurd (one_outcome.either peer input m Wire (λ e. cc) reads fails)
ended_fails peer input m OtherKey reads fails = absurd (one_outcome.either peer input m OtherKey (λ e. cc) reads fails)
ended_fails peer input m Cut reads fails = absurd (one_outcome.either peer input m Cut (λ e. cc) reads fails)

pub reader_end : (input : List ℕ) (r s : Reader) (n : ℕ) → Stands input r → ReadStep r End s → ReadFails r ToEnd n
    → n ≡ number_of OutOfMemory
reader_end input r s n at step fails =
    let read = step.1 in
    let m : Message = read.0 in
    fails.1 ∙ ended_fails r.peer input m fails.0 (read.2 input at) (fails.3 step.0 input at)

-- what goes on is refused by the fault of all that it was handed
going : (r : Reader) → r.failed ≡ false → r.message ≡ None → is_over r ≡ false
going r goes none = ap (λ (b : Bool). b || is_some r.message) goes ∙ ap is_some none

pub told_take : (peer : List ℕ) (calls : List HandlerCall) (made r : Reader) → IsFresh peer made → EndsAs calls false → Arises ReadStep made calls r
    → (bytes : List ℕ) (n : ℕ) → ReadFails r (ToTake bytes) n → (fault : IdentifyFault) × (n ≡ number_of fault) × TakeFails (taken calls) bytes fault
told_take peer calls made r fresh ends came bytes n fails =
    let goes = goes_after peer calls made r fresh ends came in
    (fails.0, fails.1, fails.3 (going r goes.stands.going goes.none) (taken calls) goes.stands)

pub told_end : (peer : List ℕ) (calls : List HandlerCall) (made r : Reader) → IsFresh peer made → EndsAs calls false → Arises ReadStep made calls r
    → (n : ℕ) → ReadFails r ToEnd n → (fault : IdentifyFault) × (n ≡ number_of fault) × EndFails peer (taken calls) fault
told_end peer calls made r fresh ends came n fails =
    let goes = goes_after peer calls made r fresh ends came in (
      fails.0,
      fails.1,
      subst (λ (p : List ℕ). EndFails p (taken calls) fails.0) goes.peer_is (fails.3 (going r goes.stands.going goes.none) (taken calls) goes.stands),
    )

pub reader_give : (r s : Reader) (room : ℕ) (bytes : List ℕ) (n : ℕ) → ReadStep r (Give room bytes) s → ReadFails r (ToGive room) n → ⊥
reader_give r s room bytes n step fails = let never : false ≡ true = sym step.0 ∙ fails.1 in cc

-- ---- the end that sends

pub sender_take : (old new : Sending) (bytes : List ℕ) (n : ℕ) → SendStep old (Take bytes) new → SendFails old (ToTake bytes) n → ⊥
sender_take old new bytes n step fails = let never : false ≡ true = sym step.0 ∙ fails.1 in cc

pub sender_end : (old new : Sending) (n : ℕ) → SendStep old End new → SendFails old ToEnd n → ⊥
sender_end old new n step fails = let never : false ≡ true = sym step.0 ∙ fails.1 in cc

pub sender_give : (old new : Sending) (room : ℕ) (bytes : List ℕ) (n : ℕ) → SendStep old (Give room bytes) new → SendFails old (ToGive room) n
    → (n ≡ number_of OutOfMemory) × (0 < length bytes)
sender_give old new room bytes n step fails =
    let some : 0 < min room (length old.unsent) = fails.1 step.0 in
    let size = length-take room old.unsent in
    let same = ap length step.1 in (
      fails.0 ∙ ap (λ (b : Bool). number_of (if b then Failed else OutOfMemory)) step.0,
      omega arith,
    )
