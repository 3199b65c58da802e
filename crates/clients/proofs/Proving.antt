-- What a caller knows of an end of an exchange.
use Rattle.std.proofs.Common.{◌≡◌, ◌≢◌, ◌⊎◌, inl, inr, ℕ, List, length, Option, Some, Result, Ok, Err, refl, sym, subst}
use Rattle.std.specs.Prelude.{IfOk, IfErr}
use Rattle.peer_ids.specs.Key.{Key, IsAllowed}
use Rattle.peer_ids.specs.declared.fault.KeyFault.{KeyFault}
use Rattle.peer_ids.specs.declared.fault.KeyFault.TheVariants as key_faults
use Rattle.plaintext_x.specs.declared.fault.ExchangeFault.{ExchangeFault}
use Rattle.plaintext_x.specs.declared.fault.ExchangeFault.TheVariants.{Failed, TooLong, Wire, NoId, NoKey, BadKey, Differs, OutOfMemory}
use Rattle.plaintext_x.specs.declared.run.Exchanged.{Exchanged}
use Rattle.plaintext_x.specs.Exchange.{Exchanges, message_of, of_key_fault, OneOutcome, OwnIsProven}

is_memory : (fault : ExchangeFault) → ¬ (fault ≢ OutOfMemory) → fault ≡ OutOfMemory
is_memory Failed not = absurd (not (λ is. cc))
is_memory TooLong not = absurd (not (λ is. cc))
is_memory Wire not = absurd (not (λ is. cc))
is_memory NoId not = absurd (not (λ is. cc))
is_memory NoKey not = absurd (not (λ is. cc))
is_memory BadKey not = absurd (not (λ is. cc))
is_memory Differs not = absurd (not (λ is. cc))
is_memory OutOfMemory not = refl

-- a key that isn't read
pub of_key : (fault : KeyFault) → (of_key_fault fault ≡ BadKey) ⊎ (of_key_fault fault ≡ OutOfMemory)
of_key key_faults.Wire = inl refl
of_key key_faults.NoType = inl refl
of_key key_faults.NoData = inl refl
of_key key_faults.UnknownType = inl refl
of_key key_faults.BadLength = inl refl
of_key key_faults.OutOfMemory = inr refl

-- what a whole exchange says
pub record Runs (input : List ℕ) (r : Result Exchanged ExchangeFault) : Type 0 where
  pub ok : IfOk r (λ done. (used : ℕ) × Exchanges input (Ok done.proven) used)
  pub err : IfErr r (λ fault. fault ≢ OutOfMemory → Exchanges input (Err fault) (length input))

pub runs_as : (input other : List ℕ) (r : Result Exchanged ExchangeFault) → other ≡ input → Runs other r → Runs input r
runs_as input other r is runs = subst (λ (t : List ℕ). Runs t r) is runs

abbrev answered : Option Key → Result (Option Key) ExchangeFault
answered proven = Ok proven

abbrev refused : ExchangeFault → Result (Option Key) ExchangeFault
refused fault = Err fault

same_proven : (a b : Option Key) → answered a ≡ answered b → a ≡ b
same_proven a b e = cc

same_fault : (f g : ExchangeFault) → refused f ≡ refused g → f ≡ g
same_fault f g e = cc

no_fault : (a : Option Key) (f : ExchangeFault) → ¬ (answered a ≡ refused f)
no_fault a f e = absurd (cc)

no_memory : (a : Option Key) → answered a ≢ refused OutOfMemory
no_memory a e = absurd (cc)

fit : (f : ExchangeFault) → f ≢ OutOfMemory → refused f ≢ refused OutOfMemory
fit f fits e = fits (same_fault f OutOfMemory e)

-- ---- an end that is fed another's message

module _ (own : OwnIsProven) (one : OneOutcome) (key : Key) (allowed : IsAllowed key.kind (length key.body)) (input : List ℕ) (is : input ≡ message_of key) where
  proves : Exchanges input (Ok (Some key)) (length (message_of key))
  proves = subst (λ (t : List ℕ). Exchanges t (Ok (Some key)) (length (message_of key))) (sym is) (own key allowed)

  known : (other : Result (Option Key) ExchangeFault) (used : ℕ) → other ≢ Err OutOfMemory → Exchanges input other used → other ≡ Ok (Some key)
  known other used fits told = (one input other (Ok (Some key)) used (length (message_of key)) fits (no_memory (Some key)) told proves).0

  pub is_proven : (r : Result Exchanged ExchangeFault) → Runs input r → IfOk r (λ done. done.proven ≡ Some key)
  is_proven (Ok done) runs = same_proven done.proven (Some key) (known (Ok done.proven) runs.ok.0 (no_memory done.proven) runs.ok.1)
  is_proven (Err fault) runs = tt

  pub is_wanting : (r : Result Exchanged ExchangeFault) → Runs input r → IfErr r (λ fault. fault ≡ OutOfMemory)
  is_wanting (Ok done) runs = tt
  is_wanting (Err fault) runs = is_memory fault (λ fits. no_fault (Some key) fault (sym (known (Err fault) (length input) (fit fault fits) (runs.err fits))))
