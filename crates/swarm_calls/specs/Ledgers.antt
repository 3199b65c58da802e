-- What a caller's share says.
-- Inside: no public clause cites it but for the blanks that a swarm is made with.
use Rattle.std.specs.Prelude.{◌≡◌, ℕ, suc, List, [], ◌∷◌}
use Rattle.swarm_calls.specs.declared.ledgers.Tally.{Tally}
use Rattle.swarm_calls.specs.declared.ledgers.Tally.TheVariants.{First, Second, Third, Fourth, Fifth, Sixth, Seventh}
use Rattle.swarm_calls.specs.declared.ledgers.Tally.TheVariants.{Eighth}

module _ {L A B C D E F G H : Type 0} where
  abbrev pub caller_of : Tally L A B C D E F G H → ℕ
  caller_of (First w) = 1
  caller_of (Second w) = 2
  caller_of (Third w) = 3
  caller_of (Fourth w) = 4
  caller_of (Fifth w) = 5
  caller_of (Sixth w) = 6
  caller_of (Seventh w) = 7
  caller_of (Eighth w) = 8

  abbrev pub amount_of : Tally L A B C D E F G H → ℕ
  amount_of (First w) = w
  amount_of (Second w) = w
  amount_of (Third w) = w
  amount_of (Fourth w) = w
  amount_of (Fifth w) = w
  amount_of (Sixth w) = w
  amount_of (Seventh w) = w
  amount_of (Eighth w) = w

  -- the share of this caller, which has made no calls
  abbrev pub IsNew : ℕ → Tally L A B C D E F G H → Type 0
  IsNew caller t = (caller_of t ≡ caller) × (amount_of t ≡ 0)

  -- the shares of the callers from this number on, which have made no calls
  abbrev pub AreNew : ℕ → List (Tally L A B C D E F G H) → Type 0
  AreNew caller [] = Unit {0}
  AreNew caller (t ∷ ts) = IsNew caller t × AreNew (suc caller) ts
