-- What the order in which handlers were made, and putting them into it, come to, said without their steps.
-- Source: this project's profile.
use Rattle.std.specs.Prelude.{◌≡◌, ℕ, suc, ◌==◌, ◌⊎◌, if◌then◌else◌, List, [], ◌∷◌, ◌++◌, map}
use Rattle.held_order.specs.Orders.{without, arranged}

-- how often a number stands there
abbrev pub times : ℕ → List ℕ → ℕ
times n [] = 0
times n (m ∷ order) = if m == n then suc (times n order) else times n order

-- the streams of these handlers, by their numbers
abbrev pub numbers : {H : Type 0} → List (ℕ × H) → List ℕ
numbers held = map (λ one. one.0) held

-- the handlers of the streams of this number
abbrev pub of_number : {H : Type 0} → ℕ → List (ℕ × H) → List H
of_number n [] = []
of_number n (one ∷ held) = if one.0 == n then one.1 ∷ of_number n held else of_number n held

-- Of what was made the newest of a stream goes, and nothing else; what has none stays as it is.
abbrev pub LetsGo : Type 0
LetsGo = (n : ℕ) (newest : List ℕ)
    → ((newer : List ℕ) × (older : List ℕ) × (newest ≡ newer ++ n ∷ older) × (times n newer ≡ 0)
    × (without n newest ≡ newer ++ older))
    ⊎ ((times n newest ≡ 0) × (without n newest ≡ newest))

-- What is put in order is all that is held: each stream has its handlers, in the order in which they were held. Where
-- the order names each stream as often as it is held, it is followed. There is one list of which both is true.
pub record Arranges (H : Type 0) : Type 0 where
  pub all : (n : ℕ) (order : List ℕ) (held : List (ℕ × H)) → of_number n (arranged order held) ≡ of_number n held
  pub follows : (order : List ℕ) (held : List (ℕ × H)) → ((n : ℕ) → times n order ≡ times n (numbers held))
      → numbers (arranged order held) ≡ order
  pub one_list : (some other : List (ℕ × H)) → numbers some ≡ numbers other
      → ((n : ℕ) → of_number n some ≡ of_number n other) → some ≡ other
