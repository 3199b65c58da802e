-- A script that is played line by line.
-- Source: this project's profile, `node replay` and `node trace`.
use Rattle.std.specs.Prelude.{◌≡◌, ℕ, List, [], ◌∷◌, ◌++◌}

-- Lines that are played one behind the other, where this is said of one line: from where, the line, what it prints, and
-- to where.
module _ {S : Type 0} (PlaysLine : S → List ℕ → List ℕ → S → Type 0) where
  abbrev pub PlaysEach : S → List (List ℕ) → List ℕ → S → Type 0
  PlaysEach from [] printed to = (printed ≡ []) × (to ≡ from)
  PlaysEach from (text ∷ texts) printed to = (first : List ℕ) × (rest : List ℕ) × (middle : S)
      × PlaysLine from text first middle × PlaysEach middle texts rest to × (printed ≡ first ++ rest)
