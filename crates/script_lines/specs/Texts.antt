-- The lines of a script: what stands between its line feeds.
-- Source: this project's profile, the input of `node replay` and of `node trace`.
use Rattle.std.specs.Prelude.{◌≡◌, ◌≢◌, ◌⊎◌, ℕ, ◌<◌, List, [], ◌∷◌, ◌++◌, length, slice_index, flat_map, All}

-- The longest script that is played, in bytes.
abbrev pub longest : ℕ
longest = 1048576

abbrev pub HasNoFeed : List ℕ → Type 0
HasNoFeed text = (place : ℕ) → place < length text → slice_index text place ≢ 10

-- Lines that a line feed ends each.
abbrev pub ended : List (List ℕ) → List ℕ
ended lines = flat_map (λ text. text ++ 10 ∷ []) lines

-- These lines stand in front, and this is the rest.
abbrev pub LeadsLines : List ℕ → List (List ℕ) → List ℕ → Type 0
LeadsLines script lines rest = (script ≡ ended lines ++ rest) × All HasNoFeed lines

-- These are its lines, the last of which ends with it.
abbrev pub AreLines : List ℕ → List (List ℕ) → List ℕ → Type 0
AreLines script lines last = LeadsLines script lines last × HasNoFeed last

-- Behind these lines stands this one, which a line feed ends, or the script.
abbrev pub HasLine : List ℕ → List (List ℕ) → List ℕ → Type 0
HasLine script lines text = HasNoFeed text
    × (AreLines script lines text ⊎ ((rest : List ℕ) × LeadsLines script lines (text ++ 10 ∷ rest)))
