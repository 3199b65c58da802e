-- The rule of the word that holds the length of the history, and what its steps tell.
-- Inside: no public clause cites it.
use Rattle.std.specs.Prelude.{ℕ, ◌≡◌, ◌==◌, true, List, [], ◌∷◌, ◌++◌, length, MatchBool}
use Rattle.logbook.specs.Pages.{Cell, Step, View, Book, Named}
use Rattle.pool_state.specs.History.{Entry}

-- The first word is the length of the history. A book has two words, of which this one leaves the second at 0.
pub record IsKept (cells : List Cell) (log : List Entry) : Type 0 where
  pub words : cells ≡ (length log, true) ∷ (0, true) ∷ []

abbrev pub word_of : Book → Named
word_of b = record { tracked = true; key = 0; book = b }

-- the history so far was seen, and its length found
abbrev pub Looks : Step Entry → View Entry ℕ → ℕ → View Entry ℕ → Type 0
Looks s v found w = length w.0 ≡ found

-- the entry was added to all that had been seen, or the history was longer
abbrev pub Adds : Step Entry → View Entry ℕ → ℕ → View Entry ℕ → Type 0
Adds s v found w = MatchBool (found == s.old) (w.0 ≡ v.0 ++ s.ask ∷ []) (Unit {0})

-- a beginning of a history, and of which
pub record Beginning : Type 0 where
  pub book : Book
  pub log : List Entry

abbrev pub beginning : Book → List Entry → Beginning
beginning b xs = record { book = b; log = xs }
